use Rattle.dv_laws.proofs.TasksLemmas.{tasks_end_once}
use Rattle.dv_laws.proofs.laws.tasks_end.Goals as goal

pub returns : goal.returns
returns c = record { once = tasks_end_once }
