use Rattle.dv_world.proofs.TaskLemmas.{ends_stay, ended_are_left_alone}
use Rattle.dv_world.proofs.laws.tasks_end_once.Goals as goal

pub returns-clause-stays : goal.returns-clause-stays
returns-clause-stays c = ends_stay

pub returns-clause-again : goal.returns-clause-again
returns-clause-again c = ended_are_left_alone
