use Rattle.dv_clock.proofs.ClockLemmas.{first_runs_next}
use Rattle.dv_clock.proofs.laws.the_first_runs_next.Goals as goal

pub returns : goal.returns
returns c = first_runs_next
