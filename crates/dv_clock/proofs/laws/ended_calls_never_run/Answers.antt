use Rattle.dv_clock.proofs.ClockLemmas.{ended_never_run}
use Rattle.dv_clock.proofs.laws.ended_calls_never_run.Goals as goal

pub returns : goal.returns
returns c = ended_never_run
