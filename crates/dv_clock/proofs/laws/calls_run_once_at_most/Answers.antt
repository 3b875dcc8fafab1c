use Rattle.dv_clock.proofs.ClockLemmas.{run_once}
use Rattle.dv_clock.proofs.laws.calls_run_once_at_most.Goals as goal

pub returns : goal.returns
returns c = run_once
