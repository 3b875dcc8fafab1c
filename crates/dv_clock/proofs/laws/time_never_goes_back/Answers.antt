use Rattle.dv_clock.proofs.ClockLemmas.{time_kept}
use Rattle.dv_clock.proofs.laws.time_never_goes_back.Goals as goal

pub returns : goal.returns
returns c = time_kept
