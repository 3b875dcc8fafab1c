use Rattle.dv_clock.proofs.TurnsLemmas.{earlier_skips, fair_overtakes, fair_skips}
use Rattle.dv_clock.proofs.laws.nobody_is_skipped.Goals as goal

pub returns-clause-earlier : goal.returns-clause-earlier
returns-clause-earlier c = earlier_skips

pub returns-clause-fair : goal.returns-clause-fair
returns-clause-fair c = fair_skips

pub returns-clause-overtakes : goal.returns-clause-overtakes
returns-clause-overtakes c = fair_overtakes
