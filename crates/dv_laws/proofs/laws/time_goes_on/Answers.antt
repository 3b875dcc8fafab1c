use Rattle.dv_laws.proofs.CallsLemmas.{calls_in_time}
use Rattle.dv_laws.proofs.OrderLemmas.{calls_in_order}
use Rattle.dv_laws.proofs.TimesLemmas.{time_never_falls}
use Rattle.dv_laws.proofs.laws.time_goes_on.Goals as goal

pub returns-clause-falls : goal.returns-clause-falls
returns-clause-falls c = time_never_falls

pub returns-clause-calls : goal.returns-clause-calls
returns-clause-calls c = calls_in_time

pub returns-clause-order : goal.returns-clause-order
returns-clause-order c = calls_in_order
