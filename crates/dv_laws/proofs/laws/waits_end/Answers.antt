use Rattle.dv_laws.proofs.HandOversLemmas.{handed_in_turn}
use Rattle.dv_laws.proofs.WaitsLemmas.{waits_end}
use Rattle.dv_laws.proofs.laws.waits_end.Goals as goal

pub returns-clause-handed : goal.returns-clause-handed
returns-clause-handed c = waits_end

pub returns-clause-turns : goal.returns-clause-turns
returns-clause-turns c = handed_in_turn
