use Rattle.dv_store.proofs.ChainLaws.{chains_end}
use Rattle.dv_store.proofs.laws.chains_end.Goals as goal

pub returns : goal.returns
returns g c = chains_end
