use Rattle.dv_store.proofs.CallbacksLemmas.{step-uses_one}
use Rattle.dv_store.proofs.laws.step_uses_one_item_at_most.Goals as goal

pub returns : goal.returns
returns g c = step-uses_one g.P.Sides.passes_at
