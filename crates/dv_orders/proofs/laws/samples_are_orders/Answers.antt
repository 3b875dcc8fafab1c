use Rattle.dv_orders.proofs.SampledLemmas.{all_orders}
use Rattle.dv_orders.proofs.laws.samples_are_orders.Goals as goal

pub returns : goal.returns
returns c = all_orders
