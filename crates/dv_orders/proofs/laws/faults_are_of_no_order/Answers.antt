use Rattle.dv_orders.proofs.CheckLemmas.{of_no_order}
use Rattle.dv_orders.proofs.laws.faults_are_of_no_order.Goals as goal

pub returns : goal.returns
returns c = of_no_order
