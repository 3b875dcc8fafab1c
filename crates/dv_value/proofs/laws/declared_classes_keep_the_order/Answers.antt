use Rattle.dv_value.proofs.Paths.{declared_ordered}
use Rattle.dv_value.proofs.laws.declared_classes_keep_the_order.Goals as goal

pub returns : goal.returns
returns c = declared_ordered
