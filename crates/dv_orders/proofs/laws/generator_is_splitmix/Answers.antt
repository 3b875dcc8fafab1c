use Rattle.std.proofs.Common.{refl}
use Rattle.dv_orders.proofs.laws.generator_is_splitmix.Goals as goal

pub returns : goal.returns
returns c = refl
