use Rattle.dv_value.proofs.Names.{builtin_names_are_distinct}
use Rattle.dv_value.proofs.laws.builtin_names_are_distinct.Goals as goal

pub returns : goal.returns
returns c = builtin_names_are_distinct
