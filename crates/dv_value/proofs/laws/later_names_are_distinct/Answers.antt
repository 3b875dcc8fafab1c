use Rattle.dv_value.proofs.Names.{later_names_are_distinct}
use Rattle.dv_value.proofs.laws.later_names_are_distinct.Goals as goal

pub returns : goal.returns
returns c = later_names_are_distinct
