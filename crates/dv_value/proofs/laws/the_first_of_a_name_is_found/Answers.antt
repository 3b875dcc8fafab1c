use Rattle.dv_value.proofs.Names.{the_first_is_found}
use Rattle.dv_value.proofs.laws.the_first_of_a_name_is_found.Goals as goal

pub returns : goal.returns
returns c = the_first_is_found
