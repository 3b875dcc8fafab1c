use Rattle.dv_value.proofs.Paths.{later_paths_go_up}
use Rattle.dv_value.proofs.laws.later_paths_go_up.Goals as goal

pub returns : goal.returns
returns c = later_paths_go_up
