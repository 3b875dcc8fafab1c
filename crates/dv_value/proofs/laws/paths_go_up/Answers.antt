use Rattle.dv_value.proofs.Paths.{paths_go_up}
use Rattle.dv_value.proofs.laws.paths_go_up.Goals as goal

pub returns : goal.returns
returns c = paths_go_up
