use Rattle.dv_value.proofs.Paths.{builtin_paths_go_up}
use Rattle.dv_value.proofs.laws.builtin_paths_go_up.Goals as goal

pub returns : goal.returns
returns c = builtin_paths_go_up
