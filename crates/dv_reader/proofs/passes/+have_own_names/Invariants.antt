use Rattle.std.proofs.Common.{length}
use Rattle.dv_reader.proofs.passes.+have_own_names.Given as goal

abbrev pub decreases-have_own_names : goal.decreases-have_own_names
decreases-have_own_names l = length l.bodies.now
