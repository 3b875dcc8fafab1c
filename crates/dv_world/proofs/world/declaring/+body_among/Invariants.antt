use Rattle.std.proofs.Common.{length}
use Rattle.dv_world.proofs.world.declaring.+body_among.Given as goal

abbrev pub decreases-body_among : goal.decreases-body_among
decreases-body_among l = length l.bodies.now
