use Rattle.std.proofs.Common.{◌≡◌, take}
use Rattle.dv_posts.proofs.posted.copy_of_batch.Given as goal

abbrev pub invariant-loop-posted : goal.invariant-loop-posted
invariant-loop-posted l = l.copy ≡ take l.posted-index l.batch
