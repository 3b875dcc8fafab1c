use Rattle.std.proofs.Common.{◌≡◌, take}
use Rattle.dv_orders.proofs.batching.batch_of.Given as goal

-- the posts so far
abbrev pub invariant-loop-posted : goal.invariant-loop-posted
invariant-loop-posted l = l.batch ≡ take l.posted-index l.posts
