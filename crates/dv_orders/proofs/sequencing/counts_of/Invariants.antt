use Rattle.std.proofs.Common.{◌≡◌, take}
use Rattle.dv_orders.specs.Orders.{counts_of}
use Rattle.dv_orders.proofs.sequencing.counts_of.Given as goal

-- those of the callers so far
abbrev pub invariant-loop-posts : goal.invariant-loop-posts
invariant-loop-posts l = l.counts.items ≡ counts_of (take l.posts-index l.callers)
