use Rattle.std.proofs.Common.{◌≡◌, length, take}
use Rattle.dv_posts.specs.Batches.{joined}
use Rattle.dv_posts.specs.Taking.{Counted}
use Rattle.dv_orders.proofs.checking.posts_fault.Given as goal

-- the posts of the batches so far are counted
abbrev pub invariant-loop-number : goal.invariant-loop-number
invariant-loop-number l = record {
  len : length l.counts.items ≡ length l.callers;
  counted : Counted l.callers l.counts.items (joined (take l.number l.batches));
}
