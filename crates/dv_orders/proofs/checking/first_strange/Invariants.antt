use Rattle.std.proofs.Common.{◌≡◌, ◌++◌, length, take}
use Rattle.dv_posts.specs.Batches.{Batch}
use Rattle.dv_posts.specs.Taking.{Counted}
use Rattle.dv_orders.proofs.checking.first_strange.Given as goal

-- the posts so far are counted, whatever was before
abbrev pub invariant-loop-place : goal.invariant-loop-place
invariant-loop-place l = record {
  len : length l.counts.items ≡ length l.callers;
  counted : (before : Batch) → Counted l.callers l.initial.counts.items before
      → Counted l.callers l.counts.items (before ++ take l.place l.batch);
}
