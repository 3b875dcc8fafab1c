use Rattle.std.proofs.Common.{◌≡◌, ◌≤◌, ◌++◌, drop, length, sum}
use Rattle.dv_orders.specs.Batching.{cut_by}
use Rattle.dv_orders.proofs.batching.batches.Given as goal

-- the batches so far are in front of those of what is left
abbrev pub invariant-loop-length : goal.invariant-loop-length
invariant-loop-length l = record {
  cut : l.batches.items ++ cut_by (drop l.length-index l.lengths) l.rest ≡ cut_by l.lengths l.posts;
  fits : sum (drop l.length-index l.lengths) ≤ length l.rest;
}
