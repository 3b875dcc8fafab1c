use Rattle.std.proofs.Common.{◌<◌, ◌≤◌, ℕ, length, slice_index_or}
use Rattle.dv_posts.specs.Batches.{bodies_of}
use Rattle.dv_orders.proofs.checking.untaken.Given as goal

-- all posts of the callers so far are counted
abbrev pub invariant-loop-caller : goal.invariant-loop-caller
invariant-loop-caller l = (c : ℕ) → c < l.caller → length (bodies_of l.callers c) ≤ slice_index_or l.counts c 0
