use Rattle.std.proofs.Common.{ℕ, ◌<◌, ◌≤◌, slice_index}
use Rattle.dv_orders.proofs.sequencing.caller_from.Given as goal

-- none of the callers so far has a post left
abbrev pub invariant-loop-caller : goal.invariant-loop-caller
invariant-loop-caller l = (k : ℕ) → l.from ≤ k → k < l.caller → slice_index l.counts k ≤ slice_index l.taken k
