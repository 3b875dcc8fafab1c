use Rattle.std.proofs.Common.{◌≡◌, ◌<◌, ◌≤◌, ℕ, [], Some, length, slice_get, slice_index_or}
use Rattle.dv_orders.proofs.checking.shape_fault.Given as goal

-- the batches so far are short enough
abbrev pub invariant-loop-number : goal.invariant-loop-number
invariant-loop-number l =
    (k most : ℕ) → k < l.number → slice_get l.drains k ≡ Some most → length (slice_index_or l.batches k []) ≤ most
