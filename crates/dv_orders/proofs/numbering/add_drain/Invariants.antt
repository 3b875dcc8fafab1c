use Rattle.std.proofs.Common.{◌≡◌, ℕ, ◌<◌, ◌≤◌, length, min, slice_index}
use Rattle.dv_orders.specs.Counted.{IsLine}
use Rattle.dv_orders.specs.Numbers.{sum_over_splits}
use Rattle.dv_orders.proofs.numbering.add_drain.Given as goal

-- the numbers from here on are those with the drain, and the others those after it
abbrev pub invariant-loop-place : goal.invariant-loop-place
invariant-loop-place l = record {
  within : l.place ≤ length l.line.items;
  len : length l.line.items ≡ length l.initial.line.items;
  next : (number : ℕ → ℕ) → IsLine number l.cap l.initial.line.items → (k : ℕ) → l.place ≤ k → k < length l.line.items
      → slice_index l.line.items k ≡ min (sum_over_splits number l.most k) l.cap;
  after : (k : ℕ) → k < l.place → slice_index l.line.items k ≡ slice_index l.initial.line.items k;
}

abbrev pub decreases-loop-place : goal.decreases-loop-place
decreases-loop-place l = l.place
