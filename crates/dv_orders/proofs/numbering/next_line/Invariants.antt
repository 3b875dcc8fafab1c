use Rattle.std.proofs.Common.{◌≡◌, ℕ, ◌<◌, ◌≤◌, length, min, slice_index}
use Rattle.dv_orders.specs.Counted.{IsLine}
use Rattle.dv_orders.specs.Numbers.{next_line}
use Rattle.dv_orders.proofs.numbering.next_line.Given as goal

-- the numbers before here are those of the next line, and the others of the line above
abbrev pub invariant-loop-place : goal.invariant-loop-place
invariant-loop-place l = record {
  len : length l.line.items ≡ length l.initial.line.items;
  next : (above : ℕ → ℕ) → IsLine above l.cap l.initial.line.items → (k : ℕ) → k < length l.line.items → k < l.place
      → slice_index l.line.items k ≡ min (next_line above k) l.cap;
  above : (k : ℕ) → l.place ≤ k → slice_index l.line.items k ≡ slice_index l.initial.line.items k;
}
