use Rattle.std.proofs.Common.{◌≡◌, ℕ, ◌+◌, ◌≤◌, min}
use Rattle.dv_orders.specs.Counted.{StartsWith}
use Rattle.dv_orders.specs.Numbers.{sum_over_splits}
use Rattle.dv_orders.proofs.NumberLemmas.{sum_of_others}
use Rattle.dv_orders.proofs.numbering.sum_over_splits.Given as goal

-- with the others it is the whole sum
abbrev pub invariant-loop-left : goal.invariant-loop-left
invariant-loop-left l = record {
  within : l.left ≤ l.count;
  whole : (number : ℕ → ℕ) → StartsWith number l.cap l.line (l.count + 1)
      → (l.total ≤ l.cap) × (min (l.total + sum_of_others number l.most l.left) l.cap
      ≡ min (sum_over_splits number l.initial.most l.count) l.cap);
}

abbrev pub decreases-loop-left : goal.decreases-loop-left
decreases-loop-left l = l.left
