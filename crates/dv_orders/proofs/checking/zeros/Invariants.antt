use Rattle.std.proofs.Common.{◌≡◌, ◌≤◌, replicate, length}
use Rattle.std.specs.Prelude.{vec_capacity}
use Rattle.dv_orders.proofs.checking.zeros.Given as goal

abbrev pub invariant-loop : goal.invariant-loop
invariant-loop l =
    (l.zeros.items ≡ replicate l.counter 0) × (length l.zeros.items ≡ l.counter) × (l.len ≤ vec_capacity l.zeros)
