use Rattle.std.proofs.Common.{◌≡◌, ◌++◌, drop}
use Rattle.dv_left.specs.Left.{left_locks}
use Rattle.dv_left.proofs.telling.add_locks.Given as goal

abbrev pub invariant-loop-number : goal.invariant-loop-number
invariant-loop-number l = l.left ++ left_locks l.number (drop l.number l.locks) ≡ l.initial.left ++ left_locks 0 l.locks
