use Rattle.std.proofs.Common.{◌≡◌, ◌+◌, ◌++◌, length}
use Rattle.dv_left.specs.Left.{left_queues}
use Rattle.dv_left.proofs.telling.add_queues.Given as goal

-- the queues that are left come next
abbrev pub invariant-loop-number : goal.invariant-loop-number
invariant-loop-number l =
    (l.number + length l.further ≡ length l.initial.further)
    × (l.left ++ left_queues l.number l.further ≡ l.initial.left ++ left_queues 0 l.initial.further)
