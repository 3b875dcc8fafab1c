use Rattle.std.proofs.Common.{◌≡◌, ◌++◌, drop}
use Rattle.dv_left.specs.Left.{left_unhandled}
use Rattle.dv_left.proofs.telling.add_unhandled.Given as goal

abbrev pub invariant-loop-place : goal.invariant-loop-place
invariant-loop-place l =
    l.left ++ left_unhandled l.place (drop l.place l.entries) ≡ l.initial.left ++ left_unhandled 0 l.entries
