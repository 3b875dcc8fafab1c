use Rattle.std.proofs.Common.{◌≡◌, ◌++◌, drop}
use Rattle.dv_left.specs.Left.{left_calls}
use Rattle.dv_left.proofs.telling.add_calls.Given as goal

abbrev pub invariant-loop-call : goal.invariant-loop-call
invariant-loop-call l = l.left ++ left_calls (drop l.call-index l.calls) ≡ l.initial.left ++ left_calls l.calls
