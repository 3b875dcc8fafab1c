use Rattle.std.proofs.Common.{◌≡◌, ◌++◌, drop}
use Rattle.dv_left.specs.Left.{left_loops}
use Rattle.dv_left.specs.Lists.{list_at}
use Rattle.dv_left.proofs.telling.add_loops.Given as goal

abbrev pub invariant-loop-number : goal.invariant-loop-number
invariant-loop-number l =
    l.left ++ left_loops (λ n. list_at n l.waits) l.calls l.number (drop l.number l.loops)
    ≡ l.initial.left ++ left_loops (λ n. list_at n l.waits) l.calls 0 l.loops
