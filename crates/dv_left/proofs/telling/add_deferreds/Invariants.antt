use Rattle.std.proofs.Common.{◌≡◌, ◌++◌, drop}
use Rattle.dv_left.specs.Left.{left_deferreds}
use Rattle.dv_left.specs.Lists.{list_at}
use Rattle.dv_left.proofs.telling.add_deferreds.Given as goal

abbrev pub invariant-loop-number : goal.invariant-loop-number
invariant-loop-number l =
    l.left ++ left_deferreds (λ d. list_at d l.hangs) l.number (drop l.number l.standings)
    ≡ l.initial.left ++ left_deferreds (λ d. list_at d l.hangs) 0 l.standings
