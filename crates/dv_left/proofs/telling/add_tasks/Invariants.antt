use Rattle.std.proofs.Common.{◌≡◌, ◌++◌, drop}
use Rattle.dv_left.specs.Left.{left_tasks}
use Rattle.dv_left.specs.Lists.{list_at}
use Rattle.dv_left.proofs.telling.add_tasks.Given as goal

abbrev pub invariant-loop-number : goal.invariant-loop-number
invariant-loop-number l =
    l.left ++ left_tasks (λ n. list_at n l.waits) l.number (drop l.number l.tasks)
    ≡ l.initial.left ++ left_tasks (λ n. list_at n l.waits) 0 l.tasks
