use Rattle.std.proofs.Common.{◌≡◌, ◌++◌, drop}
use Rattle.dv_definition.specs.Definition as page
use Rattle.dv_task.proofs.cooperating.halt_all.Given as goal

-- the frames of the tasks from this place on are on the stack
abbrev pub invariant-loop-place : goal.invariant-loop-place
invariant-loop-place l = l.stack ≡ page.halt_all (drop l.place l.tasks) ++ l.fn.stack
