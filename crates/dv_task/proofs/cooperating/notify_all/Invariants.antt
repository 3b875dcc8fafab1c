use Rattle.std.proofs.Common.{◌≡◌, ◌++◌, drop}
use Rattle.dv_definition.specs.Definition as page
use Rattle.dv_task.proofs.cooperating.notify_all.Given as goal

-- the frames of the Deferreds from this place on are on the stack
abbrev pub invariant-loop-place : goal.invariant-loop-place
invariant-loop-place l = l.stack ≡ page.notify_all l.task (drop l.place l.waiting) ++ l.fn.stack
