use Rattle.std.proofs.Common.{◌≡◌, ◌++◌, drop}
use Rattle.dv_definition.specs.Definition as page
use Rattle.dv_defer.proofs.cancelling.cancel_children.Given as goal

-- the frames of the children from this place on are on the stack
abbrev pub invariant-loop-place : goal.invariant-loop-place
invariant-loop-place l = l.stack ≡ page.cancel_children (drop l.place l.children) ++ l.fn.stack
