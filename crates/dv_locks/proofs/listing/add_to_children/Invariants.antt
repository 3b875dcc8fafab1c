use Rattle.std.proofs.Common.{◌≡◌, ◌++◌, drop}
use Rattle.dv_definition.specs.Definition.{add_children}
use Rattle.dv_locks.proofs.listing.add_to_children.Given as goal

-- the frames of the children from this place on are on the stack
abbrev pub invariant-loop-place : goal.invariant-loop-place
invariant-loop-place l = l.stack ≡ add_children l.list l.of l.place (drop l.place l.children) ++ l.fn.stack
