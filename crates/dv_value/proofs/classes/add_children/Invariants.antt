use Rattle.std.proofs.Common.{◌≡◌, ◌++◌, map, take}
use Rattle.dv_value.specs.Builtin.{children_of}
use Rattle.dv_value.proofs.classes.add_children.Given as goal

abbrev pub invariant-loop-child : goal.invariant-loop-child
invariant-loop-child l =
    l.classes.items ≡ l.fn.classes.items ++ children_of l.parent (map (λ name. name.now) (take l.child-index l.names))
