use Rattle.std.proofs.Common.{◌≡◌, ◌∷◌, None, map, take}
use Rattle.dv_objects.specs.Cooperator.{named_cooperator, new_cooperator}
use Rattle.dv_objects.proofs.cooperators.Cooperators.new.Given as goal

-- the Cooperator that each script has, and those that are named up to this one
abbrev pub invariant-loop-one : goal.invariant-loop-one
invariant-loop-one l =
    l.all.items ≡ new_cooperator None l.fn.settings ∷ map named_cooperator (take l.one-index l.named)
