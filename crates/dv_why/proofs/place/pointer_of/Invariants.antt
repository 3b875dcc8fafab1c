use Rattle.std.proofs.Common.{◌≡◌, take, string_bytes}
use Rattle.dv_why.specs.Pointers.{pointer_text, HaveIndices}
use Rattle.dv_why.proofs.place.pointer_of.Given as goal

-- the pointer has each step before
abbrev pub invariant-loop-step : goal.invariant-loop-step
invariant-loop-step l =
    (string_bytes l.pointer ≡ pointer_text (take l.step-index l.steps)) × HaveIndices (take l.step-index l.steps)
