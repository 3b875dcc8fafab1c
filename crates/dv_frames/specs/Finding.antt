-- Names, as a rule looks them up.
use Rattle.std.specs.Prelude.{ℕ, List, Option, None, Some}
use Rattle.dv_frames.specs.declared.turn.Turn.{Turn}
use Rattle.dv_objects.specs.Refusals.{unbound}

-- a turn, once a name was looked up and this was found: where it is nothing, NameError is raised
abbrev pub looked_up : {I : Type 0} → Option I → List ℕ → Turn → Turn
looked_up None name turn = record turn { performed = unbound name }
looked_up (Some found) name turn = turn
