-- What a position leads to by answers: what is inside the tries and finallys round it, and then what follows them.
use Rattle.std.specs.Prelude.{◌≡◌, Bool, List, [], ◌∷◌, Option, None, Some}
use Rattle.dv_inline.specs.Meaning.{Reached, Requests, Over, Flow, past, thrown, left, followed, caught, finished}
use Rattle.dv_inline.specs.Meaning.{all_meant, result_of}
use Rattle.dv_inline.specs.Position.{Position, active, request_at}
use Rattle.dv_inline.specs.declared.open.Inside.{Inside}
use Rattle.dv_inline.specs.declared.open.Inside.TheVariants as inside
use Rattle.dv_inline.specs.declared.open.Onward.{Onward}
use Rattle.dv_inline.specs.declared.open.Onward.TheVariants as onward
use Rattle.dv_inline.specs.declared.open.Open.{Open}
use Rattle.dv_inline.specs.declared.request.Request.{Request}
use Rattle.dv_value.specs.declared.classes.Class.{Class}
use Rattle.dv_value.specs.declared.failure.Failure.{Failure}
use Rattle.dv_value.specs.declared.value.Value.{Value}

-- on as the first statements of a `finally` ended
abbrev pub flow_of : Onward → List Value → Flow
flow_of (onward.Past v) answers = past v answers
flow_of (onward.Thrown failure) answers = thrown failure answers
flow_of (onward.Left v) answers = left v answers

-- what the statement does with what leads out of the statements that it is in; round it this failure is active
abbrev pub inside_meant : List Class → Bool → Inside → Option Failure → Flow → Flow
inside_meant table throws (inside.Try catch) outer flow =
    caught table catch.classes (all_meant table throws catch.second) flow
inside_meant table throws (inside.Caught failure) outer flow = flow
inside_meant table throws (inside.Finally second) outer flow = finished (all_meant table throws second) outer flow
inside_meant table throws (inside.Ending how) outer flow = followed flow (λ v answers. flow_of how answers)

-- outward through the tries and finallys
abbrev pub through : List Class → Bool → List Open → Flow → Flow
through table throws [] flow = flow
through table throws (around ∷ opens) flow =
    through table throws opens
    (followed (inside_meant table throws around.inside (active opens) flow)
    (all_meant table throws around.rest (active opens)))

abbrev pub reached_unless : Option Value → Position → List Value → Reached
reached_unless None p answers =
    result_of (through p.classes p.ends_throw p.opens
    (all_meant p.classes p.ends_throw p.statements (active p.opens) p.value answers))
reached_unless (Some result) p answers = Over result

-- where a position leads by these answers
abbrev pub reached : Position → List Value → Reached
reached p answers = reached_unless p.result p answers

-- every list of answers leads from the one as this answer and they lead from the other
abbrev pub LeadsBy : Value → Position → Position → Type 0
LeadsBy answer p q = (more : List Value) → reached q more ≡ reached p (answer ∷ more)

-- they lead on alike
abbrev pub LeadAlike : Position → Position → Type 0
LeadAlike p q = (answers : List Value) → reached q answers ≡ reached p answers

-- an answer is due at a position
abbrev pub IsDue : Position → Type 0
IsDue p = request_at p ≡ None → ⊥

-- a request stands at a position, and there is no answer to it
abbrev pub Stands : Position → Type 0
Stands p = (w : Request) × (request_at p ≡ Some w) × (reached p [] ≡ Requests w)

-- a position results in this with no further answer
abbrev pub ResultsIn : Position → Value → Type 0
ResultsIn p v = reached p [] ≡ Over v
