-- What one inline body waits for (Twisted: `inlineCallbacks`).
use Rattle.std.specs.Prelude.{ℕ, Bool, true, false, Option, None, Some}
use Rattle.dv_value.specs.declared.value.Value.{Value}
use Rattle.dv_objects.specs.declared.waiting.Waiting.{Waiting}
use Rattle.dv_objects.specs.declared.waiting.Waiting.TheVariants.{Nothing, Adding, Arrived, Awaiting}

module _ {B : Type 0} where
  -- the body that awaits, if one does
  abbrev pub body_of : Waiting B → Option B
  body_of Nothing = None
  body_of Adding = None
  body_of (Arrived input) = None
  body_of (Awaiting awaited body) = Some body

  -- the Deferred that is awaited, if one is
  abbrev pub awaited_of : Waiting B → Option ℕ
  awaited_of Nothing = None
  awaited_of Adding = None
  awaited_of (Arrived input) = None
  awaited_of (Awaiting awaited body) = Some awaited

  -- whether its pair is being added to a Deferred
  abbrev pub is_adding : Waiting B → Bool
  is_adding Nothing = false
  is_adding Adding = true
  is_adding (Arrived input) = false
  is_adding (Awaiting awaited body) = false

  -- a result resumes a body that awaits it, which goes on with it; one whose pair is being added has it from then on;
  -- else nothing changes
  abbrev pub resume : Value → Waiting B → Option (B × Value) × Waiting B
  resume input Nothing = (None, Nothing)
  resume input Adding = (None, Arrived input)
  resume input (Arrived earlier) = (None, Arrived earlier)
  resume input (Awaiting awaited body) = (Some (body, input), Nothing)

  -- the result that arrived while its pair was being added is taken out, if one did; else nothing changes
  abbrev pub taken : Waiting B → Option Value × Waiting B
  taken Nothing = (None, Nothing)
  taken Adding = (None, Adding)
  taken (Arrived input) = (Some input, Nothing)
  taken (Awaiting awaited body) = (None, Awaiting awaited body)

  -- its pair has been added: the body goes on with what arrived meanwhile, and awaits if nothing did; if it wasn't
  -- being added, nothing changes
  abbrev pub added : ℕ → B → Waiting B → Option (B × Value) × Waiting B
  added awaited body Nothing = (None, Nothing)
  added awaited body Adding = (None, Awaiting awaited body)
  added awaited body (Arrived input) = (Some (body, input), Nothing)
  added awaited body (Awaiting earlier other) = (None, Awaiting earlier other)
