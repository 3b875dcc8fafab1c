-- What inline bodies wait for (Twisted: `inlineCallbacks`), in order of their making.
use Rattle.std.specs.Prelude.{◌≢◌, ℕ, List, [], ◌∷◌, map, Option, None, Some, IsSome, slice_get, slice_set}
use Rattle.dv_inline.specs.Parked.{Bodies, body_under}
use Rattle.dv_inline.specs.Position.{Position}
use Rattle.dv_value.specs.declared.value.Value.{Value}
use Rattle.dv_objects.specs.Waiting.{resume, added, awaited_of}
use Rattle.dv_objects.specs.declared.waiting.Waiting.{Waiting}
use Rattle.dv_objects.specs.declared.waiting.Waiting.TheVariants.{Nothing, Adding, Arrived, Awaiting}

-- what each inline body waits for, with the body itself where it awaits
abbrev pub Inlines : Type 0
Inlines = List (Waiting Position)

-- the body that goes on, and with what, if one does; and what they all wait for then
abbrev pub GoneOn : Type 0
GoneOn = Option (Position × Value) × Inlines

-- the one at a place waits for this now; where none is there, nothing changes
abbrev pub now_waiting : ℕ → Waiting Position → Inlines → Inlines
now_waiting place waiting inlines = slice_set inlines place waiting

-- the one at a place is left so, and its body goes on, if it does
abbrev pub gone_on : ℕ → Option (Position × Value) × Waiting Position → Inlines → GoneOn
gone_on place left inlines = (left.0, now_waiting place left.1 inlines)

-- a result resumes the one that is found; if none is, nothing changes
abbrev pub resume_found : Option (Waiting Position) → ℕ → Value → Inlines → GoneOn
resume_found None place input inlines = (None, inlines)
resume_found (Some waiting) place input inlines = gone_on place (resume input waiting) inlines

-- a result resumes the one at a place
abbrev pub resume_at : ℕ → Value → Inlines → GoneOn
resume_at place input inlines = resume_found (slice_get inlines place) place input inlines

-- the pair of the one that is found has been added to this Deferred; where none is, nothing changes
abbrev pub end_adding_at : Option (Waiting Position) → ℕ → ℕ → Position → Inlines → GoneOn
end_adding_at None place awaited body inlines = (None, inlines)
end_adding_at (Some waiting) place awaited body inlines = gone_on place (added awaited body waiting) inlines

-- the pair of the one at a place has been added to this Deferred
abbrev pub end_adding : ℕ → ℕ → Position → Inlines → GoneOn
end_adding place awaited body inlines = end_adding_at (slice_get inlines place) place awaited body inlines

-- the Deferred that the one that is found awaits, if it awaits one
abbrev pub awaited_at : Option (Waiting Position) → Option ℕ
awaited_at None = None
awaited_at (Some waiting) = awaited_of waiting

-- the Deferred that the one at a place awaits, if it awaits one
abbrev pub awaited_by : ℕ → Inlines → Option ℕ
awaited_by place inlines = awaited_at (slice_get inlines place)

-- a body that awaits, where one is kept
abbrev pub awaiting : ℕ → Option Position → Waiting Position
awaiting awaited None = Nothing
awaiting awaited (Some body) = Awaiting awaited body

-- what one waits for, with the body that is parked under its key in the place of the key
abbrev pub seen : Bodies → Waiting ℕ → Waiting Position
seen bodies Nothing = Nothing
seen bodies Adding = Adding
seen bodies (Arrived input) = Arrived input
seen bodies (Awaiting awaited key) = awaiting awaited (body_under bodies key)

-- the same of all
abbrev pub seen_all : Bodies → List (Waiting ℕ) → Inlines
seen_all bodies kept = map (seen bodies) kept

-- it has no key, or another one
abbrev pub IsOther : ℕ → Waiting ℕ → Type 0
IsOther key Nothing = Unit
IsOther key Adding = Unit
IsOther key (Arrived input) = Unit
IsOther key (Awaiting awaited other) = other ≢ key

-- none has this key
abbrev pub Lacks : ℕ → List (Waiting ℕ) → Type 0
Lacks key [] = Unit
Lacks key (waiting ∷ kept) = IsOther key waiting × Lacks key kept

-- under its key, if it has one, a body is parked, and none of the later ones has that key
abbrev pub IsApart : Bodies → List (Waiting ℕ) → Waiting ℕ → Type 0
IsApart bodies later Nothing = Unit
IsApart bodies later Adding = Unit
IsApart bodies later (Arrived input) = Unit
IsApart bodies later (Awaiting awaited key) = IsSome (body_under bodies key) × Lacks key later

-- under each key a body is parked, and no two have the same key
abbrev pub IsKept : Bodies → List (Waiting ℕ) → Type 0
IsKept bodies [] = Unit
IsKept bodies (waiting ∷ kept) = IsApart bodies kept waiting × IsKept bodies kept
