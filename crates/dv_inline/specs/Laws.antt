-- Where a body stands, by which it is performed, and the recursion over its statements say the same.
use Rattle.std.specs.Prelude.{◌≡◌, Bool, List, Some, None}
use Rattle.dv_inline.specs.Leads.{reached, LeadsBy, LeadAlike, IsDue, Stands, ResultsIn}
use Rattle.dv_inline.specs.Meaning.{inline}
use Rattle.dv_inline.specs.Position.{Position, started, run_to_request, answered}
use Rattle.dv_script.specs.declared.body.Statement.{Statement}
use Rattle.dv_value.specs.declared.classes.Class.{Class}
use Rattle.dv_value.specs.declared.value.Value.{Value}

-- a body that begins leads where the recursion over its statements leads
abbrev pub BodiesBeginThere : Type 0
BodiesBeginThere =
    (classes : List Class) (ends_throw : Bool) (statements : List Statement) (answers : List Value)
    → reached (started classes ends_throw statements) answers ≡ inline classes ends_throw statements answers

-- the moves that need no answer change nothing of that
abbrev pub MovesLeadOn : Type 0
MovesLeadOn = (p : Position) → LeadAlike p (run_to_request p)

-- where they end the body is over with its result
abbrev pub ResultsAreReached : Type 0
ResultsAreReached = (p : Position) (v : Value) → (run_to_request p).result ≡ Some v → ResultsIn p v

-- or a request stands, to which there is no answer
abbrev pub RequestsStand : Type 0
RequestsStand = (p : Position) → (run_to_request p).result ≡ None → Stands (run_to_request p)

-- every list of answers leads from where an answer has led as that answer and they led from before
abbrev pub AnswersLeadOn : Type 0
AnswersLeadOn = (answer : Value) (p : Position) → IsDue p → LeadsBy answer p (answered answer p)
