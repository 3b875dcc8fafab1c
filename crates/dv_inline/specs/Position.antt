-- Where an inline body stands, and how it goes on.
use Rattle.std.specs.Prelude.{ℕ, zero, suc, ◌+◌, ◌≡◌, Bool, true, false, List, [], ◌∷◌, map, drop, Option, None, Some}
use Rattle.std.specs.Prelude.{Result, Ok, Err}
use Rattle.std.specs.declared.alloc.AllocError.{AllocError}
use Rattle.dv_inline.specs.Meaning.{ended, thrown_by, raised, no_active}
use Rattle.dv_inline.specs.declared.open.Inside.{Inside}
use Rattle.dv_inline.specs.declared.open.Inside.TheVariants as inside
use Rattle.dv_inline.specs.declared.open.Onward.{Onward}
use Rattle.dv_inline.specs.declared.open.Onward.TheVariants as onward
use Rattle.dv_inline.specs.declared.open.Open.{Open}
use Rattle.dv_inline.specs.declared.request.Request.{Request}
use Rattle.dv_inline.specs.declared.request.Request.TheVariants.{Do, Await}
use Rattle.dv_script.specs.declared.action.Action.{Action}
use Rattle.dv_script.specs.declared.action.Action.TheOpen.{Statement-F}
use Rattle.dv_script.specs.declared.action.Action.TheFolds.{fold-Statement}
use Rattle.dv_script.specs.declared.body.Body.{Body}
use Rattle.dv_script.specs.declared.body.Statement.{Statement, out-Statement}
use Rattle.dv_value.specs.Classes.{check}
use Rattle.dv_value.specs.Failure.{class_of, failure_in}
use Rattle.dv_value.specs.declared.classes.Class.{Class}
use Rattle.dv_value.specs.declared.failure.Failure.{Failure}
use Rattle.dv_value.specs.declared.value.Value.{Value, Null, Fault, List as ListOf}

-- the classes of the script, whether ends throw their failures in it, the statements left, the tries and finallys round
-- them from the innermost, the present value, and the result once the body is over
pub record Position : Type 0 where
  pub classes : List Class
  pub ends_throw : Bool
  pub statements : List Statement
  pub opens : List Open
  pub value : Value
  pub result : Option Value

-- at the whole body
abbrev pub started : List Class → Bool → List Statement → Position
started classes ends_throw statements = record {
  classes = classes;
  ends_throw = ends_throw;
  statements = statements;
  opens = [];
  value = Null;
  result = None;
}

-- the body is over with this
abbrev pub over_with : Value → Position → Position
over_with result p = record p { value = Null; result = Some result }

-- into a `try` or a `finally`, which this follows: its first statements
abbrev pub into : List Statement → Inside → List Statement → Position → Position
into first place rest p = record p {
  statements = first;
  opens = record { inside = place; rest = rest } ∷ p.opens;
}

-- into the second statements of the innermost, on null
abbrev pub into_second : List Statement → Inside → List Statement → List Open → Position → Position
into_second second place rest opens p =
    record p { statements = second; opens = record { inside = place; rest = rest } ∷ opens; value = Null }

-- the failure for which second statements run
abbrev pub failure_at : Inside → Option Failure
failure_at (inside.Try catch) = None
failure_at (inside.Caught failure) = Some failure
failure_at (inside.Finally second) = None
failure_at (inside.Ending (onward.Past v)) = None
failure_at (inside.Ending (onward.Thrown failure)) = Some failure
failure_at (inside.Ending (onward.Left v)) = None

-- the innermost of these is the active one
abbrev pub inner_or : Option Failure → Option Failure → Option Failure
inner_or None outer = outer
inner_or (Some failure) outer = Some failure

abbrev pub active : List Open → Option Failure
active [] = None
active (around ∷ opens) = inner_or (failure_at around.inside) (active opens)

-- the class by which a failure is caught
abbrev pub class_caught : List Class → Failure → Inside → Option ℕ
class_caught table failure (inside.Try catch) = check table (class_of failure) catch.classes
class_caught table failure (inside.Caught other) = None
class_caught table failure (inside.Finally second) = None
class_caught table failure (inside.Ending how) = None

-- the second statements of a `try` that catches it
abbrev pub second_for : Option ℕ → Inside → Option (List Statement)
second_for None place = None
second_for (Some class) (inside.Try catch) = Some catch.second
second_for (Some class) (inside.Caught failure) = None
second_for (Some class) (inside.Finally second) = None
second_for (Some class) (inside.Ending how) = None

-- the second statements of a `finally` that are ahead
abbrev pub ahead : Inside → Option (List Statement)
ahead (inside.Try catch) = None
ahead (inside.Caught failure) = None
ahead (inside.Finally second) = Some second
ahead (inside.Ending how) = None

-- a failure that a `try` catches goes to its second statements. Where those of a `finally` are ahead it goes to them,
-- to be thrown on after them; else it goes outward
abbrev pub thrown_to : Position → Failure → Option (List Statement) → Option (List Statement) → List Statement
    → List Open → Position → Position
thrown_to outer failure (Some second) next rest opens p = into_second second (inside.Caught failure) rest opens p
thrown_to outer failure None (Some second) rest opens p =
    into_second second (inside.Ending (onward.Thrown failure)) rest opens p
thrown_to outer failure None None rest opens p = outer

-- to the innermost `try` that catches it, or `finally`; where there is none, it is the result
abbrev pub thrown_from : Failure → List Open → Position → Position
thrown_from failure [] p = over_with (Fault failure) (record p { opens = [] })
thrown_from failure (around ∷ opens) p =
    thrown_to (thrown_from failure opens p) failure
    (second_for (class_caught p.classes failure around.inside) around.inside) (ahead around.inside) around.rest opens p

-- what an end leaves the body with goes to the second statements of a `finally`, to leave it after them; else it goes
-- outward
abbrev pub left_to : Position → Value → Option (List Statement) → List Statement → List Open → Position → Position
left_to outer v (Some second) rest opens p = into_second second (inside.Ending (onward.Left v)) rest opens p
left_to outer v None rest opens p = outer

-- to the innermost `finally`; where there is none, it is the result
abbrev pub left_from : Value → List Open → Position → Position
left_from v [] p = over_with v (record p { opens = [] })
left_from v (around ∷ opens) p = left_to (left_from v opens p) v (ahead around.inside) around.rest opens p

-- past the second statements of a `finally`, which this follows: on as the first ended
abbrev pub gone_on : Onward → List Statement → Position → Position
gone_on (onward.Past v) rest p = record p { statements = rest; value = v }
gone_on (onward.Thrown failure) rest p = thrown_from failure p.opens p
gone_on (onward.Left v) rest p = left_from v p.opens p

-- out of the innermost, which this follows: on to that, or to the second statements of a `finally`
abbrev pub out_of : Inside → List Statement → Position → Position
out_of (inside.Try catch) rest p = record p { statements = rest }
out_of (inside.Caught failure) rest p = record p { statements = rest }
out_of (inside.Finally second) rest p = into_second second (inside.Ending (onward.Past p.value)) rest p.opens p
out_of (inside.Ending how) rest p = gone_on how rest p

-- behind the last statement: out of the innermost `try` or `finally`, or to the end of the body, whose result is null
abbrev pub outward : List Open → Position → Position
outward [] p = over_with Null p
outward (around ∷ opens) p = out_of around.inside around.rest (record p { opens = opens })

-- with `caught` the present value becomes a list of the active failure alone, where there is one
abbrev pub caught_from : Option Failure → List Statement → Position → Position
caught_from (Some failure) rest p = record p { statements = rest; value = ListOf (Fault failure ∷ []) }
caught_from None rest p = thrown_from no_active p.opens p

-- an end that throws no failure leaves the body with what it returns
abbrev pub ended_with : Option Failure → Value → Position → Position
ended_with None v p = left_from v p.opens p
ended_with (Some failure) v p = thrown_from failure p.opens p

-- an end that returns this
abbrev pub ended_from : Value → Position → Position
ended_from v p = ended_with (thrown_by p.ends_throw v) v p

-- one move that needs no answer, where there is one
abbrev pub moved_by : Statement-F Action Statement Body → List Statement → Position → Option Position
moved_by (Statement-F.Do action) rest p = None
moved_by (Statement-F.Await name) rest p = None
moved_by (Statement-F.Try first listed second) rest p =
    Some (into first (inside.Try (record { classes = listed; second = second })) rest p)
moved_by (Statement-F.Finally first second) rest p = Some (into first (inside.Finally second) rest p)
moved_by Statement-F.Raise rest p = Some (thrown_from (raised (active p.opens)) p.opens p)
moved_by Statement-F.Caught rest p = Some (caught_from (active p.opens) rest p)
moved_by (Statement-F.End e) rest p = Some (ended_from (ended e p.value) (record p { value = Null }))

abbrev pub moved_in : List Statement → Position → Option Position
moved_in [] p = Some (outward p.opens p)
moved_in (statement ∷ rest) p = moved_by (out-Statement statement) rest p

abbrev pub moved_unless : Option Value → Position → Option Position
moved_unless None p = moved_in p.statements p
moved_unless (Some result) p = None

abbrev pub moved : Position → Option Position
moved p = moved_unless p.result p

-- whether there is a move, and where it leads
abbrev pub MovesTo : Bool → Option Position → Position → Position → Type 0
MovesTo true to p q = to ≡ Some q
MovesTo false to p q = (to ≡ None) × (q ≡ p)

abbrev pub Moves : Bool → Position → Position → Type 0
Moves moves p q = MovesTo moves (moved p) p q

-- the sum of a list
abbrev pub total : List ℕ → ℕ
total [] = 0
total (n ∷ ns) = n + total ns

-- how much text a statement is
abbrev pub statement_step : Statement-F ℕ ℕ ℕ → ℕ
statement_step (Statement-F.Do action) = 1
statement_step (Statement-F.Await name) = 1
statement_step (Statement-F.Try first listed second) = 3 + total first + total second
statement_step (Statement-F.Finally first second) = 3 + total first + total second
statement_step Statement-F.Raise = 1
statement_step Statement-F.Caught = 1
statement_step (Statement-F.End e) = 1

abbrev pub statement_size : Statement → ℕ
statement_size = fold-Statement ℕ ℕ ℕ (λ action. 0) statement_step (λ body. 0)

abbrev pub statements_size : List Statement → ℕ
statements_size statements = total (map statement_size statements)

-- how much is left of it, at most
abbrev pub inside_size : Inside → ℕ
inside_size (inside.Try catch) = 1 + statements_size catch.second
inside_size (inside.Caught failure) = 0
inside_size (inside.Finally second) = 1 + statements_size second
inside_size (inside.Ending how) = 0

abbrev pub opens_size : List Open → ℕ
opens_size [] = 0
opens_size (around ∷ opens) = 1 + inside_size around.inside + statements_size around.rest + opens_size opens

abbrev pub result_size : Option Value → ℕ
result_size None = 1
result_size (Some result) = 0

abbrev pub position_size : Position → ℕ
position_size p = result_size p.result + statements_size p.statements + opens_size p.opens

-- as many moves as there are, up to this many
abbrev pub goes_on : (Position → Position) → Position → Option Position → Position
goes_on go p None = p
goes_on go p (Some next) = go next

unfoldable pub run_within : ℕ → Position → Position
run_within zero p = p
run_within (suc n) p = goes_on (run_within n) p (moved p)

-- up to the next request, or to the end: all moves that need no answer
unfoldable pub run_to_request : Position → Position
run_to_request p = run_within (position_size p) p

-- the request that stands at a position
abbrev pub request_by : Statement-F Action Statement Body → Option Request
request_by (Statement-F.Do action) = Some (Do action)
request_by (Statement-F.Await name) = Some (Await name)
request_by (Statement-F.Try first listed second) = None
request_by (Statement-F.Finally first second) = None
request_by Statement-F.Raise = None
request_by Statement-F.Caught = None
request_by (Statement-F.End e) = None

abbrev pub request_in : List Statement → Option Request
request_in [] = None
request_in (statement ∷ rest) = request_by (out-Statement statement)

abbrev pub request_unless : Option Value → Position → Option Request
request_unless None p = request_in p.statements
request_unless (Some result) p = None

abbrev pub request_at : Position → Option Request
request_at p = request_unless p.result p

-- past the first statement, with this present value
abbrev pub passed : Value → Position → Position
passed v p = record p { statements = drop 1 p.statements; value = v }

-- so it goes on, or a failure is thrown there
abbrev pub went_on : Option Failure → Value → Position → Position
went_on None v p = passed v p
went_on (Some failure) v p = thrown_from failure p.opens p

-- what the answer is to: a `do` keeps the present value, an `await` takes the answer for it
abbrev pub answered_to : Option Request → Value → Position → Position
answered_to None answer p = p
answered_to (Some (Do action)) answer p = went_on (failure_in answer) p.value p
answered_to (Some (Await name)) answer p = went_on (failure_in answer) answer p

abbrev pub answered : Value → Position → Position
answered answer p = answered_to (request_at p) answer p

-- what a body returns by itself: the result that it reaches with no further answer
abbrev pub Gives : Position → Result Value AllocError → Type 0
Gives p (Ok v) = (run_to_request p).result ≡ Some v
Gives p (Err e) = Unit {0}
