-- The result of an inline body by the answers that it gets, in order: a recursion over its statements (Twisted:
-- `inlineCallbacks`).
use Rattle.std.specs.Prelude.{ℕ, Bool, true, false, List, [], ◌∷◌, map, Option, None, Some, codes}
use Rattle.dv_inline.specs.declared.request.Request.{Request}
use Rattle.dv_inline.specs.declared.request.Request.TheVariants.{Do, Await}
use Rattle.dv_script.specs.declared.action.Action.{Action}
use Rattle.dv_script.specs.declared.action.Action.TheOpen.{Statement-F}
use Rattle.dv_script.specs.declared.action.Action.TheFolds.{para-Statement}
use Rattle.dv_script.specs.declared.body.Body.{Body}
use Rattle.dv_script.specs.declared.body.End.{End}
use Rattle.dv_script.specs.declared.body.End.TheVariants as end
use Rattle.dv_script.specs.declared.body.Statement.{Statement}
use Rattle.dv_value.specs.Builtin.{runtime_error}
use Rattle.dv_value.specs.Classes.{check}
use Rattle.dv_value.specs.Failure.{class_of, failure_in, fault, plain_failure}
use Rattle.dv_value.specs.Plus.{plus_to}
use Rattle.dv_value.specs.Throw.{failure_at, thrown_or_type_error}
use Rattle.dv_value.specs.declared.classes.Class.{Class}
use Rattle.dv_value.specs.declared.failure.Failure.{Failure}
use Rattle.dv_value.specs.declared.value.Value.{Value, Null, Fault, List as ListOf, out-Value}

-- where an inline body stands
pub data Reached : Type 0 where
  -- it requests this
  Requests : Request → Reached
  -- it is over, with what fires its Deferred
  Over : Value → Reached

-- where statements stand
pub data Flow : Type 0 where
  -- past the last one, with this present value and these answers left
  past : Value → List Value → Flow
  -- a failure is thrown, and these answers are left
  thrown : Failure → List Value → Flow
  -- an end leaves the body with this, and these answers are left
  left : Value → List Value → Flow
  -- there is no answer to this
  requests : Request → Flow

-- what comes next, by the present value and the answers
abbrev pub Next : Type 0
Next = Value → List Value → Flow

-- what statements result in, by the active failure, the present value and the answers
abbrev pub Meant : Type 0
Meant = Option Failure → Next

-- what comes next goes on past the last statement
abbrev pub followed : Flow → Next → Flow
followed (past v answers) next = next v answers
followed (thrown failure answers) next = thrown failure answers
followed (left v answers) next = left v answers
followed (requests request) next = requests request

-- one after the other
abbrev pub in_order : List Meant → Meant
in_order [] active v answers = past v answers
in_order (first ∷ rest) active v answers = followed (first active v answers) (in_order rest active)

-- the answer to a `do`: a failure is thrown, and anything else leaves the present value as it was
abbrev pub done_by : Option Failure → Value → List Value → Flow
done_by None v answers = past v answers
done_by (Some failure) v answers = thrown failure answers

abbrev pub do_meant : Action → Meant
do_meant action active v [] = requests (Do action)
do_meant action active v (answer ∷ answers) = done_by (failure_in answer) v answers

-- the answer to an `await`: a failure is thrown, and anything else becomes the present value
abbrev pub await_meant : List ℕ → Meant
await_meant name active v [] = requests (Await name)
await_meant name active v (answer ∷ answers) = done_by (failure_in answer) answer answers

-- a failure of a class that was found begins the second statements on null, in which it is active; another is thrown on
abbrev pub caught_by : Option ℕ → Meant → Failure → List Value → Flow
caught_by (Some class) second failure answers = second (Some failure) Null answers
caught_by None second failure answers = thrown failure answers

-- what the first statements of a `try` throw is caught by one of its classes, with what is inside them; leaving isn't
-- caught
abbrev pub caught : List Class → List ℕ → Meant → Flow → Flow
caught table listed second (past v answers) = past v answers
caught table listed second (thrown failure answers) =
    caught_by (check table (class_of failure) listed) second failure answers
caught table listed second (left v answers) = left v answers
caught table listed second (requests request) = requests request

-- after the first statements of a `finally` the second run, on null, however the first ended. A failure that was thrown
-- is active in them. After the last of them it goes on as the first ended; a failure that is thrown in them, or an end
-- in them, takes the place of that
abbrev pub finished : Meant → Option Failure → Flow → Flow
finished second active (past v answers) = followed (second active Null answers) (λ w more. past v more)
finished second active (thrown failure answers) =
    followed (second (Some failure) Null answers) (λ w more. thrown failure more)
finished second active (left v answers) = followed (second active Null answers) (λ w more. left v more)
finished second active (requests request) = requests request

-- what is thrown where no failure is active
abbrev pub no_active : Failure
no_active = plain_failure runtime_error (codes "no active exception")

-- a `raise` throws the active failure again
abbrev pub raised : Option Failure → Failure
raised (Some failure) = failure
raised None = no_active

abbrev pub raise_meant : Meant
raise_meant active v answers = thrown (raised active) answers

-- with `caught` the present value becomes a list of the active failure alone
abbrev pub caught_meant : Meant
caught_meant (Some failure) v answers = past (ListOf (Fault failure ∷ [])) answers
caught_meant None v answers = thrown no_active answers

-- what an end returns for the present value
abbrev pub ended : End → Value → Value
ended (end.Return value) v = value
ended end.Pass v = v
ended (end.Plus n) v = plus_to n (out-Value v)
ended (end.Raise class message) v = fault class message
ended (end.Trap listed value) v = v
ended (end.Wait name) v = v
ended (end.Run name) v = v
ended (end.Throw path) v = thrown_or_type_error (failure_at path v)

-- the failure that an end throws where it stands, if it returns this: where ends throw, the one that it fails with
abbrev pub thrown_by : Bool → Value → Option Failure
thrown_by true v = failure_in v
thrown_by false v = None

-- an end that throws no failure leaves the body with what it returns
abbrev pub left_unless : Option Failure → Value → List Value → Flow
left_unless None v answers = left v answers
left_unless (Some failure) v answers = thrown failure answers

abbrev pub end_meant : Bool → End → Meant
end_meant throws e active v answers = left_unless (thrown_by throws (ended e v)) (ended e v) answers

-- a statement by what those inside it are found to mean
abbrev pub statement_meant : List Class → Bool
    → Statement-F (Action × Unit {0}) (Statement × Meant) (Body × Unit {0}) → Meant
statement_meant table throws (Statement-F.Do action) = do_meant action.0
statement_meant table throws (Statement-F.Await name) = await_meant name
statement_meant table throws (Statement-F.Try first listed second) =
    λ active v answers.
    caught table listed (in_order (map (λ s. s.1) second)) (in_order (map (λ s. s.1) first) active v answers)
statement_meant table throws (Statement-F.Finally first second) =
    λ active v answers.
    finished (in_order (map (λ s. s.1) second)) active (in_order (map (λ s. s.1) first) active v answers)
statement_meant table throws Statement-F.Raise = raise_meant
statement_meant table throws Statement-F.Caught = caught_meant
statement_meant table throws (Statement-F.End e) = end_meant throws e

-- what a statement results in, in a script of these classes, in which ends throw or don't
abbrev pub meant : List Class → Bool → Statement → Meant
meant table throws =
    para-Statement (Unit {0}) Meant (Unit {0}) (λ action. tt) (statement_meant table throws) (λ body. tt)

-- what statements result in
abbrev pub all_meant : List Class → Bool → List Statement → Meant
all_meant table throws statements = in_order (map (meant table throws) statements)

-- after the last statement the result is null; a failure that nothing caught is the result
abbrev pub result_of : Flow → Reached
result_of (past v answers) = Over Null
result_of (thrown failure answers) = Over (Fault failure)
result_of (left v answers) = Over v
result_of (requests request) = Requests request

-- an inline body begins on null, with no active failure: it is over with a result, or it requests what there is no
-- answer to
abbrev pub inline : List Class → Bool → List Statement → List Value → Reached
inline table throws statements answers = result_of (all_meant table throws statements None Null answers)
