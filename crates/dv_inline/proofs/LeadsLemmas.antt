-- Moves and answers lead where the recursion over the statements leads.
use Rattle.std.proofs.Common.{◌≡◌, ℕ, Bool, List, [], ◌∷◌, map, Option, None, Some, refl, ap, ◌∙◌, sym, subst}
use Rattle.dv_inline.specs.Leads.{inside_meant, through, reached_unless, reached, LeadsBy, LeadAlike, IsDue, Stands}
use Rattle.dv_inline.specs.Leads.{ResultsIn}
use Rattle.dv_inline.specs.Meaning.{Reached, Requests, Over, past, thrown, left, requests, followed, caught, caught_by}
use Rattle.dv_inline.specs.Meaning.{finished}
use Rattle.dv_inline.specs.Meaning.{do_meant, await_meant, raise_meant, caught_meant, raised, no_active, done_by}
use Rattle.dv_inline.specs.Meaning.{in_order, statement_meant, meant, all_meant, ended, thrown_by, left_unless}
use Rattle.dv_inline.specs.Meaning.{end_meant}
use Rattle.dv_inline.specs.Meaning.{result_of, Meant}
use Rattle.dv_inline.specs.Position.{Position, moved, moved_by, moved_in, moved_unless, outward, run_to_request}
use Rattle.dv_inline.specs.Position.{request_by, request_in}
use Rattle.dv_inline.specs.Position.{request_unless, answered, answered_to, went_on, thrown_from, thrown_to, second_for}
use Rattle.dv_inline.specs.Position.{class_caught, active, ahead, left_to, left_from, ended_with, caught_from, out_of}
use Rattle.dv_inline.specs.declared.open.Catch.{Catch}
use Rattle.dv_inline.specs.declared.open.Inside.{Inside}
use Rattle.dv_inline.specs.declared.open.Inside.TheVariants as inside
use Rattle.dv_inline.specs.declared.open.Onward.TheVariants as onward
use Rattle.dv_inline.specs.declared.open.Open.{Open}
use Rattle.dv_inline.specs.declared.request.Request.{Request}
use Rattle.dv_inline.specs.declared.request.Request.TheVariants.{Do, Await}
use Rattle.dv_inline.proofs.Moves.{run_kept, run_rests}
use Rattle.dv_script.specs.declared.action.Action.{Action}
use Rattle.dv_script.specs.declared.action.Action.TheOpen.{Statement-F}
use Rattle.dv_script.specs.declared.action.Action.TheFolds.{para-Action, para-Body, para-roll-Statement}
use Rattle.dv_script.specs.declared.body.Body.{Body}
use Rattle.dv_script.specs.declared.body.Statement.{Statement, out-Statement, map-Statement, roll-out-Statement}
use Rattle.dv_value.specs.Classes.{check}
use Rattle.dv_value.specs.Failure.{class_of, failure_in}
use Rattle.dv_value.specs.declared.classes.Class.{Class}
use Rattle.dv_value.specs.declared.failure.Failure.{Failure}
use Rattle.dv_value.specs.declared.value.Value.{Value, Null}

module _ (table : List Class) (throws : Bool) where
  -- one layer of a statement, by what those inside it mean
  abbrev read : Statement-F Action Statement Body → Meant
  read (Statement-F.Do action) = do_meant action
  read (Statement-F.Await name) = await_meant name
  read (Statement-F.Try first listed second) =
      λ active v answers.
      caught table listed (all_meant table throws second) (all_meant table throws first active v answers)
  read (Statement-F.Finally first second) =
      λ active v answers.
      finished (all_meant table throws second) active (all_meant table throws first active v answers)
  read Statement-F.Raise = raise_meant
  read Statement-F.Caught = caught_meant
  read (Statement-F.End e) = end_meant throws e

  beside : (ss : List Statement)
      → map (λ (s : Statement × Meant). s.1) (map (λ s. (s, meant table throws s)) ss) ≡ map (meant table throws) ss
  beside [] = refl
  beside (s ∷ ss) = ap (λ rest. meant table throws s ∷ rest) (beside ss)

  abbrev layer : Statement-F Action Statement Body → Meant
  layer e =
      statement_meant table throws
      (map-Statement Action Statement Body (Action × Unit {0}) (Statement × Meant) (Body × Unit {0}) (λ y. (
        y,
        para-Action (Unit {0}) Meant (Unit {0}) (λ action. tt) (statement_meant table throws) (λ body. tt) y,
      )) (λ y. (y, meant table throws y))
      (λ y. (y, para-Body (Unit {0}) Meant (Unit {0}) (λ action. tt) (statement_meant table throws) (λ body. tt) y)) e)

  abbrev try_meant : List ℕ → List Meant → List Meant → Meant
  try_meant listed first second active v answers =
      caught table listed (in_order second) (in_order first active v answers)

  abbrev finally_meant : List Meant → List Meant → Meant
  finally_meant first second active v answers = finished (in_order second) active (in_order first active v answers)

  layer_read : (e : Statement-F Action Statement Body) → layer e ≡ read e
  layer_read (Statement-F.Do action) = refl
  layer_read (Statement-F.Await name) = refl
  layer_read (Statement-F.Try first listed second) =
      ap (λ (ms : List Meant).
      try_meant listed ms (map (λ (s : Statement × Meant). s.1) (map (λ s. (s, meant table throws s)) second)))
      (beside first)
      ∙ ap (try_meant listed (map (meant table throws) first)) (beside second)
  layer_read (Statement-F.Finally first second) =
      ap (λ (ms : List Meant).
      finally_meant ms (map (λ (s : Statement × Meant). s.1) (map (λ s. (s, meant table throws s)) second)))
      (beside first)
      ∙ ap (finally_meant (map (meant table throws) first)) (beside second)
  layer_read Statement-F.Raise = refl
  layer_read Statement-F.Caught = refl
  layer_read (Statement-F.End e) = refl

  meant_read : (s : Statement) → meant table throws s ≡ read (out-Statement s)
  meant_read s =
      ap (meant table throws) (sym (roll-out-Statement s))
      ∙ para-roll-Statement (Unit {0}) Meant (Unit {0}) (λ action. tt)
      (statement_meant table throws) (λ body. tt) (out-Statement s) ∙ layer_read (out-Statement s)

  -- what is requested goes through every `try` and `finally`
  inside_requests : (place : Inside) (outer : Option Failure) (w : Request)
      → inside_meant table throws place outer (requests w) ≡ requests w
  inside_requests (inside.Try catch) outer w = refl
  inside_requests (inside.Caught failure) outer w = refl
  inside_requests (inside.Finally second) outer w = refl
  inside_requests (inside.Ending how) outer w = refl

  through_requests : (opens : List Open) (w : Request) → through table throws opens (requests w) ≡ requests w
  through_requests [] w = refl
  through_requests (around ∷ opens) w =
      ap (λ flow. through table throws opens (followed flow (all_meant table throws around.rest (active opens))))
      (inside_requests around.inside (active opens) w) ∙ through_requests opens w

-- from a statement, which means this, by what follows it
abbrev on_from : Position → List Statement → List Value → Meant → Reached
on_from p rest answers m =
    result_of (through p.classes p.ends_throw p.opens
    (followed (m (active p.opens) p.value answers) (all_meant p.classes p.ends_throw rest (active p.opens))))

-- a failure leads to where it is caught, or to the second statements of a `finally`
thrown_on : (o : Option ℕ) (catch : Catch) (failure : Failure) (outer : Position) (rest : List Statement)
    (opens : List Open) (p : Position) (more : List Value) → p.result ≡ None
    → reached outer more ≡ result_of (through p.classes p.ends_throw opens (thrown failure more))
    → reached (thrown_to outer failure (second_for o (inside.Try catch)) None rest opens p) more
    ≡ result_of (through p.classes p.ends_throw opens
    (followed (caught_by o (all_meant p.classes p.ends_throw catch.second) failure more)
    (all_meant p.classes p.ends_throw rest (active opens))))
thrown_on None catch failure outer rest opens p more n h = h
thrown_on (Some class) catch failure outer rest opens p more n h = rw n refl

thrown_at : (place : Inside) (failure : Failure) (outer : Position) (rest : List Statement) (opens : List Open)
    (p : Position) (more : List Value) → p.result ≡ None
    → reached outer more ≡ result_of (through p.classes p.ends_throw opens (thrown failure more))
    → reached
    (thrown_to outer failure (second_for (class_caught p.classes failure place) place) (ahead place) rest opens
    p) more
    ≡ result_of (through p.classes p.ends_throw opens
    (followed (inside_meant p.classes p.ends_throw place (active opens) (thrown failure more))
    (all_meant p.classes p.ends_throw rest (active opens))))
thrown_at (inside.Try catch) failure outer rest opens p more n h =
    thrown_on (check p.classes (class_of failure) catch.classes) catch failure outer rest opens p more n h
thrown_at (inside.Caught other) failure outer rest opens p more n h = h
thrown_at (inside.Finally second) failure outer rest opens p more n h = rw n refl
thrown_at (inside.Ending how) failure outer rest opens p more n h = h

thrown_leads : (failure : Failure) (opens : List Open) (p : Position) (more : List Value) → p.result ≡ None
    → reached (thrown_from failure opens p) more
    ≡ result_of (through p.classes p.ends_throw opens (thrown failure more))
thrown_leads failure [] p more n = refl
thrown_leads failure (around ∷ opens) p more n =
    thrown_at around.inside failure (thrown_from failure opens p) around.rest opens p more n
    (thrown_leads failure opens p more n)

-- and so does an end
left_at : (place : Inside) (v : Value) (outer : Position) (rest : List Statement) (opens : List Open) (p : Position)
    (more : List Value) → p.result ≡ None
    → reached outer more ≡ result_of (through p.classes p.ends_throw opens (left v more))
    → reached (left_to outer v (ahead place) rest opens p) more
    ≡ result_of (through p.classes p.ends_throw opens
    (followed (inside_meant p.classes p.ends_throw place (active opens) (left v more))
    (all_meant p.classes p.ends_throw rest (active opens))))
left_at (inside.Try catch) v outer rest opens p more n h = h
left_at (inside.Caught failure) v outer rest opens p more n h = h
left_at (inside.Finally second) v outer rest opens p more n h = rw n refl
left_at (inside.Ending how) v outer rest opens p more n h = h

left_leads : (v : Value) (opens : List Open) (p : Position) (more : List Value) → p.result ≡ None
    → reached (left_from v opens p) more ≡ result_of (through p.classes p.ends_throw opens (left v more))
left_leads v [] p more n = refl
left_leads v (around ∷ opens) p more n =
    left_at around.inside v (left_from v opens p) around.rest opens p more n (left_leads v opens p more n)

-- an end throws its failure, or leaves
ended_leads : (o : Option Failure) (v : Value) (rest : List Statement) (p : Position) (answers : List Value)
    → p.result ≡ None
    → reached (ended_with o v p) answers
    ≡ result_of (through p.classes p.ends_throw p.opens
    (followed (left_unless o v answers) (all_meant p.classes p.ends_throw rest (active p.opens))))
ended_leads None v rest p answers n = left_leads v p.opens p answers n
ended_leads (Some failure) v rest p answers n = thrown_leads failure p.opens p answers n

-- what is caught becomes the present value
caught_leads : (o : Option Failure) (rest : List Statement) (p : Position) (answers : List Value) → p.result ≡ None
    → reached (caught_from o rest p) answers
    ≡ result_of (through p.classes p.ends_throw p.opens
    (followed (caught_meant o p.value answers) (all_meant p.classes p.ends_throw rest (active p.opens))))
caught_leads None rest p answers n = thrown_leads no_active p.opens p answers n
caught_leads (Some failure) rest p answers n = rw n refl

-- past the last statement it goes on out of the innermost
out_leads : (place : Inside) (rest : List Statement) (opens : List Open) (p : Position) (answers : List Value)
    → p.result ≡ None
    → reached (out_of place rest (record p { opens = opens })) answers
    ≡ result_of (through p.classes p.ends_throw opens
    (followed (inside_meant p.classes p.ends_throw place (active opens) (past p.value answers))
    (all_meant p.classes p.ends_throw rest (active opens))))
out_leads (inside.Try catch) rest opens p answers n = rw n refl
out_leads (inside.Caught failure) rest opens p answers n = rw n refl
out_leads (inside.Finally second) rest opens p answers n = rw n refl
out_leads (inside.Ending (onward.Past v)) rest opens p answers n = rw n refl
out_leads (inside.Ending (onward.Thrown failure)) rest opens p answers n =
    thrown_leads failure opens (record p { opens = opens }) answers n
out_leads (inside.Ending (onward.Left v)) rest opens p answers n =
    left_leads v opens (record p { opens = opens }) answers n

-- a move leads on alike
abbrev Alike : Position → Option Position → Type 0
Alike p None = Unit {0}
Alike p (Some q) = (answers : List Value) → reached q answers ≡ reached p answers

alike_layer : (e : Statement-F Action Statement Body) (s : Statement) (rest : List Statement) (p : Position)
    → meant p.classes p.ends_throw s ≡ read p.classes p.ends_throw e → p.statements ≡ s ∷ rest → p.result ≡ None
    → Alike p (moved_by e rest p)
alike_layer (Statement-F.Do action) s rest p h g n = tt
alike_layer (Statement-F.Await name) s rest p h g n = tt
alike_layer (Statement-F.Try first listed second) s rest p h g n =
    λ answers. rw n (rw g (sym (ap (on_from p rest answers) h)))
alike_layer (Statement-F.Finally first second) s rest p h g n =
    λ answers. rw n (rw g (sym (ap (on_from p rest answers) h)))
alike_layer Statement-F.Raise s rest p h g n =
    λ answers.
    thrown_leads (raised (active p.opens)) p.opens p answers n ∙ rw n (rw g (sym (ap (on_from p rest answers) h)))
alike_layer Statement-F.Caught s rest p h g n =
    λ answers.
    caught_leads (active p.opens) rest p answers n ∙ rw n (rw g (sym (ap (on_from p rest answers) h)))
alike_layer (Statement-F.End e) s rest p h g n =
    λ answers.
    ended_leads (thrown_by p.ends_throw (ended e p.value)) (ended e p.value) rest (record p { value = Null }) answers n
    ∙ rw n (rw g (sym (ap (on_from p rest answers) h)))

alike_opens : (opens : List Open) (p : Position) → p.opens ≡ opens → p.statements ≡ [] → p.result ≡ None
    → Alike p (Some (outward opens p))
alike_opens [] p t g n = λ answers. rw n (rw g (rw t refl))
alike_opens (around ∷ opens) p t g n =
    λ answers. out_leads around.inside around.rest opens p answers n ∙ rw n (rw g (rw t refl))

alike_statements : (ss : List Statement) (p : Position) → p.statements ≡ ss → p.result ≡ None
    → Alike p (moved_in ss p)
alike_statements [] p g n = alike_opens p.opens p refl g n
alike_statements (s ∷ rest) p g n = alike_layer (out-Statement s) s rest p (meant_read p.classes p.ends_throw s) g n

alike_result : (o : Option Value) (p : Position) → p.result ≡ o → Alike p (moved_unless o p)
alike_result None p n = alike_statements p.statements p refl n
alike_result (Some outcome) p n = tt

alike : (p q : Position) → moved p ≡ Some q → LeadAlike p q
alike p q h = subst (Alike p) h (alike_result p.result p refl)

pub run_leads : (p : Position) → LeadAlike p (run_to_request p)
run_leads p answers =
    run_kept (λ u. reached u answers ≡ reached p answers) p (λ u v h k. alike u v h answers ∙ k) refl

-- an answer leads on
went_leads : (o : Option Failure) (v : Value) (s : Statement) (rest : List Statement) (p : Position) (more : List Value)
    → p.statements ≡ s ∷ rest → p.result ≡ None
    → reached (went_on o v p) more
    ≡ result_of (through p.classes p.ends_throw p.opens
    (followed (done_by o v more) (all_meant p.classes p.ends_throw rest (active p.opens))))
went_leads None v s rest p more g n = rw n (rw g refl)
went_leads (Some failure) v s rest p more g n = thrown_leads failure p.opens p more n

leads_layer : (e : Statement-F Action Statement Body) (s : Statement) (rest : List Statement) (answer : Value)
    (p : Position) → meant p.classes p.ends_throw s ≡ read p.classes p.ends_throw e → p.statements ≡ s ∷ rest
    → p.result ≡ None
    → (request_by e ≡ None → ⊥) → LeadsBy answer p (answered_to (request_by e) answer p)
leads_layer (Statement-F.Do action) s rest answer p h g n due =
    λ more.
    went_leads (failure_in answer) p.value s rest p more g n
    ∙ rw n (rw g (sym (ap (on_from p rest (answer ∷ more)) h)))
leads_layer (Statement-F.Await name) s rest answer p h g n due =
    λ more.
    went_leads (failure_in answer) answer s rest p more g n
    ∙ rw n (rw g (sym (ap (on_from p rest (answer ∷ more)) h)))
leads_layer (Statement-F.Try first listed second) s rest answer p h g n due = absurd (due refl)
leads_layer (Statement-F.Finally first second) s rest answer p h g n due = absurd (due refl)
leads_layer Statement-F.Raise s rest answer p h g n due = absurd (due refl)
leads_layer Statement-F.Caught s rest answer p h g n due = absurd (due refl)
leads_layer (Statement-F.End e) s rest answer p h g n due = absurd (due refl)

leads_statements : (ss : List Statement) (answer : Value) (p : Position) → p.statements ≡ ss → p.result ≡ None
    → (request_in ss ≡ None → ⊥) → LeadsBy answer p (answered_to (request_in ss) answer p)
leads_statements [] answer p g n due = absurd (due refl)
leads_statements (s ∷ rest) answer p g n due =
    leads_layer (out-Statement s) s rest answer p (meant_read p.classes p.ends_throw s) g n due

leads_result : (o : Option Value) (answer : Value) (p : Position) → p.result ≡ o → (request_unless o p ≡ None → ⊥)
    → LeadsBy answer p (answered_to (request_unless o p) answer p)
leads_result None answer p n due = leads_statements p.statements answer p refl n due
leads_result (Some outcome) answer p n due = absurd (due refl)

pub answer_leads : (answer : Value) (p : Position) → IsDue p → LeadsBy answer p (answered answer p)
answer_leads answer p due = leads_result p.result answer p refl due

pub taken_leads : (answer : Value) (p q : Position) → q ≡ answered answer p → IsDue p → LeadsBy answer p q
taken_leads answer p q h due more = rw h (answer_leads answer p due more)

-- if there is no move, and the body isn't over, a request stands, and there is no answer to it
requests_layer : (e : Statement-F Action Statement Body) (s : Statement) (rest : List Statement) (p : Position)
    → meant p.classes p.ends_throw s ≡ read p.classes p.ends_throw e → p.statements ≡ s ∷ rest → p.result ≡ None
    → moved_by e rest p ≡ None
    → (w : Request) × (request_by e ≡ Some w) × (reached p [] ≡ Requests w)
requests_layer (Statement-F.Do action) s rest p h g n m = (
  Do action,
  refl,
  rw n (rw g (ap (on_from p rest []) h ∙ ap result_of (through_requests p.classes p.ends_throw p.opens (Do action)))),
)
requests_layer (Statement-F.Await name) s rest p h g n m = (
  Await name,
  refl,
  rw n (rw g (ap (on_from p rest []) h ∙ ap result_of (through_requests p.classes p.ends_throw p.opens (Await name)))),
)
requests_layer (Statement-F.Try first listed second) s rest p h g n m = absurd cc
requests_layer (Statement-F.Finally first second) s rest p h g n m = absurd cc
requests_layer Statement-F.Raise s rest p h g n m = absurd cc
requests_layer Statement-F.Caught s rest p h g n m = absurd cc
requests_layer (Statement-F.End e) s rest p h g n m = absurd cc

requests_statements : (ss : List Statement) (p : Position) → p.statements ≡ ss → p.result ≡ None → moved_in ss p ≡ None
    → (w : Request) × (request_in ss ≡ Some w) × (reached p [] ≡ Requests w)
requests_statements [] p g n m = absurd cc
requests_statements (s ∷ rest) p g n m =
    requests_layer (out-Statement s) s rest p (meant_read p.classes p.ends_throw s) g n m

requests_result : (o : Option Value) (p : Position) → p.result ≡ o → o ≡ None → moved_unless o p ≡ None
    → (w : Request) × (request_unless o p ≡ Some w) × (reached p [] ≡ Requests w)
requests_result None p n e m = requests_statements p.statements p refl n m
requests_result (Some outcome) p n e m = absurd cc

pub requests_here : (p : Position) → moved p ≡ None → p.result ≡ None → Stands p
requests_here p m n = requests_result p.result p refl n m

-- the body is over with its result
abbrev value_or : Value → Option Value → Value
value_or v None = v
value_or v (Some w) = w

over_result : (o : Option Value) (p : Position) (v : Value) → o ≡ Some v → reached_unless o p [] ≡ Over v
over_result None p v h = absurd cc
over_result (Some outcome) p v h = ap (λ o. Over (value_or v o)) h

pub run_ends : (p : Position) (v : Value) → (run_to_request p).result ≡ Some v → ResultsIn p v
run_ends p v h = sym (run_leads p []) ∙ over_result (run_to_request p).result (run_to_request p) v h

pub run_requests : (p : Position) → (run_to_request p).result ≡ None → Stands (run_to_request p)
run_requests p n = requests_here (run_to_request p) (run_rests p) n
