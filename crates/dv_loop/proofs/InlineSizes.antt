-- How much text of an inline body is left: no move adds to it, and an answer takes from it.
use Rattle.std.proofs.Common.{◌≡◌, ℕ, ◌+◌, ◌<◌, List, arith, ◌≤◌, [], ◌∷◌, Option, None, Some, refl, ap, subst}
use Rattle.dv_inline.proofs.Moves.{run_kept}
use Rattle.dv_inline.specs.Meaning.{ended, no_active, raised, thrown_by}
use Rattle.dv_inline.specs.Position.{Position, moved, moved_by, moved_in, moved_unless, outward, run_to_request}
use Rattle.dv_inline.specs.Position.{request_at, request_by}
use Rattle.dv_inline.specs.Position.{request_in, request_unless, answered, answered_to, went_on, active, ahead}
use Rattle.dv_inline.specs.Position.{class_caught}
use Rattle.dv_inline.specs.Position.{second_for, into_second, thrown_from, thrown_to, left_from, left_to, caught_from}
use Rattle.dv_inline.specs.Position.{out_of, ended_from, ended_with}
use Rattle.dv_inline.specs.declared.open.Inside.{Inside}
use Rattle.dv_inline.specs.declared.open.Inside.TheVariants as inside
use Rattle.dv_inline.specs.declared.open.Onward.TheVariants as onward
use Rattle.dv_inline.specs.declared.open.Open.{Open}
use Rattle.dv_inline.specs.declared.request.Request.TheVariants.{Do, Await}
use Rattle.dv_inline.specs.declared.request.Request.{Request}
use Rattle.dv_loop.proofs.Lighter.{action_size, begun_fits, inside_size, layer_size, opens_size, statement_size}
use Rattle.dv_loop.proofs.Lighter.{statement_size_out, statements_size, text_by, text_of, waiting_by, waiting_text}
use Rattle.dv_script.specs.declared.action.Action.TheOpen.{Statement-F}
use Rattle.dv_script.specs.declared.action.Action.{Action}
use Rattle.dv_script.specs.declared.body.Body.{Body}
use Rattle.dv_script.specs.declared.body.Statement.{Statement, out-Statement}
use Rattle.dv_value.specs.Failure.{failure_in}
use Rattle.dv_value.specs.declared.failure.Failure.{Failure}
use Rattle.dv_value.specs.declared.value.Value.{Value, Null}

most_text : (o : Option Value) (p : Position) → text_by o p ≤ 1 + statements_size p.statements + opens_size p.opens
most_text None p = omega arith
most_text (Some result) p = omega arith

-- a failure that is thrown leaves the statements behind, and so does an end
thrown_at : (o : Option ℕ) (place : Inside) (failure : Failure) (outer : Position) (rest : List Statement)
    (opens : List Open) (p : Position) → text_of outer ≤ opens_size opens
    → text_of (thrown_to outer failure (second_for o place) (ahead place) rest opens p)
    ≤ 1 + inside_size place + statements_size rest + opens_size opens
thrown_at None (inside.Try catch) failure outer rest opens p h = omega (arith, h)
thrown_at (Some class) (inside.Try catch) failure outer rest opens p h =
    omega (arith, most_text p.result (into_second catch.second (inside.Caught failure) rest opens p))
thrown_at None (inside.Caught other) failure outer rest opens p h = omega (arith, h)
thrown_at (Some class) (inside.Caught other) failure outer rest opens p h = omega (arith, h)
thrown_at None (inside.Finally second) failure outer rest opens p h =
    omega (arith, most_text p.result (into_second second (inside.Ending (onward.Thrown failure)) rest opens p))
thrown_at (Some class) (inside.Finally second) failure outer rest opens p h =
    omega (arith, most_text p.result (into_second second (inside.Ending (onward.Thrown failure)) rest opens p))
thrown_at None (inside.Ending how) failure outer rest opens p h = omega (arith, h)
thrown_at (Some class) (inside.Ending how) failure outer rest opens p h = omega (arith, h)

thrown_text : (failure : Failure) (opens : List Open) (p : Position)
    → text_of (thrown_from failure opens p) ≤ opens_size opens
thrown_text failure [] p = omega arith
thrown_text failure (around ∷ opens) p =
    thrown_at (class_caught p.classes failure around.inside) around.inside failure (thrown_from failure opens p)
    around.rest opens p (thrown_text failure opens p)

left_at : (place : Inside) (v : Value) (outer : Position) (rest : List Statement) (opens : List Open) (p : Position)
    → text_of outer ≤ opens_size opens
    → text_of (left_to outer v (ahead place) rest opens p)
    ≤ 1 + inside_size place + statements_size rest + opens_size opens
left_at (inside.Try catch) v outer rest opens p h = omega (arith, h)
left_at (inside.Caught failure) v outer rest opens p h = omega (arith, h)
left_at (inside.Finally second) v outer rest opens p h =
    omega (arith, most_text p.result (into_second second (inside.Ending (onward.Left v)) rest opens p))
left_at (inside.Ending how) v outer rest opens p h = omega (arith, h)

left_text : (v : Value) (opens : List Open) (p : Position) → text_of (left_from v opens p) ≤ opens_size opens
left_text v [] p = omega arith
left_text v (around ∷ opens) p =
    left_at around.inside v (left_from v opens p) around.rest opens p (left_text v opens p)

ended_at : (o : Option Failure) (v : Value) (p : Position) → text_of (ended_with o v p) ≤ opens_size p.opens
ended_at None v p = left_text v p.opens p
ended_at (Some failure) v p = thrown_text failure p.opens p

ended_text : (v : Value) (p : Position) → text_of (ended_from v p) ≤ opens_size p.opens
ended_text v p = ended_at (thrown_by p.ends_throw v) v p

caught_text : (o : Option Failure) (rest : List Statement) (p : Position)
    → text_of (caught_from o rest p) ≤ 1 + statements_size rest + opens_size p.opens
caught_text None rest p = omega (arith, thrown_text no_active p.opens p)
caught_text (Some failure) rest p = most_text p.result (caught_from (Some failure) rest p)

out_text : (place : Inside) (rest : List Statement) (opens : List Open) (p : Position)
    → text_of (out_of place rest (record p { opens = opens }))
    ≤ 2 + inside_size place + statements_size rest + opens_size opens
out_text (inside.Try catch) rest opens p =
    omega (arith, most_text p.result (record p { statements = rest; opens = opens }))
out_text (inside.Caught failure) rest opens p =
    omega (arith, most_text p.result (record p { statements = rest; opens = opens }))
out_text (inside.Finally second) rest opens p =
    omega (arith, most_text p.result (into_second second (inside.Ending (onward.Past p.value)) rest opens p))
out_text (inside.Ending (onward.Past v)) rest opens p =
    omega (arith, most_text p.result (record p { statements = rest; opens = opens; value = v }))
out_text (inside.Ending (onward.Thrown failure)) rest opens p =
    omega (arith, thrown_text failure opens (record p { opens = opens }))
out_text (inside.Ending (onward.Left v)) rest opens p =
    omega (arith, left_text v opens (record p { opens = opens }))

-- a move adds nothing
abbrev Adds : Position → Option Position → Type 0
Adds p None = Unit {0}
Adds p (Some q) = text_of q ≤ text_of p

by_layer : (e : Statement-F Action Statement Body) (s : Statement) (rest : List Statement) (p : Position)
    → statement_size s ≡ layer_size e → p.statements ≡ s ∷ rest → p.result ≡ None → Adds p (moved_by e rest p)
by_layer (Statement-F.Do action) s rest p h g n = tt
by_layer (Statement-F.Await name) s rest p h g n = tt
by_layer (Statement-F.Try first listed second) s rest p h g n = rw n (omega (arith, h, ap statements_size g))
by_layer (Statement-F.Finally first second) s rest p h g n = rw n (omega (arith, h, ap statements_size g))
by_layer Statement-F.Raise s rest p h g n =
    omega (arith, thrown_text (raised (active p.opens)) p.opens p, ap (λ o. text_by o p) n)
by_layer Statement-F.Caught s rest p h g n =
    omega (arith, h, caught_text (active p.opens) rest p, ap statements_size g, ap (λ o. text_by o p) n)
by_layer (Statement-F.End e) s rest p h g n =
    omega (arith, ended_text (ended e p.value) (record p { value = Null }), ap (λ o. text_by o p) n)

by_opens : (opens : List Open) (p : Position) → p.opens ≡ opens → p.statements ≡ [] → p.result ≡ None
    → Adds p (Some (outward opens p))
by_opens [] p t g n = omega arith
by_opens (around ∷ opens) p t g n =
    omega
    (arith, out_text around.inside around.rest opens p, ap opens_size t, ap (λ o. text_by o p) n)

by_statements : (ss : List Statement) (p : Position) → p.statements ≡ ss → p.result ≡ None → Adds p (moved_in ss p)
by_statements [] p g n = by_opens p.opens p refl g n
by_statements (s ∷ rest) p g n = by_layer (out-Statement s) s rest p (statement_size_out s) g n

by_result : (o : Option Value) (p : Position) → p.result ≡ o → Adds p (moved_unless o p)
by_result None p n = by_statements p.statements p refl n
by_result (Some result) p n = tt

move_text : (p q : Position) → moved p ≡ Some q → text_of q ≤ text_of p
move_text p q h = subst (Adds p) h (by_result p.result p refl)

pub run_text : (p : Position) → text_of (run_to_request p) ≤ text_of p
run_text p = run_kept (λ u. text_of u ≤ text_of p) p (λ u v h k. omega (arith, move_text u v h, k)) (omega arith)

-- the action that is requested
abbrev action_in : Option Request → Action → Action
action_in None other = other
action_in (Some (Do action)) other = action
action_in (Some (Await name)) other = other

-- an answer takes the statement that requested it
went_text : (o : Option Failure) (v : Value) (s : Statement) (rest : List Statement) (p : Position)
    → p.statements ≡ s ∷ rest → text_of (went_on o v p) ≤ 1 + statements_size rest + opens_size p.opens
went_text None v s rest p g = rw g (most_text p.result (record p { statements = rest; value = v }))
went_text (Some failure) v s rest p g = omega (arith, thrown_text failure p.opens p)

answer_layer : (e : Statement-F Action Statement Body) (answer : Value) (s : Statement)
    (rest : List Statement) (p : Position) → statement_size s ≡ layer_size e → p.statements ≡ s ∷ rest → p.result ≡ None
    → 1 + text_of (answered_to (request_by e) answer p) < waiting_by (request_by e) p
answer_layer (Statement-F.Do action) answer s rest p h g n =
    omega (
      arith,
      went_text (failure_in answer) p.value s rest p g,
      ap (λ o. text_by o p) n,
      ap statements_size g,
      h,
      begun_fits action,
    )
answer_layer (Statement-F.Await name) answer s rest p h g n =
    omega
    (arith, went_text (failure_in answer) answer s rest p g, ap (λ o. text_by o p) n, ap statements_size g, h)
answer_layer (Statement-F.Try first listed second) answer s rest p h g n = omega arith
answer_layer (Statement-F.Finally first second) answer s rest p h g n = omega arith
answer_layer Statement-F.Raise answer s rest p h g n = omega arith
answer_layer Statement-F.Caught answer s rest p h g n = omega arith
answer_layer (Statement-F.End e) answer s rest p h g n = omega arith

answer_statements : (ss : List Statement) (answer : Value) (p : Position) → p.statements ≡ ss
    → p.result ≡ None → 1 + text_of (answered_to (request_in ss) answer p) < waiting_by (request_in ss) p
answer_statements [] answer p g n = omega arith
answer_statements (s ∷ rest) answer p g n =
    answer_layer (out-Statement s) answer s rest p (statement_size_out s) g n

answer_result : (o : Option Value) (answer : Value) (p : Position) → p.result ≡ o
    → 1 + text_of (answered_to (request_unless o p) answer p) < waiting_by (request_unless o p) p
answer_result None answer p n = answer_statements p.statements answer p refl n
answer_result (Some result) answer p n = omega arith

pub answer_text : (answer : Value) (p : Position) → 1 + text_of (answered answer p) < waiting_text p
answer_text answer p = answer_result p.result answer p refl

-- an action that is requested is less than what is left
requests_layer : (e : Statement-F Action Statement Body) (s : Statement) (rest : List Statement) (p : Position)
    (action : Action) → statement_size s ≡ layer_size e → p.statements ≡ s ∷ rest → p.result ≡ None
    → request_by e ≡ Some (Do action) → action_size action < text_of p
requests_layer (Statement-F.Do requested) s rest p action h g n w =
    let same : requested ≡ action = ap (λ o. action_in o requested) w in
    omega (arith, h, ap action_size same, ap statements_size g, ap (λ o. text_by o p) n)
requests_layer (Statement-F.Await name) s rest p action h g n w = absurd cc
requests_layer (Statement-F.Try first listed second) s rest p action h g n w = absurd cc
requests_layer (Statement-F.Finally first second) s rest p action h g n w = absurd cc
requests_layer Statement-F.Raise s rest p action h g n w = absurd cc
requests_layer Statement-F.Caught s rest p action h g n w = absurd cc
requests_layer (Statement-F.End e) s rest p action h g n w = absurd cc

requests_statements : (ss : List Statement) (p : Position) (action : Action) → p.statements ≡ ss → p.result ≡ None
    → request_in ss ≡ Some (Do action) → action_size action < text_of p
requests_statements [] p action g n w = absurd cc
requests_statements (s ∷ rest) p action g n w =
    requests_layer (out-Statement s) s rest p action (statement_size_out s) g n w

requests_result : (o : Option Value) (p : Position) (action : Action) → p.result ≡ o
    → request_unless o p ≡ Some (Do action)
    → action_size action < text_of p
requests_result None p action n w = requests_statements p.statements p action refl n w
requests_result (Some result) p action n w = absurd cc

pub action_text : (p : Position) (action : Action) → request_at p ≡ Some (Do action) → action_size action < text_of p
action_text p action w = requests_result p.result p action refl w
