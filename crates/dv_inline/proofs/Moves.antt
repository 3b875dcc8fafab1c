-- The moves of a body that need no answer: each leaves less of it, so that they end.
use Rattle.std.proofs.Common.{◌≡◌, ℕ, zero, suc, ◌+◌, ◌<◌, ◌≤◌, true, false, List, [], ◌∷◌, Option, None, Some, refl}
use Rattle.std.proofs.Common.{arith}
use Rattle.std.proofs.Common.{ap, ◌∙◌, sym, subst}
use Rattle.dv_inline.specs.Meaning.{ended, thrown_by, no_active, raised}
use Rattle.dv_inline.specs.Position.{Position, Moves, moved, moved_by, moved_in, moved_unless, outward, statement_step}
use Rattle.dv_inline.specs.Position.{statement_size, statements_size, inside_size, opens_size, result_size}
use Rattle.dv_inline.specs.Position.{position_size, goes_on, run_within, run_to_request, active, ahead, class_caught}
use Rattle.dv_inline.specs.Position.{second_for}
use Rattle.dv_inline.specs.Position.{thrown_to, thrown_from, left_to, left_from, ended_with, caught_from, out_of}
use Rattle.dv_inline.specs.declared.open.Inside.{Inside}
use Rattle.dv_inline.specs.declared.open.Inside.TheVariants as inside
use Rattle.dv_inline.specs.declared.open.Onward.TheVariants as onward
use Rattle.dv_inline.specs.declared.open.Open.{Open}
use Rattle.dv_script.specs.declared.action.Action.{Action}
use Rattle.dv_script.specs.declared.action.Action.TheOpen.{Statement-F}
use Rattle.dv_script.specs.declared.action.Action.TheFolds.{fold-Action, fold-Body, fold_out-Statement}
use Rattle.dv_script.specs.declared.body.Body.{Body}
use Rattle.dv_script.specs.declared.body.Statement.{Statement, out-Statement, map-Statement}
use Rattle.dv_value.specs.declared.failure.Failure.{Failure}
use Rattle.dv_value.specs.declared.value.Value.{Value, Null}

-- where there is a move, it leads to less
abbrev pub Falls : Position → Option Position → Type 0
Falls p None = Unit {0}
Falls p (Some q) = position_size q < position_size p

-- how much text one layer of a statement is
abbrev layer_size : Statement-F Action Statement Body → ℕ
layer_size e =
    statement_step (map-Statement Action Statement Body ℕ ℕ ℕ (fold-Action ℕ ℕ ℕ (λ action. 0) statement_step
    (λ body. 0)) statement_size (fold-Body ℕ ℕ ℕ (λ action. 0) statement_step (λ body. 0)) e)

size_out : (s : Statement) → statement_size s ≡ layer_size (out-Statement s)
size_out = fold_out-Statement ℕ ℕ ℕ (λ action. 0) statement_step (λ body. 0)

-- a failure that is thrown leaves less than what is round it, and so does an end
thrown_at : (o : Option ℕ) (place : Inside) (failure : Failure) (outer : Position) (rest : List Statement)
    (opens : List Open) (p : Position) → p.result ≡ None
    → position_size outer < 1 + statements_size p.statements + opens_size opens
    → position_size (thrown_to outer failure (second_for o place) (ahead place) rest opens p)
    < 1 + statements_size p.statements + (1 + inside_size place + statements_size rest + opens_size opens)
thrown_at None (inside.Try catch) failure outer rest opens p n h = omega (arith, h)
thrown_at (Some class) (inside.Try catch) failure outer rest opens p n h = omega (arith, ap result_size n)
thrown_at None (inside.Caught other) failure outer rest opens p n h = omega (arith, h)
thrown_at (Some class) (inside.Caught other) failure outer rest opens p n h = omega (arith, h)
thrown_at None (inside.Finally second) failure outer rest opens p n h = omega (arith, ap result_size n)
thrown_at (Some class) (inside.Finally second) failure outer rest opens p n h = omega (arith, ap result_size n)
thrown_at None (inside.Ending how) failure outer rest opens p n h = omega (arith, h)
thrown_at (Some class) (inside.Ending how) failure outer rest opens p n h = omega (arith, h)

thrown_less : (failure : Failure) (opens : List Open) (p : Position) → p.result ≡ None
    → position_size (thrown_from failure opens p) < 1 + statements_size p.statements + opens_size opens
thrown_less failure [] p n = omega arith
thrown_less failure (around ∷ opens) p n =
    thrown_at (class_caught p.classes failure around.inside) around.inside failure (thrown_from failure opens p)
    around.rest opens p n (thrown_less failure opens p n)

left_at : (place : Inside) (v : Value) (outer : Position) (rest : List Statement) (opens : List Open) (p : Position)
    → p.result ≡ None → position_size outer < 1 + statements_size p.statements + opens_size opens
    → position_size (left_to outer v (ahead place) rest opens p)
    < 1 + statements_size p.statements + (1 + inside_size place + statements_size rest + opens_size opens)
left_at (inside.Try catch) v outer rest opens p n h = omega (arith, h)
left_at (inside.Caught failure) v outer rest opens p n h = omega (arith, h)
left_at (inside.Finally second) v outer rest opens p n h = omega (arith, ap result_size n)
left_at (inside.Ending how) v outer rest opens p n h = omega (arith, h)

left_less : (v : Value) (opens : List Open) (p : Position) → p.result ≡ None
    → position_size (left_from v opens p) < 1 + statements_size p.statements + opens_size opens
left_less v [] p n = omega arith
left_less v (around ∷ opens) p n =
    left_at around.inside v (left_from v opens p) around.rest opens p n (left_less v opens p n)

ended_less : (o : Option Failure) (v : Value) (p : Position) → p.result ≡ None
    → position_size (ended_with o v p) < 1 + statements_size p.statements + opens_size p.opens
ended_less None v p n = left_less v p.opens p n
ended_less (Some failure) v p n = thrown_less failure p.opens p n

caught_less : (o : Option Failure) (rest : List Statement) (p : Position) → p.result ≡ None
    → statements_size p.statements ≡ 1 + statements_size rest
    → position_size (caught_from o rest p) < 1 + statements_size p.statements + opens_size p.opens
caught_less None rest p n h = thrown_less no_active p.opens p n
caught_less (Some failure) rest p n h = omega (arith, h, ap result_size n)

by_layer : (e : Statement-F Action Statement Body) (s : Statement) (rest : List Statement) (p : Position)
    → statement_size s ≡ layer_size e → p.statements ≡ s ∷ rest → p.result ≡ None → Falls p (moved_by e rest p)
by_layer (Statement-F.Do action) s rest p h g n = tt
by_layer (Statement-F.Await name) s rest p h g n = tt
by_layer (Statement-F.Try first listed second) s rest p h g n = omega (arith, h, ap statements_size g)
by_layer (Statement-F.Finally first second) s rest p h g n = omega (arith, h, ap statements_size g)
by_layer Statement-F.Raise s rest p h g n =
    omega (arith, ap result_size n, thrown_less (raised (active p.opens)) p.opens p n)
by_layer Statement-F.Caught s rest p h g n =
    omega (
      arith,
      ap result_size n,
      caught_less (active p.opens) rest p n (omega (arith, h, ap statements_size g)),
    )
by_layer (Statement-F.End e) s rest p h g n =
    omega (
      arith,
      ap result_size n,
      ended_less (thrown_by p.ends_throw (ended e p.value)) (ended e p.value) (record p { value = Null }) n,
    )

-- what leads out of the innermost
by_inside : (place : Inside) (rest : List Statement) (opens : List Open) (p : Position) → p.statements ≡ []
    → p.result ≡ None
    → position_size (out_of place rest (record p { opens = opens }))
    < 2 + inside_size place + statements_size rest + opens_size opens
by_inside (inside.Try catch) rest opens p g n = omega (arith, ap result_size n)
by_inside (inside.Caught failure) rest opens p g n = omega (arith, ap result_size n)
by_inside (inside.Finally second) rest opens p g n = omega (arith, ap result_size n)
by_inside (inside.Ending (onward.Past v)) rest opens p g n = omega (arith, ap result_size n)
by_inside (inside.Ending (onward.Thrown failure)) rest opens p g n =
    omega (arith, ap statements_size g, thrown_less failure opens (record p { opens = opens }) n)
by_inside (inside.Ending (onward.Left v)) rest opens p g n =
    omega (arith, ap statements_size g, left_less v opens (record p { opens = opens }) n)

by_opens : (opens : List Open) (p : Position) → p.opens ≡ opens → p.statements ≡ [] → p.result ≡ None
    → Falls p (Some (outward opens p))
by_opens [] p t g n = omega (arith, ap result_size n)
by_opens (around ∷ opens) p t g n =
    omega (
      arith,
      by_inside around.inside around.rest opens p g n,
      ap opens_size t,
      ap statements_size g,
      ap result_size n,
    )

by_statements : (ss : List Statement) (p : Position) → p.statements ≡ ss → p.result ≡ None → Falls p (moved_in ss p)
by_statements [] p g n = by_opens p.opens p refl g n
by_statements (s ∷ rest) p g n = by_layer (out-Statement s) s rest p (size_out s) g n

by_result : (o : Option Value) (p : Position) → p.result ≡ o → Falls p (moved_unless o p)
by_result None p n = by_statements p.statements p refl n
by_result (Some outcome) p n = tt

pub falls : (p : Position) → Falls p (moved p)
falls p = by_result p.result p refl

-- a move leaves less
pub move_falls : (p q : Position) → moved p ≡ Some q → position_size q < position_size p
move_falls p q h = subst (Falls p) h (falls p)

-- as many moves as there are lead to one place, however many more are allowed
enough_by : (n m : ℕ) (p : Position) (o : Option Position)
    → ((q : Position) → position_size q < position_size p → run_within n q ≡ run_within m q) → Falls p o
    → goes_on (run_within n) p o ≡ goes_on (run_within m) p o
enough_by n m p None h f = refl
enough_by n m p (Some q) h f = h q f

stays_by : (m : ℕ) (p : Position) (o : Option Position) → position_size p ≤ 0 → Falls p o
    → p ≡ goes_on (run_within m) p o
stays_by m p None h f = refl
stays_by m p (Some q) h f = absurd (omega (arith, h, f))

enough : (n m : ℕ) (p : Position) → position_size p ≤ n → position_size p ≤ m → run_within n p ≡ run_within m p
unfolding run_within
enough zero zero p h k = refl
enough zero (suc m) p h k = stays_by m p (moved p) h (falls p)
enough (suc n) zero p h k = sym (stays_by n p (moved p) k (falls p))
enough (suc n) (suc m) p h k =
    enough_by n m p (moved p) (λ q f. enough n m q (omega (arith, h, f)) (omega (arith, k, f))) (falls p)

one_more : (n : ℕ) (p q : Position) → moved p ≡ Some q → position_size p ≤ suc n
    → run_within (suc n) p ≡ run_within n q
unfolding run_within
one_more n p q h k = ap (goes_on (run_within n) p) h

-- a move keeps where the moves lead to
pub run_keeps : (p q : Position) → moved p ≡ Some q → run_to_request q ≡ run_to_request p
unfolding run_to_request
run_keeps p q h =
    let less = move_falls p q h in
    enough (position_size q) (position_size p) q (omega arith) (omega (arith, less))
    ∙ sym (one_more (position_size p) p q h (omega arith))
    ∙ enough (suc (position_size p)) (position_size p) p (omega arith) (omega arith)

stands_by : (n : ℕ) (p : Position) → moved p ≡ None → run_within n p ≡ p
unfolding run_within
stands_by zero p h = refl
stands_by (suc n) p h = ap (goes_on (run_within n) p) h

-- where there is no move, they lead to where one stands
pub run_stands : (p : Position) → moved p ≡ None → run_to_request p ≡ p
unfolding run_to_request
run_stands p h = stands_by (position_size p) p h

-- what moves keep holds where they lead to
keeps_on : (P : Position → Type 0) (n : ℕ) (p : Position) (o : Option Position) → moved p ≡ o
    → ((u v : Position) → moved u ≡ Some v → P u → P v) → ((q : Position) → P q → P (run_within n q)) → P p
    → P (goes_on (run_within n) p o)
keeps_on P n p None e h next k = k
keeps_on P n p (Some q) e h next k = next q (h p q e k)

keeps_by : (P : Position → Type 0) (n : ℕ) (p : Position) → ((u v : Position) → moved u ≡ Some v → P u → P v) → P p
    → P (run_within n p)
unfolding run_within
keeps_by P zero p h k = k
keeps_by P (suc n) p h k = keeps_on P n p (moved p) refl h (λ q l. keeps_by P n q h l) k

pub run_kept : (P : Position → Type 0) (p : Position) → ((u v : Position) → moved u ≡ Some v → P u → P v) → P p
    → P (run_to_request p)
unfolding run_to_request
run_kept P p h k = keeps_by P (position_size p) p h k

-- they lead to where there is none
none_by : (p : Position) (o : Option Position) → position_size p ≤ 0 → Falls p o → o ≡ None
none_by p None h f = refl
none_by p (Some q) h f = absurd (omega (arith, h, f))

rests_on : (n : ℕ) (p : Position) (o : Option Position) → moved p ≡ o
    → ((q : Position) → position_size q < position_size p → moved (run_within n q) ≡ None) → Falls p o
    → moved (goes_on (run_within n) p o) ≡ None
rests_on n p None e next f = e
rests_on n p (Some q) e next f = next q f

rests_by : (n : ℕ) (p : Position) → position_size p ≤ n → moved (run_within n p) ≡ None
unfolding run_within
rests_by zero p h = none_by p (moved p) h (falls p)
rests_by (suc n) p h = rests_on n p (moved p) refl (λ q f. rests_by n q (omega (arith, h, f))) (falls p)

pub run_rests : (p : Position) → moved (run_to_request p) ≡ None
unfolding run_to_request
run_rests p = rests_by (position_size p) p (omega arith)

pub run_twice : (p : Position) → run_to_request (run_to_request p) ≡ run_to_request p
run_twice p = run_stands (run_to_request p) (run_rests p)

-- a step of the loop, and its end
pub step_smaller : (p q : Position) → Moves true p q → position_size q < position_size p
step_smaller p q h = move_falls p q h

pub step_keeps : (p q : Position) → Moves true p q → run_to_request q ≡ run_to_request p
step_keeps p q h = run_keeps p q h

pub last_step : (p q : Position) → Moves false p q → q ≡ run_to_request p
last_step p q h = h.1 ∙ sym (run_stands p h.0)
