-- The conditions on the page are those of the crates' steps.
use Rattle.std.proofs.Common.{◌≡◌, ℕ, zero, suc, ◌+◌, Bool, true, false, ◌&&◌, if◌then◌else◌, List, [], ◌∷◌, length}
use Rattle.std.proofs.Common.{Option, None, Some, slice_get, slice_set, nat_eq, nat_lt, refl, ap, ◌∙◌}
use Rattle.std.specs.Option.{option_map, option_map_or}
use Rattle.dv_clock.specs.Clock.{Upcoming, due_at, first_from, first_of, upcoming}
use Rattle.dv_clock.specs.declared.call.Call.{Call}
use Rattle.dv_clock.specs.Turns.{Turns, position_left}
use Rattle.dv_definition.specs.Conditions.{CallsComeInTurn, CancelsReach, EndsLeave, FailingEndsThrow}
use Rattle.dv_definition.specs.Conditions.{FailuresAreThrown, ListsFire, TasksLeave}
use Rattle.dv_definition.specs.Definition.{position_once_left}
use Rattle.dv_script.specs.declared.turn_rule.TurnRule.{TurnRule}
use Rattle.dv_script.specs.declared.turn_rule.TurnRule.TheVariants.{Earlier, Fair, Twisted}
use Rattle.dv_definition.specs.Definition.{all_fired, caught_by, earlier, end_of_waiting, first_call, reached_by}
use Rattle.dv_definition.specs.Definition.{left, second_of, still_to_run, thrown}
use Rattle.dv_definition.specs.Rule.{found}
use Rattle.dv_inline.specs.Meaning.{thrown_by}
use Rattle.dv_inline.specs.Position.{Position, ahead, class_caught, ended_with, left_to, second_for, thrown_to}
use Rattle.dv_inline.specs.declared.open.Catch.{Catch}
use Rattle.dv_inline.specs.declared.open.Inside.{Inside}
use Rattle.dv_inline.specs.declared.open.Inside.TheVariants as inside
use Rattle.dv_inline.specs.declared.open.Onward.TheVariants as onward
use Rattle.dv_inline.specs.declared.open.Open.{Open}
use Rattle.dv_objects.specs.Pair.{Pair}
use Rattle.dv_objects.specs.Reached.{reached_unfired}
use Rattle.dv_objects.specs.declared.canceller.Canceller.{Canceller}
use Rattle.dv_objects.specs.declared.canceller.Canceller.TheVariants as canceller
use Rattle.dv_objects.specs.declared.reached.Reached.TheVariants as reached
use Rattle.dv_prims.specs.DeferredList.{Gather, count_missing, due_at_last, due_by_failure, due_when_kept}
use Rattle.dv_prims.specs.DeferredList.{first_failure, first_success, kept_of, succeeded, without_places}
use Rattle.dv_script.specs.declared.body.Statement.{Statement}
use Rattle.dv_store.specs.Cancelling.{link, walk}
use Rattle.dv_store.specs.declared.record.Record.{Record}
use Rattle.dv_value.specs.Classes.{check}
use Rattle.dv_value.specs.Failure.{class_of, failure_in}
use Rattle.dv_value.specs.declared.failure.Failure.{Failure}
use Rattle.dv_value.specs.declared.value.Value.{Value}
use Rattle.dv_world.specs.World.{World, end_reached, record_reached}

-- cancelling
step_same : (o : Option ℕ) (d : ℕ) (f g : ℕ → Option ℕ) → ((e : ℕ) → f e ≡ g e)
    → option_map_or f o (Some d) ≡ found o (Some d) g
step_same None d f g h = refl
step_same (Some e) d f g h = h e

walk_same : (most d : ℕ) (w : World) → walk most d w.records ≡ end_of_waiting most d w
unfolding walk end_of_waiting
walk_same zero d w = refl
walk_same (suc most) d w =
    step_same (link w.records d) d (λ e. walk most e w.records) (λ e. end_of_waiting most e w) (λ e. walk_same most e w)

canceller_same : (d : ℕ) (o : Option Canceller) → reached_unfired d o ≡ reached_by d o
canceller_same d None = refl
canceller_same d (Some (canceller.Body body)) = refl
canceller_same d (Some (canceller.Token l)) = refl
canceller_same d (Some (canceller.Item k)) = refl
canceller_same d (Some (canceller.Children children)) = refl
canceller_same d (Some (canceller.Inline i)) = refl

record_same : (d : ℕ) (o : Option (Record Pair Canceller))
    → record_reached d o ≡ found o reached.Nothing (λ r. if r.fired then reached.Nothing else reached_by d r.canceller)
record_same d None = refl
record_same d (Some r) = ap (λ x. if r.fired then reached.Nothing else x) (canceller_same d r.canceller)

end_same : (o : Option ℕ) (w : World) → end_reached o w.records ≡ found o reached.Nothing (λ e.
    found (slice_get w.records e) reached.Nothing (λ r. if r.fired then reached.Nothing else reached_by e r.canceller))
end_same None w = refl
end_same (Some e) w = record_same e (slice_get w.records e)

pub cancels_reach : CancelsReach
cancels_reach d w =
    ap (λ o. end_reached o w.records) (walk_same (length w.records + 1) d w)
    ∙ end_same (end_of_waiting (length w.records + 1) d w) w

-- lists
answer_of_if : {A B : Type 0} (b : Bool) (x y : A × B) → (if b then x else y).0 ≡ (if b then x.0 else y.0)
answer_of_if true x y = refl
answer_of_if false x y = refl

last_same : (g : Gather) → (due_at_last g).0 ≡ all_fired g.places
last_same g = answer_of_if (nat_eq (count_missing g.places) 0) _ _

kept_same : (i : ℕ) (v : Value) (g : Gather) → (due_when_kept i v g).0 ≡ all_fired (slice_set g.places i (kept_of v))
kept_same i v g = last_same (record g { places = slice_set g.places i (kept_of v) })

none_if : (b : Bool) (n : Option Value) (f : Failure → Option Value) → n ≡ found (if b then None else None) n f
none_if true n f = refl
none_if false n f = refl

some_if : (b : Bool) (failure : Failure) (n : Option Value) (f : Failure → Option Value)
    → (if b then f failure else n) ≡ found (if b then Some failure else None) n f
some_if true failure n f = refl
some_if false failure n f = refl

errback_same : (i : ℕ) (o : Option Failure) (v : Value) (g : Gather)
    → (due_by_failure i o v g).0 ≡ found (if g.flags.fire_on_one_errback then o
    else None) (all_fired (slice_set g.places i (kept_of v))) (λ failure. Some (first_failure i failure))
errback_same i None v g = kept_same i v g ∙ none_if g.flags.fire_on_one_errback _ _
errback_same i (Some failure) v g =
    answer_of_if g.flags.fire_on_one_errback (Some (first_failure i failure), without_places g) (due_when_kept i v g)
    ∙ ap (λ n. if g.flags.fire_on_one_errback then Some (first_failure i failure) else n) (kept_same i v g)
    ∙ some_if g.flags.fire_on_one_errback failure (all_fired (slice_set g.places i (kept_of v)))
    (λ f. Some (first_failure i f))

first_of_three : (a b : Bool) (x y z : Option Value × Gather) (n : Option Value) → z.0 ≡ n
    → (if a then x else if b then y else z).0 ≡ (if a then x.0 else if b then y.0 else n)
first_of_three true b x y z n h = refl
first_of_three false true x y z n h = refl
first_of_three false false x y z n h = h

pub lists_fire : ListsFire
lists_fire i v g =
    first_of_three g.fired (g.flags.fire_on_one_callback && succeeded v) (None, g)
    (Some (first_success i v), without_places g) (due_by_failure i (failure_in v) v g) _
    (errback_same i (failure_in v) v g)

-- calls
first_of_same : (a b : Option Upcoming) → first_of a b ≡ found a b (λ x. found b (Some x) (λ y. Some (earlier x y)))
first_of_same None b = refl
first_of_same (Some a) None = refl
first_of_same (Some a) (Some b) = refl

first_same : (number : ℕ) (calls : List Call) → first_from number calls ≡ first_call number calls
first_same number [] = refl
first_same number (call ∷ calls) =
    ap (first_of (upcoming number call)) (first_same (number + 1) calls)
    ∙ first_of_same (upcoming number call) (first_call (number + 1) calls)

due_same : (now : ℕ) (o : Option Upcoming)
    → due_at now o ≡ found o None (λ call. if nat_lt now call.due then None else Some call)
due_same now None = refl
due_same now (Some call) = refl

pub calls_come : CallsComeInTurn
calls_come w =
    ap (due_at w.objects.clock.time) (first_same 0 w.objects.clock.calls)
    ∙ due_same w.objects.clock.time (first_call 0 w.objects.clock.calls)

-- inline bodies
try_same : (o : Option ℕ) (catch : Catch) (failure : Failure) (outer again : Position) (rest : List Statement)
    (opens : List Open) (p : Position) → outer ≡ again
    → thrown_to outer failure (second_for o (inside.Try catch)) None rest opens p
    ≡ found (option_map (λ class. catch.second) o) again (λ second.
    second_of second (inside.Caught failure) rest opens p)
try_same None catch failure outer again rest opens p e = e
try_same (Some class) catch failure outer again rest opens p e = refl

thrown_same : (place : Inside) (failure : Failure) (outer again : Position) (rest : List Statement) (opens : List Open)
    (p : Position) → outer ≡ again
    → thrown_to outer failure (second_for (class_caught p.classes failure place) place) (ahead place) rest opens p
    ≡ found (caught_by p.classes failure place)
    (found (still_to_run place) again (λ second. second_of second (inside.Ending (onward.Thrown failure)) rest opens p))
    (λ second. second_of second (inside.Caught failure) rest opens p)
thrown_same (inside.Try catch) failure outer again rest opens p e =
    try_same (check p.classes (class_of failure) catch.classes) catch failure outer again rest opens p e
thrown_same (inside.Caught other) failure outer again rest opens p e = e
thrown_same (inside.Finally second) failure outer again rest opens p e = refl
thrown_same (inside.Ending how) failure outer again rest opens p e = e

pub failures_thrown : FailuresAreThrown
failures_thrown failure [] p = refl
failures_thrown failure (around ∷ opens) p =
    thrown_same around.inside failure _ _ around.rest opens p (failures_thrown failure opens p)

left_same : (place : Inside) (v : Value) (outer again : Position) (rest : List Statement) (opens : List Open)
    (p : Position) → outer ≡ again
    → left_to outer v (ahead place) rest opens p
    ≡ found (still_to_run place) again (λ second. second_of second (inside.Ending (onward.Left v)) rest opens p)
left_same (inside.Try catch) v outer again rest opens p e = e
left_same (inside.Caught failure) v outer again rest opens p e = e
left_same (inside.Finally second) v outer again rest opens p e = refl
left_same (inside.Ending how) v outer again rest opens p e = e

pub ends_leave : EndsLeave
ends_leave v [] p = refl
ends_leave v (around ∷ opens) p = left_same around.inside v _ _ around.rest opens p (ends_leave v opens p)

-- leaving
position_is : (rule : TurnRule) (task : ℕ) (t : Turns)
    → position_left rule task t ≡ position_once_left rule task t
position_is Earlier task t = refl
position_is Fair task t = refl
position_is Twisted task t = refl

pub tasks_leave : TasksLeave
tasks_leave task t among = rw (among, position_is t.rule task t) refl

-- after an end
after_same : (o : Option Failure) (v : Value) (p : Position)
    → ended_with o v p ≡ found o (left v p.opens p) (λ failure. thrown failure p.opens p)
after_same None v p = ends_leave v p.opens p
after_same (Some failure) v p = failures_thrown failure p.opens p

by_ends : (throws : Bool) (v : Value) (p : Position)
    → ended_with (thrown_by throws v) v p
    ≡ found (if throws then failure_in v else None) (left v p.opens p) (λ failure. thrown failure p.opens p)
by_ends true v p = after_same (failure_in v) v p
by_ends false v p = ends_leave v p.opens p

pub failing_throw : FailingEndsThrow
failing_throw v p = by_ends p.ends_throw v p
