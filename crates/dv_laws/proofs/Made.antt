-- Deferreds that are made: what is made stays so, each name is bound to one that is made, and so is each Deferred that
-- a rule returns.
use Rattle.std.proofs.Common.{◌≡◌, ℕ, zero, suc, ◌++◌, Bool, true, false, if◌then◌else◌, List, [], ◌∷◌, Option, None}
use Rattle.std.proofs.Common.{Some, length, refl, sym, ap, subst, ◌∙◌, slice_get, cond}
use Rattle.std.proofs.Common.{Result, Ok, Err, arith}
use Rattle.std.specs.Prelude.{bytes_eq}
use Rattle.dv_value.specs.declared.value.Value.{Value}
use Rattle.dv_journal.specs.Journal.{fits, with_entry}
use Rattle.dv_journal.specs.declared.entry.Entry.TheVariants as entry
use Rattle.dv_journal.specs.declared.error.Stop.{Stop}
use Rattle.dv_journal.specs.declared.error.Stop.TheVariants as stop
use Rattle.dv_prims.specs.Queue.{Queue, withdrawn}
use Rattle.dv_prims.specs.Tokens.{Semaphore, forgotten}
use Rattle.dv_clock.specs.declared.call.Call.{Call}
use Rattle.dv_clock.specs.declared.call.CallState.{CallState}
use Rattle.dv_clock.specs.declared.call.CallState.TheVariants as call_state
use Rattle.dv_clock.specs.declared.delay_from.DelayFrom.{DelayFrom}
use Rattle.dv_definition.specs.Rule.{Rule, Ends, By, If, Finds, Then, Asks, Fires, Unpauses, Over, found}
use Rattle.dv_definition.specs.Rule.{run as run_rule}
use Rattle.dv_definition.specs.Steps as steps
use Rattle.dv_definition.specs.Steps.{stepped, Question, Reply}
use Rattle.dv_frames.specs.Turn.{Turned, settle_next}
use Rattle.dv_frames.specs.declared.frame.Frame.{Frame}
use Rattle.dv_frames.specs.declared.frame.Frame.TheVariants as frame
use Rattle.dv_objects.specs.Names.{Names, number_of, with_name}
use Rattle.dv_objects.specs.Objects.{Objects, naming, naming_where, queue_changed, lock_changed, with_time}
use Rattle.dv_objects.specs.Pair.{Pair}
use Rattle.dv_objects.specs.Reached.{reached_unfired}
use Rattle.dv_objects.specs.Refusals.{cancelled}
use Rattle.dv_objects.specs.declared.canceller.Canceller.{Canceller}
use Rattle.dv_objects.specs.declared.canceller.Canceller.TheVariants as canceller
use Rattle.dv_objects.specs.declared.follow.Follow.{Follow}
use Rattle.dv_objects.specs.declared.follow.Follow.TheVariants as follow
use Rattle.dv_objects.specs.declared.performed.Performed.{Performed}
use Rattle.dv_objects.specs.declared.performed.Performed.TheVariants.{Done, Gave, Raised, Awaits}
use Rattle.dv_objects.specs.declared.reached.Reached.{Reached}
use Rattle.dv_objects.specs.declared.reached.Reached.TheVariants as reached
use Rattle.dv_store.specs.Callbacks.{with_handed, with_result}
use Rattle.dv_store.specs.Chaining as chaining
use Rattle.dv_store.specs.Fire.{with_swallows}
use Rattle.dv_store.specs.Record.{with_item, new_record}
use Rattle.dv_store.specs.declared.record.Item.TheVariants as item
use Rattle.dv_store.specs.declared.store.Step.{Step as Move}
use Rattle.dv_store.specs.declared.store.Step.TheVariants.{Run}
use Rattle.dv_loop.proofs.Kept.{Both, Kind, Kept, telling_of, every_step}
use Rattle.dv_loop.proofs.Lasting.{Lasting, Comes}
use Rattle.dv_loop.proofs.StepsCome as come
use Rattle.dv_loop.proofs.StepsCome.{step_comes, question_comes}
use Rattle.dv_world.specs.World as world
use Rattle.dv_world.specs.World.{World, Records, state_of, with_state, with_stop, append, fire, fired}
use Rattle.dv_world.specs.World.{fire_then_swallow}
use Rattle.dv_world.specs.World.{fired_then_swallows, unpause, step, put, put_deferred, make, cancel, withdraw}
use Rattle.dv_world.specs.World.{reached_from}
use Rattle.dv_world.specs.World.{end_reached, record_reached, put_into, get_from, cancel_call, call_cancelled}
use Rattle.dv_world.specs.World.{state_cancelled, reset_call, call_reset, state_reset, pause, submit, aside, arrange}
use Rattle.dv_store.specs.Cancelling.{end_of_chain}
use Rattle.dv_laws.proofs.At.{counted_of, at, set_at, changing_at}
use Rattle.dv_laws.proofs.Calm.{Quiet, step_quiet, question_quiet}
use Rattle.dv_laws.proofs.Stays.{step_stays, put_stays, put_deferred_stays, append_stays, make_stays, fire_stays}
use Rattle.dv_laws.proofs.Stays.{fire_then_swallow_stays, cancel_stays, pause_stays, unpause_stays, aside_stays}
use Rattle.dv_laws.proofs.Stays.{arrange_stays, stop_stays, submit_stays}
use Rattle.dv_laws.proofs.Steps.{telling_in, put_cases, put_deferred_cases, append_cases, pause_cases, make_cases}
use Rattle.dv_laws.proofs.Steps.{aside_cases, arrange_cases, submit_cases, cancel_cases, unpause_cases, fire_cases}
use Rattle.dv_laws.proofs.Steps.{step_cases, unless, unless_and, put_into_cases, get_from_cases}
use Rattle.dv_laws.proofs.Steps.{ask_cases, release_cases}

-- 1. What is made stays so.

abbrev one_of : Kind → ℕ
one_of r = 1

-- as a count: d is made
abbrev pub is_there : ℕ → Records → ℕ
is_there d rs = at one_of d rs

pub not_there : (d : ℕ) (rs : Records) → slice_get rs d ≡ None → is_there d rs ≡ 1 → ⊥
not_there d rs g h = absurd (omega (arith, h, ap (counted_of one_of) g))

there_push : (d : ℕ) (x : Kind) (rs : Records) → is_there d rs ≡ 1 → is_there d (rs ++ x ∷ []) ≡ 1
there_push d x [] h = absurd cc
there_push zero x (r ∷ rs) h = h
there_push (suc d) x (r ∷ rs) h = there_push d x rs h

there_last : (x : Kind) (rs : Records) → is_there (length rs) (rs ++ x ∷ []) ≡ 1
there_last x [] = refl
there_last x (r ∷ rs) = there_last x rs

record Stands (s t : Both) : Type 0 where
  each : (d : ℕ) → is_there d s.0 ≡ 1 → is_there d t.0 ≡ 1

stands : Kept Stands
stands = record {
  stays = λ s. record { each = λ d h. h };
  joins = λ s t u p q. record { each = λ d h. q.each d (p.each d h) };
  drops = λ d r pair rest s h e. record { each = λ n i. set_at one_of n d r _ s.0 h refl ∙ i };
  news = λ name canceller s x. record { each = λ n i. there_push n (new_record name canceller) s.0 i };
  asides = λ e s a x. record { each = λ n i. i };
  refuses = λ d r s x h f. record { each = λ n i. i };
  swallows = λ d r s x h f. record { each = λ n i. set_at one_of n d r _ s.0 h refl ∙ i };
  cancels = λ d s x. record { each = λ n i. i };
  sets_swallows = λ d r s x h f. record {
    each = λ n i. changing_at one_of n d (with_swallows true) _ (λ y. refl) ∙ set_at one_of n d r _ s.0 h refl ∙ i;
  };
  fires = λ d value r s x h f. record { each = λ n i. set_at one_of n d r _ s.0 h refl ∙ i };
  adds = λ d pair r s x h. record { each = λ n i. set_at one_of n d r _ s.0 h refl ∙ i };
  runs = λ d pair r rest s x h e. record { each = λ n i. set_at one_of n d r _ s.0 h refl ∙ i };
  hands = λ d c r rest s x h e. record {
    each = λ n i. changing_at one_of n c (with_handed r.value) _ (λ y. refl) ∙ set_at one_of n d r _ s.0 h refl ∙ i;
  };
  sets = λ d value r s x h. record { each = λ n i. set_at one_of n d r _ s.0 h refl ∙ i };
  waits = λ d e r given s x h g. record {
    each = λ n i.
        changing_at one_of n d (chaining.with_wait e) _ (λ y. refl)
        ∙ changing_at one_of n e (with_item (item.HandOver d)) s.0 (λ y. refl) ∙ i;
  };
  takes = λ d e r given s x h g p. record {
    each = λ n i.
        changing_at one_of n d (with_result given.value) _ (λ y. refl)
        ∙ changing_at one_of n e chaining.without_value s.0 (λ y. refl) ∙ i;
  };
  pauses = λ d r s x h. record { each = λ n i. set_at one_of n d r _ s.0 h refl ∙ i };
  unpauses = λ d r s x h p. record { each = λ n i. set_at one_of n d r _ s.0 h refl ∙ i };
}

-- a run that goes on hasn't stopped before
record On (w u : World) : Type 0 where
  going : u.stopped ≡ false → w.stopped ≡ false

on_by : (b : Bool) (w u : World) → w.stopped ≡ b → (w.stopped ≡ true → u ≡ w) → u.stopped ≡ false → w.stopped ≡ false
on_by true w u e h g = ap (λ (x : World). x.stopped) (sym (h e)) ∙ g
on_by false w u e h g = e

on : (w u : World) → (w.stopped ≡ true → u ≡ w) → On w u
on w u h = record { going = on_by w.stopped w u refl h }

lasting_on : Lasting On
lasting_on = record {
  stays = λ w. record { going = λ h. h };
  joins = λ u v w p q. record { going = λ h. p.going (q.going h) };
  by_stop = λ w. on w (with_stop w) (stop_stays w);
  by_step = λ d w. on w (step d w).1 (step_stays d w);
  by_put = λ d value w. on w (put d value w) (put_stays d value w);
  by_put_deferred = λ d e w. on w (put_deferred d e w) (put_deferred_stays d e w);
  by_append = λ d pair w. on w (append d pair w) (append_stays d pair w);
  by_make = λ name canceller w. on w (make name canceller w) (make_stays name canceller w);
  by_fire = λ d value w. on w (fire d value w).1 (fire_stays d value w);
  by_fire_then_swallow = λ d w. on w (fire_then_swallow d w) (fire_then_swallow_stays d w);
  by_cancel = λ d w. on w (cancel d w).1 (cancel_stays d w);
  by_pause = λ d w. on w (pause d w) (pause_stays d w);
  by_unpause = λ d w. on w (unpause d w).1 (unpause_stays d w);
  by_aside = λ e change w a. on w (aside e change w) (aside_stays e change w);
  by_arrange = λ change w. on w (arrange change w) (arrange_stays change w);
  by_submit = λ d pool work w. on w (submit d pool work w) (submit_stays d pool work w);
}

-- so it is after steps of the world
pub record Grows (w u : World) : Type 0 where
  pub going : u.stopped ≡ false → w.stopped ≡ false
  pub stands : (d : ℕ) → is_there d w.records ≡ 1 → is_there d u.records ≡ 1

pub grows : (w u : World) → Comes w u → Grows w u
grows w u c = record {
  going = (c.keeps On lasting_on).going;
  stands = (c.keeps (λ v x. Stands (state_of v) (state_of x)) (every_step Stands stands)).each;
}

-- 2. Each name is bound to a Deferred that is made.

pub record Bound (w : World) : Type 0 where
  pub each : w.stopped ≡ false → (name : List ℕ) (d : ℕ) → number_of name w.objects.names ≡ Some d
      → is_there d w.records ≡ 1

pub none_bound : (w : World) → w.objects.names ≡ [] → Bound w
none_bound w e = record { each = λ s name d q. absurd (unbound_by (ap (λ l. number_of name l) (sym e) ∙ q)) }
  where
    unbound_by : {d : ℕ} → None ≡ Some d → ⊥
    unbound_by q = absurd cc

bound_by : (w u : World) → Grows w u → u.objects.names ≡ w.objects.names → Bound w → Bound u
bound_by w u g e b = record {
  each = λ s name d q. g.stands d (b.each (g.going s) name d (ap (λ l. number_of name l) (sym e) ∙ q));
}

record BoundAfter (w u : World) : Type 0 where
  goes_on : Bound w → Bound u

bound_stop : (w : World) → BoundAfter w (with_stop w)
bound_stop w = record { goes_on = λ b. record { each = λ s name d q. absurd cc } }

-- what a name is bound to once another is bound
set_named : (b : Bool) (P : ℕ → Type 0) (d e x : ℕ) (o : Option ℕ) → P d → (cond b (Some x) o ≡ Some e → P e)
    → cond b (Some d) o ≡ Some e → P e
set_named true P d e x o h k q = let same : d ≡ e = cc in subst P same h
set_named false P d e x o h k q = k q

later_named : (b : Bool) (P : ℕ → Type 0) (e x : ℕ) (o p : Option ℕ) → ((o ≡ Some e → P e) → p ≡ Some e → P e)
    → (cond b (Some x) o ≡ Some e → P e) → cond b (Some x) p ≡ Some e → P e
later_named true P e x o p h k q = k q
later_named false P e x o p h k q = h k q

either_named : (b : Bool) (P : ℕ → Type 0) (e : ℕ) (n : List ℕ) (l m : Names ℕ) → (number_of n l ≡ Some e → P e)
    → (number_of n m ≡ Some e → P e) → number_of n (cond b l m) ≡ Some e → P e
either_named true P e n l m h k q = h q
either_named false P e n l m h k q = k q

named_by : (P : ℕ → Type 0) (n name : List ℕ) (d e : ℕ) (names : Names ℕ) → P d → (number_of n names ≡ Some e → P e)
    → number_of n (with_name name d names) ≡ Some e → P e
named_by P n name d e [] h k q = set_named (bytes_eq n name) P d e d None h (λ r. set_one (bytes_eq n name) r) q
  where
    set_one : (b : Bool) → cond b (Some d) None ≡ Some e → P e
    set_one true r = let same : d ≡ e = cc in subst P same h
    set_one false r = absurd cc
named_by P n name d e (bound ∷ names) h k q =
    either_named (bytes_eq name bound.0) P e n ((bound.0, d) ∷ names) (bound ∷ with_name name d names)
    (λ r. set_named (bytes_eq n bound.0) P d e bound.1 (number_of n names) h k r)
    (λ r. later_named (bytes_eq n bound.0) P e bound.1 (number_of n names) (number_of n (with_name name d names))
    (λ i j. named_by P n name d e names h i j) k r) q

made_names : (name : Option (List ℕ)) (canceller : Option Canceller) (w : World) → Bound w
    → Bound (record (telling_in (entry.New (length w.records) name) (w.records ++ new_record name canceller ∷ []) w) {
      objects = naming_where name (length w.records) w.objects;
    })
made_names None canceller w b = record {
  each = λ s n d q. there_push d (new_record None canceller) w.records (b.each s n d q);
}
made_names (Some name) canceller w b = record {
  each = λ s n d q.
      let x = new_record (Some name) canceller in
      named_by (λ e. is_there e (w.records ++ x ∷ []) ≡ 1) n name (length w.records) d w.objects.names
      (there_last x w.records) (λ r. there_push d x w.records (b.each s n d r)) q;
}

-- names stay in all other steps
abbrev Same : World → World → Type 0
Same w u = u.objects.names ≡ w.objects.names

quiet_bound : Quiet BoundAfter
quiet_bound = record {
  stays = λ w. record { goes_on = λ b. b };
  joins = λ u v w p q. record { goes_on = λ b. q.goes_on (p.goes_on b) };
  by_stop = bound_stop;
  by_make = λ name canceller w. make_cases w (BoundAfter w) (record { goes_on = λ b. b }) (bound_stop w) name canceller
      (λ x. record { goes_on = made_names name canceller w });
  by_cancel = λ d w m. record {
    goes_on = bound_by w (cancel d w).1 (grows w _ (record { keeps = λ R l. l.by_cancel d w }))
        (cancel_cases w (Same w) refl refl d (λ x. refl));
  };
  by_pause = λ d w. record {
    goes_on = bound_by w (pause d w) (grows w _ (record { keeps = λ R l. l.by_pause d w }))
        (pause_cases w (Same w) refl refl d (λ r x g. refl));
  };
  by_aside = λ e change w a q c l t n. record {
    goes_on = bound_by w (aside e change w) (grows w _ (come.by_aside e change w a))
        (aside_cases w (Same w) refl refl e change (λ x. n));
  };
  by_arrange = λ change w q s l t n. record {
    goes_on = bound_by w (arrange change w) (grows w _ (record { keeps = λ R k. k.by_arrange change w }))
        (arrange_cases w (Same w) refl refl change n);
  };
  by_submit = λ d pool work w. record {
    goes_on = bound_by w (submit d pool work w) (grows w _ (record { keeps = λ R l. l.by_submit d pool work w }))
        (submit_cases w (Same w) refl refl d pool work (λ x. refl));
  };
}

swallows_names : (d : ℕ) (w : World) → Same w (fire_then_swallow d w)
unfolding fire_then_swallow
swallows_names d w =
    unless w (Same w) refl refl w.stopped _
    (fire_cases w (λ answer s. Same w (fired_then_swallows d answer s w)) refl d cancelled _ refl (λ g. refl)
    (λ r x g q. refl)
    (λ r x g p q. refl) (λ r x g p. refl))

fire_names : (d : ℕ) (value : Value) (w : World) → Same w (fire d value w).1
unfolding fire
fire_names d value w =
    unless_and w (Same w) refl refl w.stopped follow.Nothing _
    (fire_cases w (λ answer s. Same w (fired answer s w).1) refl d value _ refl (λ g. refl) (λ r x g q. refl)
    (λ r x g p q. refl) (λ r x g p. refl))

queue_names : (k : ℕ) (change : Queue → Queue) (o : Option Queue) (objects : Objects)
    → (queue_changed k change o objects).names ≡ objects.names
queue_names k change None objects = refl
queue_names k change (Some q) objects = refl

withdraw_names : (k d : ℕ) (w : World) → Same w (withdraw k d w)
withdraw_names k d w =
    arrange_cases w (Same w) refl refl (λ objects. queue_changed k (withdrawn d) (slice_get objects.queues k) objects)
    (queue_names k (withdrawn d) (slice_get w.objects.queues k) w.objects)

lock_names : (l : ℕ) (change : Semaphore → Semaphore) (o : Option Semaphore) (objects : Objects)
    → (lock_changed l change o objects).names ≡ objects.names
lock_names l change None objects = refl
lock_names l change (Some s) objects = refl

forget_names : (l d : ℕ) (w : World) → Same w (world.forget l d w)
forget_names l d w =
    arrange_cases w (Same w) refl refl
    (λ objects. lock_changed l (forgotten d) (slice_get objects.semaphores l) objects)
    (lock_names l (forgotten d) (slice_get w.objects.semaphores l) w.objects)

-- a step binds a name to a Deferred that is made, unless the run has stopped
abbrev pub Made : ℕ → World → Type 0
Made d w = w.stopped ≡ false → is_there d w.records ≡ 1

abbrev pub BindsMade : steps.Step → World → Type 0
BindsMade (steps.Name d name) w = Made d w
BindsMade step w = Unit {0}

name_bound : (d : ℕ) (name : List ℕ) (w : World) → Made d w → Bound w → Bound (stepped (steps.Name d name) w)
name_bound d name w m b =
    (aside_cases w (BoundAfter w) (record { goes_on = λ k. k }) (bound_stop w) (entry.Name d (Some name))
    (naming name d)
    (λ x. record {
      goes_on = λ k. record {
        each = λ s n e q.
            named_by (λ c. is_there c w.records ≡ 1) n name d e w.objects.names (m s) (λ r. k.each s n e r) q;
      };
    })).goes_on b

step_bound : (step : steps.Step) (w : World) → BindsMade step w → Bound w → Bound (stepped step w)
step_bound (steps.Name d name) w m b = name_bound d name w m b
step_bound (steps.Append d pair) w m b =
    bound_by w (append d pair w) (grows w _ (step_comes (steps.Append d pair) w))
    (append_cases w (Same w) refl refl d pair (λ r x g. refl)) b
step_bound (steps.FireThenSwallow d) w m b =
    bound_by w (fire_then_swallow d w) (grows w _ (step_comes (steps.FireThenSwallow d) w)) (swallows_names d w) b
step_bound (steps.Withdraw k d) w m b =
    bound_by w (withdraw k d w) (grows w _ (step_comes (steps.Withdraw k d) w)) (withdraw_names k d w) b
step_bound (steps.Ask l d) w m b =
    bound_by w (world.ask l d w) (grows w _ (step_comes (steps.Ask l d) w))
    (ask_cases w (Same w) refl refl l d (λ s x g. refl)) b
step_bound (steps.Release l) w m b =
    bound_by w (world.release l w) (grows w _ (step_comes (steps.Release l) w))
    (release_cases w (Same w) refl refl l (λ s x g u. refl)) b
step_bound (steps.Forget l d) w m b =
    bound_by w (world.forget l d w) (grows w _ (step_comes (steps.Forget l d) w)) (forget_names l d w) b
step_bound (steps.Advance ticks) w m b =
    bound_by w (world.advance ticks w) (grows w _ (step_comes (steps.Advance ticks) w))
    (aside_cases w (Same w) refl refl (entry.Advance _) (with_time _) (λ x. refl)) b
step_bound (steps.Put d v) w m b =
    bound_by w (put d v w) (grows w _ (step_comes (steps.Put d v) w))
    (put_cases w (Same w) refl refl d v (λ r x g. refl)) b
step_bound (steps.PutDeferred d e) w m b =
    bound_by w (put_deferred d e w) (grows w _ (step_comes (steps.PutDeferred d e) w))
    (put_deferred_cases w (Same w) refl refl d e (λ r given x g i p. refl) (λ r given x g i p. refl)) b
step_bound step w m b = ((step_quiet step w tt).keeps BoundAfter quiet_bound).goes_on b

question_bound : (question : Question) (w : World) → Bound w → Bound (steps.asked question w).1
question_bound (steps.Cancel d) w b =
    bound_by w (cancel d w).1 (grows w _ (question_comes (steps.Cancel d) w))
    (cancel_cases w (Same w) refl refl d (λ x. refl)) b
question_bound (steps.PutInto k v) w b =
    bound_by w (put_into k v w).1 (grows w _ (question_comes (steps.PutInto k v) w))
    (put_into_cases w (λ o u. Same w u) refl refl k v (λ q s x g p. refl)) b
question_bound (steps.GetFrom k d) w b =
    bound_by w (get_from k d w).1 (grows w _ (question_comes (steps.GetFrom k d) w))
    (get_from_cases w (λ o u. Same w u) refl refl k d (λ q s x g. refl)) b
question_bound (steps.Moves d) w b =
    bound_by w (step d w).1 (grows w _ (question_comes (steps.Moves d) w))
    (step_cases w (λ move u. Same w u) refl refl d (λ r pair rest g e a. refl) (λ r pair rest x g e a. refl)
    (λ r c rest x g e a. refl)) b
question_bound question w b = ((question_quiet question w tt).keeps BoundAfter quiet_bound).goes_on b

-- 3. What a rule returns and calls for.

abbrev pub MadeResult : Performed → World → Type 0
MadeResult Done w = Unit {0}
MadeResult (Gave v) w = Unit {0}
MadeResult (Raised failure) w = Unit {0}
MadeResult (Awaits d) w = Made d w

-- the Deferred for which `@` stands
abbrev pub MadeItself : Option ℕ → World → Type 0
MadeItself None w = Unit {0}
MadeItself (Some d) w = Made d w

abbrev pub MadeFrame : Frame → World → Type 0
MadeFrame (frame.Settle d) w = Unit {0}
MadeFrame (frame.Place d) w = Unit {0}
MadeFrame (frame.Rest rest) w = MadeItself rest.itself w
MadeFrame (frame.Canceller d) w = Unit {0}
MadeFrame (frame.Maybe purpose) w = Unit {0}
MadeFrame (frame.Add d pair) w = Unit {0}
MadeFrame (frame.Cancel d) w = Unit {0}
MadeFrame (frame.Give given) w = MadeResult given w
MadeFrame (frame.Notify d t) w = Unit {0}
MadeFrame (frame.Stepped t) w = Unit {0}
MadeFrame (frame.Halt t) w = Unit {0}
MadeFrame (frame.Tick k units) w = Unit {0}
MadeFrame frame.Tell w = Unit {0}
MadeFrame frame.Due w = Unit {0}
MadeFrame (frame.Inline inlining) w = Unit {0}

abbrev pub AllMade : List Frame → World → Type 0
AllMade [] w = Unit {0}
AllMade (f ∷ fs) w = MadeFrame f w × AllMade fs w

-- who is answered to be reached by a cancel, and of whom a side begins to run, is made
abbrev pub MadeReached : Reached → World → Type 0
MadeReached (reached.Run d body) w = Made d w
MadeReached r w = Unit {0}

abbrev pub MadeMove : ℕ → Move Pair → World → Type 0
MadeMove d (Run pair) w = Made d w
MadeMove d move w = Unit {0}

abbrev pub Answers : (question : Question) → Reply question → World → Type 0
Answers (steps.Cancel d) r w = MadeReached r w
Answers (steps.PutInto k v) r w = Unit {0}
Answers (steps.GetFrom k d) r w = Unit {0}
Answers (steps.ChildFired l i v) r w = Unit {0}
Answers (steps.CancelCall number) p w = MadeResult p w
Answers (steps.ResetCall number from delay) p w = MadeResult p w
Answers (steps.BeginBody declared) r w = Unit {0}
Answers (steps.TakeStep k) r w = Unit {0}
Answers (steps.EndTask t end) r w = Unit {0}
Answers (steps.ResumeInline i v) r w = Unit {0}
Answers (steps.EndAwait i e p) r w = Unit {0}
Answers steps.TakeDue r w = Unit {0}
Answers (steps.Moves d) move w = MadeMove d move w

-- a rule, begun in a world, returns, binds and calls for such Deferreds alone
abbrev pub Sound : World → Rule → Type 0
Sound w (Ends p) = MadeResult p w
Sound w (By rule) = Sound w (rule w)
Sound w (If b one other) = Sound w one × Sound w other
Sound w (Finds {A} x none some) = Sound w none × ((a : A) → x ≡ Some a → Sound w (some a))
Sound w (Then step rule) = BindsMade step w × Sound (stepped step w) rule
Sound w (Asks question rule) =
    (a : Reply question) → Answers question a (steps.asked question w).1 → Sound (steps.asked question w).1 (rule a)
Sound w (Fires d v) = Unit {0}
Sound w (Unpauses d) = Unit {0}
Sound w (Over rule frames) = Sound w rule × AllMade frames (run_rule rule w).2

-- so it stays
pub made_on : (d : ℕ) (w u : World) → Grows w u → Made d w → Made d u
made_on d w u g m s = g.stands d (m (g.going s))

result_on : (p : Performed) (w u : World) → Grows w u → MadeResult p w → MadeResult p u
result_on Done w u g m = tt
result_on (Gave v) w u g m = tt
result_on (Raised failure) w u g m = tt
result_on (Awaits d) w u g m = made_on d w u g m

pub itself_on : (itself : Option ℕ) (w u : World) → Grows w u → MadeItself itself w → MadeItself itself u
itself_on None w u g m = tt
itself_on (Some d) w u g m = made_on d w u g m

frame_on : (f : Frame) (w u : World) → Grows w u → MadeFrame f w → MadeFrame f u
frame_on (frame.Settle d) w u g m = tt
frame_on (frame.Place d) w u g m = tt
frame_on (frame.Rest rest) w u g m = itself_on rest.itself w u g m
frame_on (frame.Canceller d) w u g m = tt
frame_on (frame.Maybe purpose) w u g m = tt
frame_on (frame.Add d pair) w u g m = tt
frame_on (frame.Cancel d) w u g m = tt
frame_on (frame.Give given) w u g m = result_on given w u g m
frame_on (frame.Notify d t) w u g m = tt
frame_on (frame.Stepped t) w u g m = tt
frame_on (frame.Halt t) w u g m = tt
frame_on (frame.Tick k units) w u g m = tt
frame_on frame.Tell w u g m = tt
frame_on frame.Due w u g m = tt
frame_on (frame.Inline inlining) w u g m = tt

pub all_on : (fs : List Frame) (w u : World) → Grows w u → AllMade fs w → AllMade fs u
all_on [] w u g m = tt
all_on (f ∷ fs) w u g m = (frame_on f w u g m.0, all_on fs w u g m.1)

pub all_append : (fs gs : List Frame) (w : World) → AllMade fs w → AllMade gs w → AllMade (fs ++ gs) w
all_append [] gs w m n = n
all_append (f ∷ fs) gs w m n = (m.0, all_append fs gs w m.1 n)

-- 4. What questions answer.

unfired_reached : (d : ℕ) (c : Option Canceller) (w : World) → Made d w → MadeReached (reached_unfired d c) w
unfired_reached d None w m = tt
unfired_reached d (Some (canceller.Body body)) w m = m
unfired_reached d (Some (canceller.Token l)) w m = tt
unfired_reached d (Some (canceller.Item k)) w m = tt
unfired_reached d (Some (canceller.Children children)) w m = tt
unfired_reached d (Some (canceller.Inline i)) w m = tt

fired_reached : (b : Bool) (d : ℕ) (c : Option Canceller) (w : World) → Made d w
    → MadeReached (cond b reached.Nothing (reached_unfired d c)) w
fired_reached true d c w m = tt
fired_reached false d c w m = unfired_reached d c w m

record_made : (d : ℕ) (o : Option Kind) (w : World) → slice_get w.records d ≡ o → MadeReached (record_reached d o) w
record_made d None w g = tt
record_made d (Some r) w g = fired_reached r.fired d r.canceller w (λ s. ap (counted_of one_of) g)

end_made : (o : Option ℕ) (w : World) → MadeReached (end_reached o w.records) w
end_made None w = tt
end_made (Some d) w = record_made d (slice_get w.records d) w refl

same_reached : (r : Reached) (w u : World) → u.records ≡ w.records → u.stopped ≡ w.stopped → MadeReached r w
    → MadeReached r u
same_reached (reached.Run d body) w u e h m = λ s. ap (is_there d) e ∙ m (sym h ∙ s)
same_reached reached.Nothing w u e h m = tt
same_reached (reached.Fire d) w u e h m = tt
same_reached (reached.ForToken d l) w u e h m = tt
same_reached (reached.ForItem d k) w u e h m = tt
same_reached (reached.Children children) w u e h m = tt
same_reached (reached.Inline i) w u e h m = tt

told_made : (b : Bool) (d : ℕ) (w : World) → (let a = cond {A = Reached × World} b (
  reached_from d w.records,
  record w { journal = with_entry w.journal (entry.Cancel d) },
) (reached.Nothing, record w { stopped = true }) in MadeReached a.0 a.1)
told_made true d w =
    same_reached (reached_from d w.records) w (record w { journal = with_entry w.journal (entry.Cancel d) }) refl refl
    (end_made (end_of_chain d w.records) w)
told_made false d w = tt

unless_made : (b : Bool) (w : World) (p : Reached × World) → MadeReached p.0 p.1
    → (let a = cond {A = Reached × World} b (reached.Nothing, w) p in MadeReached a.0 a.1)
unless_made true w p m = tt
unless_made false w p m = m

cancel_made : (d : ℕ) (w : World) → MadeReached (cancel d w).0 (cancel d w).1
unfolding cancel
cancel_made d w = unless_made w.stopped w _ (told_made (fits w.journal (entry.Cancel d)) d w)

-- what is returned is no Deferred
abbrev IsPlain : Performed → Type 0
IsPlain (Awaits d) = ⊥
IsPlain p = Unit {0}

plain_made : (p : Performed) (w : World) → IsPlain p → MadeResult p w
plain_made Done w m = tt
plain_made (Gave v) w m = tt
plain_made (Raised failure) w m = tt
plain_made (Awaits d) w m = absurd m

plain_unless : (b : Bool) (t u : Performed × World) → IsPlain t.0 → IsPlain u.0 → IsPlain (if b then t else u).0
plain_unless true t u m n = m
plain_unless false t u m n = n

state_off : (number : ℕ) (state : CallState) (w : World) → IsPlain (state_cancelled number state w).0
state_off number (call_state.Waiting due) w = tt
state_off number call_state.Called w = tt
state_off number call_state.Cancelled w = tt
state_off number call_state.Dropped w = tt

call_off : (number : ℕ) (o : Option Call) (w : World) → IsPlain (call_cancelled number o w).0
call_off number None w = tt
call_off number (Some call) w = state_off number call.state w

off_plain : (number : ℕ) (w : World) → IsPlain (cancel_call number w).0
unfolding cancel_call
off_plain number w =
    plain_unless w.stopped _ (call_cancelled number (slice_get w.objects.clock.calls number) w) tt
    (call_off number (slice_get w.objects.clock.calls number) w)

state_again : (number : ℕ) (from : DelayFrom) (delay at : ℕ) (state : CallState) (w : World)
    → IsPlain (state_reset number from delay at state w).0
state_again number from delay at (call_state.Waiting due) w = tt
state_again number from delay at call_state.Called w = tt
state_again number from delay at call_state.Cancelled w = tt
state_again number from delay at call_state.Dropped w = tt

call_again : (number : ℕ) (from : DelayFrom) (delay : ℕ) (o : Option Call) (w : World)
    → IsPlain (call_reset number from delay o w).0
call_again number from delay None w = tt
call_again number from delay (Some call) w = state_again number from delay call.due call.state w

anew_plain : (number : ℕ) (from : DelayFrom) (delay : ℕ) (w : World) → IsPlain (reset_call number from delay w).0
unfolding reset_call
anew_plain number from delay w =
    plain_unless w.stopped _ (call_reset number from delay (slice_get w.objects.clock.calls number) w) tt
    (call_again number from delay (slice_get w.objects.clock.calls number) w)

abbrev MadeBy : ℕ → World → Move Pair → World → Type 0
MadeBy d w move u = MadeMove d move u

move_made : (d : ℕ) (w : World) → MadeMove d (step d w).0 (step d w).1
move_made d w =
    step_cases w (MadeBy d w) tt tt d (λ r pair rest g e a. tt)
    (λ r pair rest x g e a. λ s. set_at one_of d d r (record r { items = rest; running = true }) w.records g refl
    ∙ ap (counted_of one_of) g)
    (λ r c rest x g e a. tt)

answers_made : (question : Question) (w : World) → (let a = steps.asked question w in Answers question a.0 a.1)
answers_made (steps.Cancel d) w = cancel_made d w
answers_made (steps.PutInto k v) w = tt
answers_made (steps.GetFrom k d) w = tt
answers_made (steps.ChildFired l i v) w = tt
answers_made (steps.CancelCall number) w =
    plain_made (cancel_call number w).0 (cancel_call number w).1 (off_plain number w)
answers_made (steps.ResetCall number from delay) w =
    plain_made (reset_call number from delay w).0 (reset_call number from delay w).1 (anew_plain number from delay w)
answers_made (steps.BeginBody declared) w = tt
answers_made (steps.TakeStep k) w = tt
answers_made (steps.EndTask t end) w = tt
answers_made (steps.ResumeInline i v) w = tt
answers_made (steps.EndAwait i e p) w = tt
answers_made steps.TakeDue w = tt
answers_made (steps.Moves d) w = move_made d w

-- 5. The law: what a sound rule returns and calls for is made, and names stay bound to what is.

pub record Holds (t : Turned) : Type 0 where
  pub names : Bound t.2
  pub result : MadeResult t.1 t.2
  pub frames : AllMade t.0 t.2

next_holds : (d : ℕ) (o : Follow) (u : World) → Bound u → Holds (settle_next d o u)
next_holds d follow.Settle u b = record { names = b; result = tt; frames = (tt, tt) }
next_holds d follow.Nothing u b = record { names = b; result = tt; frames = tt }
next_holds d (follow.Raise failure) u b = record { names = b; result = tt; frames = tt }

either_holds : (b : Bool) (t u : Turned) → Holds t → Holds u → Holds (if b then t else u)
either_holds true t u h k = h
either_holds false t u h k = k

found_holds : {A : Type 0} (o : Option A) (t : Turned) (f : A → Turned) → Holds t
    → ((a : A) → o ≡ Some a → Holds (f a)) → Holds (found o t f)
found_holds None t f h k = h
found_holds (Some a) t f h k = k a refl

pub rule_holds : (rule : Rule) (w : World) → Bound w → Sound w rule → Holds (run_rule rule w)
rule_holds (Ends p) w b m = record { names = b; result = m; frames = tt }
rule_holds (By rule) w b m = rule_holds (rule w) w b m
rule_holds (If c one other) w b m =
    either_holds c (run_rule one w) (run_rule other w) (rule_holds one w b m.0) (rule_holds other w b m.1)
rule_holds (Finds x none some) w b m =
    found_holds x (run_rule none w) (λ a. run_rule (some a) w) (rule_holds none w b m.0)
    (λ a q. rule_holds (some a) w b (m.1 a q))
rule_holds (Then step rule) w b m = rule_holds rule (stepped step w) (step_bound step w m.0 b) m.1
rule_holds (Asks question rule) w b m =
    let a = steps.asked question w in
    rule_holds (rule a.0) a.1 (question_bound question w b) (m a.0 (answers_made question w))
rule_holds (Fires d v) w b m =
    let u = (fire d v w).1 in
    next_holds d (fire d v w).0 u (bound_by w u (grows w u (record { keeps = λ R l. l.by_fire d v w }))
    (fire_names d v w) b)
rule_holds (Unpauses d) w b m =
    let u = (unpause d w).1 in
    next_holds d (unpause d w).0 u (bound_by w u (grows w u (record { keeps = λ R l. l.by_unpause d w }))
    (unpause_cases w (Same w) refl refl d (λ r x g p. refl)) b)
rule_holds (Over rule frames) w b m =
    let h = rule_holds rule w b m.0 in
    record {
      names = h.names;
      result = h.result;
      frames = all_append (run_rule rule w).0 frames (run_rule rule w).2 h.frames m.1;
    }

-- a Deferred that is made is there
make_named : (b : Bool) (name : Option (List ℕ)) (canceller : Option Canceller) (w : World)
    → (let x = new_record name canceller in
    let t = cond {A = Result ℕ Stop × Both} b (
      Ok (length w.records),
      telling_of (entry.New (length w.records) name) (w.records ++ x ∷ []) (state_of w),
    ) (Err stop.Limit, state_of w) in Made (length w.records) (world.named name t.0 t.1 w))
make_named true name canceller w s = there_last (new_record name canceller) w.records
make_named false name canceller w s = absurd cc

make_unless : (b : Bool) (d : ℕ) (w u : World) → w.stopped ≡ b → Made d u → Made d (cond b w u)
make_unless true d w u e m s = let wrong : true ≡ false = sym e ∙ s in absurd cc
make_unless false d w u e m s = m s

pub made_new : (name : Option (List ℕ)) (canceller : Option Canceller) (w : World)
    → Made (length w.records) (make name canceller w)
unfolding make
made_new name canceller w =
    make_unless w.stopped (length w.records) w _ refl
    (make_named (fits w.journal (entry.New (length w.records) name)) name canceller w)
