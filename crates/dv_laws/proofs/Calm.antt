-- Each step but those by which a Deferred is settled and time goes on uses no item: what Quiet and Calm keep, it
-- keeps.
use Rattle.std.proofs.Common.{ℕ, ◌+◌, ◌≡◌, Bool, true, false, if◌then◌else◌, List, [], ◌∷◌, ◌++◌, Option, None, Some}
use Rattle.std.proofs.Common.{length, nat_eq, slice_get, refl, arith}
use Rattle.dv_value.specs.declared.value.Value.{Value, Text}
use Rattle.dv_journal.specs.declared.entry.Entry.{Entry}
use Rattle.dv_journal.specs.declared.entry.Entry.TheVariants as entry
use Rattle.dv_prims.specs.DeferredList.{Gather, child_fired}
use Rattle.dv_prims.specs.Tokens.{Semaphore, has_free, is_unheld, first_waiting}
use Rattle.dv_clock.specs.Clock.{Upcoming, next_call, new_due}
use Rattle.dv_clock.specs.Due.{entry_when_due}
use Rattle.dv_clock.specs.declared.call.Call.{Call}
use Rattle.dv_clock.specs.declared.call.CallState.{CallState}
use Rattle.dv_clock.specs.declared.call.CallState.TheVariants as call_state
use Rattle.dv_clock.specs.declared.delay_from.DelayFrom.{DelayFrom}
use Rattle.dv_clock.specs.declared.delay_from.DelayFrom.TheVariants as delay_from
use Rattle.dv_clock.specs.declared.due.Due.{Due}
use Rattle.dv_clock.specs.declared.due.Due.TheVariants as what
use Rattle.dv_script.specs.declared.body.Body as body_of
use Rattle.dv_journal.specs.Told.{change_of, Aside}
use Rattle.dv_clock.specs.Due.{scheduling}
use Rattle.dv_world.specs.World.{World, step, append, fire, cancel, pause, unpause, make, aside, arrange}
use Rattle.dv_world.specs.World.{child_fired_found, child_fired_in, take_due_found, waiting_cancelled, state_cancelled}
use Rattle.dv_world.specs.World.{call_cancelled, cancel_call, waiting_reset, state_reset, call_reset, reset_call}
use Rattle.dv_world.specs.World.{start_timer, turn_scheduled, loop_stopped, begin_turn, end_loop, task_told, task_ended}
use Rattle.dv_world.specs.World.{tick_dropped, tick_kept, tick_wanted, cooperator_of, keep_tick, step_taken, turn_taken}
use Rattle.dv_world.specs.World.{resume_inline, end_await, submit, deliver_later}
use Rattle.dv_script.specs.declared.work.Work.{Work}
use Rattle.dv_objects.specs.Cooperator.{Cooperator, Cooperators, changed, halted, with_units, with_step, result_of}
use Rattle.dv_objects.specs.Cooperator.{unended, wants_tick, wants_tick_at_once, with_next_turn, idle_tick, tick_of}
use Rattle.dv_objects.specs.Cooperator.{turn_in}
use Rattle.dv_clock.specs.Turns.{Turns, gone_on, gone_on_by, turn_of}
use Rattle.dv_objects.specs.Objects.{Objects, with_list, with_ended_call, with_moved_call, cooperating}
use Rattle.dv_objects.specs.Objects.{inlining}
use Rattle.dv_objects.specs.Inlines.{resume_at, end_adding}
use Rattle.dv_inline.specs.Position.{Position}
use Rattle.dv_clock.proofs.LoopLemmas.{next_is_first}
use Rattle.std.specs.Prelude.{max, is_some}
use Rattle.std.proofs.Common.{◌≤◌, zero, suc, sym, ap, subst, ◌∙◌, cond, slice_set}
use Rattle.dv_laws.proofs.ReadBackLemmas.{get_set}
use Rattle.dv_objects.specs.Looping.{new_loop, next_due}
use Rattle.dv_objects.specs.declared.looping_call.LoopingCall.{LoopingCall}
use Rattle.dv_objects.specs.Pair.{Pair}
use Rattle.dv_objects.specs.declared.task.Task.{Task}
use Rattle.dv_objects.specs.declared.task.TaskEnd.{TaskEnd}
use Rattle.dv_objects.specs.declared.reached.Reached.{Reached}
use Rattle.dv_objects.specs.declared.reached.Reached.TheVariants as reached
use Rattle.dv_laws.specs.Loops.{Unlooped, looping_of}
use Rattle.dv_laws.specs.Stored.{Unqueued, queueing_of}
use Rattle.dv_laws.specs.Tasks.{Untasked, tasking_of}
use Rattle.dv_laws.specs.Tokens.{Holding, Unheld, MakesTokens, AsksOf, ReleasesOf, holding_of}
use Rattle.dv_objects.specs.Objects.{naming}
use Rattle.dv_laws.proofs.Beside as beside
use Rattle.dv_laws.proofs.Beside.{all_turns, turns_stay, Tasks, Locks, Queues, Loops, Beside, Arranged, resting}
use Rattle.dv_laws.proofs.Beside.{arranging}
use Rattle.dv_laws.proofs.Clocks.{IsPlain, Clocks, Leaves, Adds, Runs, Cancels, Moves, Drops, Arranges, Stays, Loses}
use Rattle.std.specs.Prelude.{min}
use Rattle.dv_clock.specs.declared.limits.TheConstants.{MOST_DELAY}
use Rattle.dv_objects.specs.Objects.{with_new_call, with_timer, with_delivery, with_tick, without_tick}
use Rattle.dv_objects.specs.Looping.{with_turn}
use Rattle.dv_clock.specs.Clock.{Clock}
use Rattle.dv_objects.specs.Looping.{turn_begun, turn_dropped, with_turn_begun, with_stopped, with_ended}
use Rattle.dv_objects.specs.declared.canceller.Canceller.{Canceller}
use Rattle.dv_world.specs.World.{fire_then_swallow, call_later, schedule_tick, reached_from}
use Rattle.dv_journal.specs.Journal.{fits, with_entry}
use Rattle.dv_definition.specs.Steps as steps
use Rattle.dv_definition.specs.Steps.{stepped, Question, Reply}
use Rattle.dv_world.specs.World as world
use Rattle.dv_world.specs.World.{Records, with_stop}
use Rattle.dv_loop.proofs.Kept.{Kind}
use Rattle.dv_objects.specs.Refusals.{cancelled}
use Rattle.dv_objects.specs.declared.canceller.Canceller.TheVariants as canceller
use Rattle.dv_laws.specs.Stored.{Queueing, MakesQueue, PutsInto, GetsFrom}

pub record Regular (loops : List LoopingCall) : Type 0 where
  pub each : (l : ℕ) (x : LoopingCall) → slice_get loops l ≡ Some x → 1 ≤ x.interval

set_by : (b : Bool) (y : LoopingCall) (o : Option LoopingCall) (x : LoopingCall) → 1 ≤ y.interval
    → (o ≡ Some x → 1 ≤ x.interval) → cond b (Some y) o ≡ Some x → 1 ≤ x.interval
set_by true y o x h k q = let same : y ≡ x = cc in subst (λ z. 1 ≤ z.interval) same h
set_by false y o x h k q = k q

regular_set : (l : ℕ) (x y : LoopingCall) (loops : List LoopingCall) → slice_get loops l ≡ Some x
    → y.interval ≡ x.interval → Regular loops → Regular (slice_set loops l y)
regular_set l x y loops h p k = record {
  each = λ n z q. set_by (nat_eq l n) y (slice_get loops n) z (omega (arith, p, k.each l x h)) (k.each n z)
      (sym (get_set loops l n x y h) ∙ q);
}

pushed_by : (n : ℕ) (y x : LoopingCall) (loops : List LoopingCall) → 1 ≤ y.interval
    → ((l : ℕ) (z : LoopingCall) → slice_get loops l ≡ Some z → 1 ≤ z.interval) → slice_get (loops ++ y ∷ []) n ≡ Some x
    → 1 ≤ x.interval
pushed_by zero y x [] h k q = let same : y ≡ x = cc in subst (λ z. 1 ≤ z.interval) same h
pushed_by (suc n) y x [] h k q = absurd cc
pushed_by zero y x (c ∷ loops) h k q = k 0 x q
pushed_by (suc n) y x (c ∷ loops) h k q = pushed_by n y x loops h (λ l z r. k (suc l) z r) q

regular_push : (y : LoopingCall) (loops : List LoopingCall) → 1 ≤ y.interval → Regular loops → Regular (loops ++ y ∷ [])
regular_push y loops h k = record { each = λ n x q. pushed_by n y x loops h k.each q }

new_regular : (interval : ℕ) → 1 ≤ max 1 (min interval MOST_DELAY)
new_regular interval = omega arith

turn_later : (x : LoopingCall) (c : Clock) → 1 ≤ x.interval → c.time ≤ next_due x c
turn_later x c h =
    let next = next_is_first (min x.start c.time) x.interval c.time (omega arith) h in omega (arith, next.later)

-- nothing is put into a queue or asked of one
abbrev pub LeavesQueues : Queueing → Type 0
LeavesQueues Unqueued = Unit {0}
LeavesQueues (MakesQueue name size) = Unit {0}
LeavesQueues (PutsInto name) = ⊥
LeavesQueues (GetsFrom name) = ⊥

-- no token of a lock is asked for or released
abbrev pub LeavesTokens : Holding → Type 0
LeavesTokens Unheld = Unit {0}
LeavesTokens (MakesTokens lock tokens) = Unit {0}
LeavesTokens (AsksOf lock) = ⊥
LeavesTokens (ReleasesOf lock) = ⊥

abbrev pub LeavesLines : Entry → Type 0
LeavesLines e = LeavesQueues (queueing_of e) × LeavesTokens (holding_of e)

-- queues and locks stay
abbrev pub LinesStay : Objects → Objects → Type 0
LinesStay old new = (new.queues ≡ old.queues) × (new.semaphores ≡ old.semaphores)

-- a cancel reaches nobody that waits for a value of a queue, or for a token of a lock
abbrev pub ReachesNoWaiter : Reached → Type 0
ReachesNoWaiter (reached.ForItem d k) = ⊥
ReachesNoWaiter (reached.ForToken d l) = ⊥
ReachesNoWaiter r = Unit {0}

-- what is kept by the steps that fire, unpause and settle nothing, add no pair, and bind no name but that of a Deferred
-- that is made
pub record Quiet (R : World → World → Type 0) : Type 0 where
  pub stays : (w : World) → R w w
  pub joins : (u v w : World) → R u v → R v w → R u w
  pub by_stop : (w : World) → R w (with_stop w)
  pub by_make : (name : Option (List ℕ)) (canceller : Option Canceller) (w : World) → R w (make name canceller w)
  pub by_cancel : (d : ℕ) (w : World) → ReachesNoWaiter (cancel d w).0 → R w (cancel d w).1
  pub by_pause : (d : ℕ) (w : World) → R w (pause d w)
  pub by_aside : (e : Entry) (change : Objects → Objects) (w : World) → change_of e ≡ Aside
      → LeavesLines e
      → (Regular w.objects.loops → Clocks e w.objects.clock (change w.objects).clock)
      → (Regular w.objects.loops → Regular (change w.objects).loops) → Beside e w.objects (change w.objects)
      → (change w.objects).names ≡ w.objects.names → R w (aside e change w)
  pub by_arrange : (change : Objects → Objects) (w : World) → LinesStay w.objects (change w.objects)
      → Arranges w.objects.clock (change w.objects).clock
      → (Regular w.objects.loops → Regular (change w.objects).loops) → Arranged w.objects (change w.objects)
      → (change w.objects).names ≡ w.objects.names → R w (arrange change w)
  pub by_submit : (d : ℕ) (pool : Option (List ℕ)) (work : Work) (w : World) → R w (submit d pool work w)

pub record Quietly (w u : World) : Type 1 where
  pub keeps : (R : World → World → Type 0) → Quiet R → R w u

-- what was logged last is a cancel that reaches d, which has no canceller
pub record WasCancelled (d : ℕ) (w : World) : Type 0 where
  pub of : ℕ
  pub before : List Entry
  pub last : w.journal.entries ≡ before ++ entry.Cancel of ∷ []
  pub reaches : reached_from of w.records ≡ reached.Fire d

-- d waits for a value of a queue or for a token of a lock, or may: it is made, with a canceller that takes it out, and
-- no firing of it is to be swallowed
pub record IsMade (by : Canceller) (d : ℕ) (rs : Records) : Type 0 where
  pub made : Kind
  pub found : slice_get rs d ≡ Some made
  pub leaves : made.canceller ≡ Some by
  pub fresh : made.swallows ≡ false

-- a Deferred that got a value is fired with it
abbrev pub handed : Option (ℕ × Value) → World → World
handed None w = w
handed (Some who) w = (fire who.0 who.1 w).1

abbrev pub handed_to : ℕ → Option Value → World → World
handed_to d None w = w
handed_to d (Some value) w = (fire d value w).1

-- who is granted a token: d that asks for one, where one is free
abbrev pub asking : ℕ → Semaphore → Option ℕ
asking d s = if has_free s then Some d else None

-- a Deferred that is granted one is fired with the name of the lock
abbrev pub granted : Option ℕ → List ℕ → World → World
granted None name w = w
granted (Some d) name w = (fire d (Text name) w).1

-- and by the steps that bind a name, add a pair, fire and unpause, and those of a queue and of a lock, each with the
-- firing that follows
pub record Calm (R : World → World → Type 0) : Type 0 where
  pub quiet : Quiet R
  pub stops : (w : World) → R w (with_stop w)
  pub by_put : (k : ℕ) (value : Value) (w : World)
      → (let a = world.put_into k value w in R w (handed a.0 a.1))
  pub by_get : (k d : ℕ) (w : World) → (w.stopped ≡ false → IsMade (canceller.Item k) d w.records)
      → (let a = world.get_from k d w in R w (handed_to d a.0 a.1))
  pub by_withdraw : (of d k : ℕ) (w : World) → (cancel of w).0 ≡ reached.ForItem d k
      → R w (fire d cancelled (world.withdraw k d (cancel of w).1)).1
  pub by_ask : (l d : ℕ) (s : Semaphore) (w : World) → slice_get w.objects.semaphores l ≡ Some s
      → (w.stopped ≡ false → IsMade (canceller.Token l) d w.records)
      → R w (granted (asking d s) s.name (world.ask l d w))
  pub by_release : (l : ℕ) (s : Semaphore) (w : World) → slice_get w.objects.semaphores l ≡ Some s
      → is_unheld s ≡ false → R w (granted (first_waiting s) s.name (world.release l w))
  pub by_forget : (of d l : ℕ) (w : World) → (cancel of w).0 ≡ reached.ForToken d l
      → R w (fire d cancelled (world.forget l d (cancel of w).1)).1
  pub by_name : (d : ℕ) (name : List ℕ) (w : World) → R w (aside (entry.Name d (Some name)) (naming name d) w)
  pub by_append : (d : ℕ) (pair : Pair) (w : World) → R w (append d pair w)
  pub by_fire : (d : ℕ) (value : Value) (w : World) → R w (fire d value w).1
  pub by_fire_then_swallow : (d : ℕ) (w : World) → WasCancelled d w → R w (fire_then_swallow d w)
  pub by_unpause : (d : ℕ) (w : World) → R w (unpause d w).1

pub record Calmly (w u : World) : Type 1 where
  pub keeps : (R : World → World → Type 0) → Calm R → R w u

pub same : (w : World) → Quietly w w
same w = record { keeps = λ R l. l.stays w }

join : (u v w : World) → Quietly u v → Quietly v w → Quietly u w
join u v w a b = record { keeps = λ R l. l.joins u v w (a.keeps R l) (b.keeps R l) }

pub by_aside : (e : Entry) (change : Objects → Objects) (w : World) → change_of e ≡ Aside → LeavesLines e
    → (Regular w.objects.loops → Clocks e w.objects.clock (change w.objects).clock)
    → (Regular w.objects.loops → Regular (change w.objects).loops) → Beside e w.objects (change w.objects)
    → (change w.objects).names ≡ w.objects.names → Quietly w (aside e change w)
by_aside e change w a q c r t n = record { keeps = λ R l. l.by_aside e change w a q c r t n }

by_arrange : (change : Objects → Objects) (w : World) → LinesStay w.objects (change w.objects)
    → Arranges w.objects.clock (change w.objects).clock
    → (Regular w.objects.loops → Regular (change w.objects).loops) → Arranged w.objects (change w.objects)
    → (change w.objects).names ≡ w.objects.names → Quietly w (arrange change w)
by_arrange change w q s r t n = record { keeps = λ R l. l.by_arrange change w q s r t n }

by_make : (name : Option (List ℕ)) (canceller : Option Canceller) (w : World) → Quietly w (make name canceller w)
by_make name canceller w = record { keeps = λ R l. l.by_make name canceller w }

one_comes : (b : Bool) (w u v : World) → Quietly w u → Quietly w v → Quietly w (if b then u else v)
one_comes true w u v c d = c
one_comes false w u v c d = d

first_comes : {A : Type 0} (b : Bool) (t u : A × World) (w : World) → Quietly w t.1 → Quietly w u.1
    → Quietly w (if b then t else u).1
first_comes true t u w c d = c
first_comes false t u w c d = d

-- what is logged of a task alone, of a lock alone, of a queue alone, and of a loop alone
task_beside : (e : Entry) (old : Objects) (new : Cooperators) → Tasks e old.cooperators new → holding_of e ≡ Unheld
    → queueing_of e ≡ Unqueued → looping_of e ≡ Unlooped → Beside e old (record old { cooperators = new })
task_beside e old new t a b c = record {
  tasks = t;
  locks = beside.LocksRest _ a refl;
  queues = beside.QueuesRest _ b refl;
  loops = beside.LoopsRest _ c (beside.SameLoops _ refl);
}

pub lock_beside : (e : Entry) (old : Objects) (new : Objects) → Locks e old.semaphores new.semaphores
    → tasking_of e ≡ Untasked → queueing_of e ≡ Unqueued → looping_of e ≡ Unlooped → new.cooperators ≡ old.cooperators
    → new.queues ≡ old.queues → new.loops ≡ old.loops → Beside e old new
lock_beside e old new t a b c p q r = record {
  tasks = beside.TasksRest _ a (ap (λ (c : Cooperators). c.tasks) p) (ap (λ (c : Cooperators). all_turns c.all) p);
  locks = t;
  queues = beside.QueuesRest _ b q;
  loops = beside.LoopsRest _ c (beside.SameLoops _ r);
}

pub queue_beside : (e : Entry) (old : Objects) (new : Objects) → Queues e old.queues new.queues
    → tasking_of e ≡ Untasked
    → holding_of e ≡ Unheld → looping_of e ≡ Unlooped → new.cooperators ≡ old.cooperators
    → new.semaphores ≡ old.semaphores → new.loops ≡ old.loops → Beside e old new
queue_beside e old new t a b c p q r = record {
  tasks = beside.TasksRest _ a (ap (λ (c : Cooperators). c.tasks) p) (ap (λ (c : Cooperators). all_turns c.all) p);
  locks = beside.LocksRest _ b q;
  queues = t;
  loops = beside.LoopsRest _ c (beside.SameLoops _ r);
}

loop_beside : (e : Entry) (old : Objects) (new : Objects) → Loops e old.clock old.loops new.loops
    → tasking_of e ≡ Untasked → holding_of e ≡ Unheld → queueing_of e ≡ Unqueued → new.cooperators ≡ old.cooperators
    → new.semaphores ≡ old.semaphores → new.queues ≡ old.queues → Beside e old new
loop_beside e old new t a b c p q r = record {
  tasks = beside.TasksRest _ a (ap (λ (c : Cooperators). c.tasks) p) (ap (λ (c : Cooperators). all_turns c.all) p);
  locks = beside.LocksRest _ b q;
  queues = beside.QueuesRest _ c r;
  loops = t;
}

child_fired_comes : (l i : ℕ) (v : Value) (o : Option Gather) (w : World) → Quietly w (child_fired_found l i v o w).1
child_fired_comes l i v None w = same w
child_fired_comes l i v (Some g) w =
    by_arrange (with_list l (child_fired i v g).1) w (refl, refl) Stays (λ k. k)
    (arranging _ _ refl refl refl refl refl) refl

child_fired_in_comes : (l i : ℕ) (v : Value) (w : World) → Quietly w (child_fired_in l i v w).1
unfolding child_fired_in
child_fired_in_comes l i v w =
    first_comes w.stopped _ (child_fired_found l i v (slice_get w.objects.lists l) w) w (same w)
    (child_fired_comes l i v (slice_get w.objects.lists l) w)

scheduled_comes : (l : ℕ) (o : Option LoopingCall) (w : World) → slice_get w.objects.loops l ≡ o
    → Quietly w (turn_scheduled l o w)
scheduled_comes l None w h = same w
scheduled_comes l (Some x) w h =
    by_aside (entry.LaterLoop x.name (next_due x w.objects.clock)) (with_turn l x) w refl (tt, tt)
    (λ k. Adds (what.Turn x.name l) (next_due x w.objects.clock) refl (turn_later x w.objects.clock (k.each l x h)))
    (λ k. regular_set l x _ w.objects.loops h refl k)
    (loop_beside _ _ _ (beside.LoopTurns l x _ h refl refl refl refl) refl refl refl refl refl refl) refl

dropped_same : (e : Entry) (o : Option ℕ) (c : Clock) → IsPlain e → Clocks e c (turn_dropped o c)
dropped_same e None c p = Leaves p
dropped_same e (Some number) c p = Drops number p

loop_stopped_comes : (l : ℕ) (o : Option LoopingCall) (w : World) → slice_get w.objects.loops l ≡ o
    → Quietly w (loop_stopped l o w)
loop_stopped_comes l None w h = same w
loop_stopped_comes l (Some x) w h =
    by_aside (entry.Stop x.name) (with_stopped l x) w refl (tt, tt)
    (λ k. dropped_same (entry.Stop x.name) x.turn w.objects.clock
    (refl, refl, refl)) (λ k. regular_set l x _ w.objects.loops h refl k)
    (loop_beside _ _ _ (beside.LoopsRest _ refl (beside.LoopSet l x _ h refl refl refl)) refl refl refl refl refl refl)
    refl

ended_same : (l : ℕ) (o : Option LoopingCall) (objects : Objects)
    → Arranges objects.clock (with_ended l o objects).clock
ended_same l None objects = Stays
ended_same l (Some x) objects = Stays

ended_lines : (l : ℕ) (o : Option LoopingCall) (objects : Objects) → LinesStay objects (with_ended l o objects)
ended_lines l None objects = (refl, refl)
ended_lines l (Some x) objects = (refl, refl)

ended_names : (l : ℕ) (o : Option LoopingCall) (objects : Objects) → (with_ended l o objects).names ≡ objects.names
ended_names l None objects = refl
ended_names l (Some x) objects = refl

ended_loops : (l : ℕ) (o : Option LoopingCall) (objects : Objects) → slice_get objects.loops l ≡ o
    → Regular objects.loops → Regular (with_ended l o objects).loops
ended_loops l None objects h k = k
ended_loops l (Some x) objects h k = regular_set l x _ objects.loops h refl k

loop_arranged : (l : ℕ) (o : Option LoopingCall) (objects : Objects) → slice_get objects.loops l ≡ o
    → Arranged objects (with_ended l o objects)
loop_arranged l None objects h = arranging _ _ refl refl refl refl refl
loop_arranged l (Some x) objects h = record {
  tasks = refl;
  turns = refl;
  locks = beside.SameLocks _ refl;
  queues = beside.SameQueues _ refl;
  loops = beside.LoopSet l x _ h refl refl refl;
}

end_loop_comes : (l : ℕ) (w : World) → Quietly w (end_loop l w)
end_loop_comes l w =
    by_arrange _ w (ended_lines l (slice_get w.objects.loops l) w.objects)
    (ended_same l (slice_get w.objects.loops l) w.objects) (ended_loops l (slice_get w.objects.loops l) w.objects refl)
    (loop_arranged l (slice_get w.objects.loops l) w.objects refl)
    (ended_names l (slice_get w.objects.loops l) w.objects)

-- a turn that begins changes only which bodies are to come
begun_name : (bodies : List body_of.Body) (x : LoopingCall) → (turn_begun bodies x).name ≡ x.name
begun_name [] x = refl
begun_name (body ∷ rest) x = refl

begun_start : (bodies : List body_of.Body) (x : LoopingCall) → (turn_begun bodies x).start ≡ x.start
begun_start [] x = refl
begun_start (body ∷ rest) x = refl

begun_interval : (bodies : List body_of.Body) (x : LoopingCall) → (turn_begun bodies x).interval ≡ x.interval
begun_interval [] x = refl
begun_interval (body ∷ rest) x = refl

begun_same : (l : ℕ) (o : Option LoopingCall) (objects : Objects)
    → Arranges objects.clock (with_turn_begun l o objects).clock
begun_same l None objects = Stays
begun_same l (Some x) objects = Stays

begun_lines : (l : ℕ) (o : Option LoopingCall) (objects : Objects) → LinesStay objects (with_turn_begun l o objects)
begun_lines l None objects = (refl, refl)
begun_lines l (Some x) objects = (refl, refl)

begun_names : (l : ℕ) (o : Option LoopingCall) (objects : Objects) → (with_turn_begun l o objects).names ≡ objects.names
begun_names l None objects = refl
begun_names l (Some x) objects = refl

begun_loops : (l : ℕ) (o : Option LoopingCall) (objects : Objects) → slice_get objects.loops l ≡ o
    → Regular objects.loops → Regular (with_turn_begun l o objects).loops
begun_loops l None objects h k = k
begun_loops l (Some x) objects h k =
    regular_set l x (turn_begun x.bodies x) objects.loops h (begun_interval x.bodies x) k

begun_arranged : (l : ℕ) (o : Option LoopingCall) (objects : Objects) → slice_get objects.loops l ≡ o
    → Arranged objects (with_turn_begun l o objects)
begun_arranged l None objects h = arranging _ _ refl refl refl refl refl
begun_arranged l (Some x) objects h = record {
  tasks = refl;
  turns = refl;
  locks = beside.SameLocks _ refl;
  queues = beside.SameQueues _ refl;
  loops = beside.LoopSet l x (turn_begun x.bodies x) h (begun_name x.bodies x) (begun_start x.bodies x)
      (begun_interval x.bodies x);
}

begin_turn_comes : (l : ℕ) (w : World) → Quietly w (begin_turn l w)
begin_turn_comes l w =
    by_arrange _ w (begun_lines l (slice_get w.objects.loops l) w.objects)
    (begun_same l (slice_get w.objects.loops l) w.objects) (begun_loops l (slice_get w.objects.loops l) w.objects refl)
    (begun_arranged l (slice_get w.objects.loops l) w.objects refl)
    (begun_names l (slice_get w.objects.loops l) w.objects)

told_task_comes : (e : Task → Entry) (change : Task → Cooperators → Cooperators) (o : Option Task) (w : World)
    → ((x : Task) → change_of (e x) ≡ Aside) → ((x : Task) → LeavesLines (e x))
    → ((x : Task) → IsPlain (e x))
    → ((x : Task) → o ≡ Some x → Beside (e x) w.objects (cooperating (change x) w.objects))
    → Quietly w (task_told e change o w)
told_task_comes e change None w a l t k = same w
told_task_comes e change (Some x) w a l t k =
    by_aside (e x) (cooperating (change x)) w (a x) (l x) (λ r. Leaves (t x)) (λ r. r) (k x refl) refl

dropped_comes : (k : ℕ) (o : Option ℕ) (w : World) → Quietly w (tick_dropped k o w)
dropped_comes k None w = same w
dropped_comes k (Some number) w =
    by_arrange (without_tick k number) w (refl, refl) (Loses number) (λ r. r)
    (arranging _ _ refl (turns_stay k (λ one. record one { tick = None }) w.objects.cooperators.all (λ one. refl))
    refl refl refl) refl

scheduled_stay : (k : ℕ) (w : World)
    → all_turns (changed k (λ one. record one { tick = Some (length w.objects.clock.calls) }) w.objects.cooperators).all
    ≡ all_turns w.objects.cooperators.all
scheduled_stay k w =
    turns_stay k (λ one. record one { tick = Some (length w.objects.clock.calls) }) w.objects.cooperators.all
    (λ one. refl)

scheduled_tick_comes : (name : Option (List ℕ)) (k due : ℕ) (w : World) → w.objects.clock.time ≤ due
    → Quietly w (aside (scheduling (tick_of name k) due) (with_tick k (tick_of name k) due) w)
scheduled_tick_comes None k due w h =
    by_aside (entry.LaterTick due) (with_tick k what.Tick due) w refl (tt, tt) (λ r. Adds what.Tick due refl h)
    (λ r. r) (resting _ _ _ refl refl refl refl refl (scheduled_stay k w) refl refl refl) refl
scheduled_tick_comes (Some name) k due w h =
    by_aside (entry.LaterTickIn name due) (with_tick k (what.TickIn name k) due) w refl (tt, tt)
    (λ r. Adds (what.TickIn name k) due refl h)
    (λ r. r) (resting _ _ _ refl refl refl refl refl (scheduled_stay k w) refl refl refl) refl

later_comes : (k : ℕ) (c : Cooperator) (w : World) → Quietly w (schedule_tick k c w)
later_comes k c w = scheduled_tick_comes c.name k (w.objects.clock.time + c.delay) w (omega arith)

kept_comes : (k : ℕ) (o : Option Cooperator) (w : World) → Quietly w (tick_kept k o w)
kept_comes k None w = same w
kept_comes k (Some c) w =
    one_comes (wants_tick c) w _ _ (later_comes k c w) (dropped_comes k (idle_tick c) w)

wanted_comes : (k : ℕ) (o : Option Cooperator) (w : World) → Quietly w (tick_wanted k o w)
wanted_comes k None w = same w
wanted_comes k (Some c) w = one_comes (wants_tick_at_once c) w _ _ (later_comes k c w) (same w)

keep_comes : (k : ℕ) (w u : World) → Quietly w u → Quietly w (keep_tick k u)
keep_comes k w u c = join w u _ c (kept_comes k (cooperator_of k u) u)

unended_by : (o : Option TaskEnd) (x y : Task) → y.end ≡ o → (if is_some o then None else Some y) ≡ Some x
    → (y ≡ x) × (x.end ≡ None)
unended_by (Some end) x y e q = absurd cc
unended_by None x y e q = let same : y ≡ x = cc in (same, ap (λ (z : Task). z.end) (sym same) ∙ e)

unended_is : (o : Option Task) (x : Task) → unended o ≡ Some x → (o ≡ Some x) × (x.end ≡ None)
unended_is None x q = absurd cc
unended_is (Some y) x q = let found = unended_by y.end x y refl q in (ap Some found.0, found.1)

task_ended_comes : (t : ℕ) (end : TaskEnd) (o : Option Task) (w : World)
    → unended (slice_get w.objects.cooperators.tasks t) ≡ o → Quietly w (task_ended t end o w).1
task_ended_comes t end None w h = same w
task_ended_comes t end (Some x) w h =
    let found = unended_is (slice_get w.objects.cooperators.tasks t) x h in
    by_aside (entry.End x.name (result_of x.name end)) _ w refl (tt, tt) (λ k. Leaves (refl, refl, refl)) (λ k. k)
    (task_beside _ _ _ (beside.TaskEnds t end x found.0 found.1 refl) refl refl refl) refl

inlining_comes : (i : ℕ) (v : Value) (w : World) → Quietly w (resume_inline i v w).1
unfolding resume_inline
inlining_comes i v w =
    let t = resume_at i v w.objects.inlines in
    first_comes w.stopped (None, w) (t.0, arrange (inlining (λ inlines. t.1)) w) w (same w)
    (by_arrange _ w (refl, refl) Stays (λ k. k) (arranging _ _ refl refl refl refl refl) refl)

end_await_comes : (i e : ℕ) (p : Position) (w : World) → Quietly w (end_await i e p w).1
unfolding end_await
end_await_comes i e p w =
    let t = end_adding i e p w.objects.inlines in
    first_comes w.stopped (None, w) (t.0, arrange (inlining (λ inlines. t.1)) w) w (same w)
    (by_arrange _ w (refl, refl) Stays (λ k. k) (arranging _ _ refl refl refl refl refl) refl)

waiting_comes : (number at : ℕ) (due : Due) (w : World)
    → slice_get w.objects.clock.calls number ≡ Some (record { due = at; state = call_state.Waiting due })
    → Quietly w (waiting_cancelled number due w)
waiting_comes number at (what.Call name key) w h =
    by_aside (entry.Uncall name) (with_ended_call number call_state.Cancelled) w refl (tt, tt)
    (λ k. Cancels number at name key h refl) (λ k. k) (resting _ _ _ refl refl refl refl refl refl refl refl refl) refl
waiting_comes number at (what.Turn name key) w h = same w
waiting_comes number at what.Tick w h = same w
waiting_comes number at (what.TickIn name k) w h = same w
waiting_comes number at (what.Delivery job key) w h = same w
waiting_comes number at (what.Timeout d) w h = same w

state_comes : (number at : ℕ) (state : CallState) (w : World)
    → slice_get w.objects.clock.calls number ≡ Some (record { due = at; state = state })
    → Quietly w (state_cancelled number state w).1
state_comes number at (call_state.Waiting due) w h = waiting_comes number at due w h
state_comes number at call_state.Called w h = same w
state_comes number at call_state.Cancelled w h = same w
state_comes number at call_state.Dropped w h = same w

call_comes : (number : ℕ) (o : Option Call) (w : World) → slice_get w.objects.clock.calls number ≡ o
    → Quietly w (call_cancelled number o w).1
call_comes number None w h = same w
call_comes number (Some call) w h = state_comes number call.due call.state w h

off_comes : (number : ℕ) (w : World) → Quietly w (cancel_call number w).1
unfolding cancel_call
off_comes number w =
    first_comes w.stopped _ (call_cancelled number (slice_get w.objects.clock.calls number) w) w (same w)
    (call_comes number (slice_get w.objects.clock.calls number) w refl)

new_later : (from : DelayFrom) (delay due now : ℕ) → now ≤ new_due from delay due now
new_later delay_from.Now delay due now = omega arith
new_later delay_from.Due delay due now = omega arith

waiting_anew : (number : ℕ) (from : DelayFrom) (delay at : ℕ) (due : Due) (w : World)
    → slice_get w.objects.clock.calls number ≡ Some (record { due = at; state = call_state.Waiting due })
    → Quietly w (waiting_reset number from delay at due w)
waiting_anew number from delay at (what.Call name key) w h =
    let now = w.objects.clock.time in
    let new = new_due from (min delay MOST_DELAY) at now in
    by_aside (entry.Reset name new) (with_moved_call number new) w refl (tt, tt)
    (λ k. Moves number at new name key h refl (new_later from (min delay MOST_DELAY) at now)) (λ k. k)
    (resting _ _ _ refl refl refl refl refl refl refl refl refl) refl
waiting_anew number from delay at (what.Turn name key) w h = same w
waiting_anew number from delay at what.Tick w h = same w
waiting_anew number from delay at (what.TickIn name k) w h = same w
waiting_anew number from delay at (what.Delivery job key) w h = same w
waiting_anew number from delay at (what.Timeout d) w h = same w

state_anew : (number : ℕ) (from : DelayFrom) (delay at : ℕ) (state : CallState) (w : World)
    → slice_get w.objects.clock.calls number ≡ Some (record { due = at; state = state })
    → Quietly w (state_reset number from delay at state w).1
state_anew number from delay at (call_state.Waiting due) w h = waiting_anew number from delay at due w h
state_anew number from delay at call_state.Called w h = same w
state_anew number from delay at call_state.Cancelled w h = same w
state_anew number from delay at call_state.Dropped w h = same w

call_anew : (number : ℕ) (from : DelayFrom) (delay : ℕ) (o : Option Call) (w : World)
    → slice_get w.objects.clock.calls number ≡ o → Quietly w (call_reset number from delay o w).1
call_anew number from delay None w h = same w
call_anew number from delay (Some call) w h = state_anew number from delay call.due call.state w h

anew_comes : (number : ℕ) (from : DelayFrom) (delay : ℕ) (w : World) → Quietly w (reset_call number from delay w).1
unfolding reset_call
anew_comes number from delay w =
    first_comes w.stopped _ (call_reset number from delay (slice_get w.objects.clock.calls number) w) w (same w)
    (call_anew number from delay (slice_get w.objects.clock.calls number) w refl)

call_later_comes : (name : List ℕ) (delay : ℕ) (body : body_of.Body) (w : World)
    → Quietly w (call_later name delay body w)
call_later_comes name delay body w =
    let due = w.objects.clock.time + min delay MOST_DELAY in by_aside (entry.LaterCall name due)
    (with_new_call name due body) w refl (tt, tt)
    (λ k. Adds (what.Call name (length w.objects.bodies)) due refl (omega arith))
    (λ k. k) (resting _ _ _ refl refl refl refl refl refl refl refl refl) refl

timer_comes : (d delay : ℕ) (w : World) → Quietly w (start_timer d delay w)
timer_comes d delay w =
    let due = w.objects.clock.time + min delay MOST_DELAY in
    by_aside (entry.LaterTimeout d due) (with_timer d due) w refl (tt, tt)
    (λ k. Adds (what.Timeout d) due refl (omega arith))
    (λ k. k) (resting _ _ _ refl refl refl refl refl refl refl refl refl) refl

delivery_comes : (job d delay : ℕ) (w : World) → Quietly w (deliver_later job d delay w)
delivery_comes job d delay w =
    let due = w.objects.clock.time + min delay MOST_DELAY in
    by_aside (entry.LaterJob job due) (with_delivery job d due) w refl (tt, tt)
    (λ k. Adds (what.Delivery job d) due refl
    (omega arith)) (λ k. k) (resting _ _ _ refl refl refl refl refl refl refl refl refl) refl

due_aside : (due : Due) → change_of (entry_when_due due) ≡ Aside
due_aside (what.Call name key) = refl
due_aside (what.Turn name key) = refl
due_aside what.Tick = refl
due_aside (what.TickIn name k) = refl
due_aside (what.Delivery job key) = refl
due_aside (what.Timeout d) = refl

due_untasked : (due : Due) → tasking_of (entry_when_due due) ≡ Untasked
due_untasked (what.Call name key) = refl
due_untasked (what.Turn name key) = refl
due_untasked what.Tick = refl
due_untasked (what.TickIn name k) = refl
due_untasked (what.Delivery job key) = refl
due_untasked (what.Timeout d) = refl

due_unheld : (due : Due) → holding_of (entry_when_due due) ≡ Unheld
due_unheld (what.Call name key) = refl
due_unheld (what.Turn name key) = refl
due_unheld what.Tick = refl
due_unheld (what.TickIn name k) = refl
due_unheld (what.Delivery job key) = refl
due_unheld (what.Timeout d) = refl

due_unqueued : (due : Due) → queueing_of (entry_when_due due) ≡ Unqueued
due_unqueued (what.Call name key) = refl
due_unqueued (what.Turn name key) = refl
due_unqueued what.Tick = refl
due_unqueued (what.TickIn name k) = refl
due_unqueued (what.Delivery job key) = refl
due_unqueued (what.Timeout d) = refl

due_leaves : (due : Due) → LeavesLines (entry_when_due due)
due_leaves due = (subst LeavesQueues (sym (due_unqueued due)) tt, subst LeavesTokens (sym (due_unheld due)) tt)

due_unlooped : (due : Due) → looping_of (entry_when_due due) ≡ Unlooped
due_unlooped (what.Call name key) = refl
due_unlooped (what.Turn name key) = refl
due_unlooped what.Tick = refl
due_unlooped (what.TickIn name k) = refl
due_unlooped (what.Delivery job key) = refl
due_unlooped (what.Timeout d) = refl

upcoming_comes : (o : Option Upcoming) (w : World) → next_call w.objects.clock ≡ o → Quietly w (take_due_found o w).1
upcoming_comes None w h = same w
upcoming_comes (Some call) w h =
    by_aside (entry_when_due call.what) (with_ended_call call.number call_state.Called) w (due_aside call.what)
    (due_leaves call.what)
    (λ k. Runs call h refl) (λ k. k) (resting _ _ _ (due_untasked call.what) (due_unheld call.what)
    (due_unqueued call.what) (due_unlooped call.what) refl refl refl refl refl) refl

-- Steps: all but those by which a Deferred is settled and time goes on.

-- a Deferred to which a pair is added is settled at once, and so is one that is fired since it was cancelled, directly
-- after the cancel; a Deferred that is granted a token is fired at once
abbrev pub IsQuiet : steps.Step → Type 0
IsQuiet (steps.Put d v) = ⊥
IsQuiet (steps.PutDeferred d e) = ⊥
IsQuiet (steps.Advance ticks) = ⊥
IsQuiet (steps.Name d name) = ⊥
IsQuiet (steps.Append d pair) = ⊥
IsQuiet (steps.FireThenSwallow d) = ⊥
IsQuiet (steps.Withdraw k d) = ⊥
IsQuiet (steps.Ask l d) = ⊥
IsQuiet (steps.Release l) = ⊥
IsQuiet (steps.Forget l d) = ⊥
IsQuiet step = Unit {0}

-- whom the cancel that was logged last has reached; a waiting for a value or a token ends together with its cancel
abbrev pub HasReached : Option Reached → World → Type 0
HasReached None w = Unit {0}
HasReached (Some (reached.Fire d)) w = WasCancelled d w
HasReached (Some (reached.ForItem d k)) w = ⊥
HasReached (Some (reached.ForToken d l)) w = ⊥
HasReached (Some r) w = Unit {0}

abbrev pub IsCalm : Option Reached → steps.Step → Type 0
IsCalm o (steps.Put d v) = ⊥
IsCalm o (steps.PutDeferred d e) = ⊥
IsCalm o (steps.Advance ticks) = ⊥
IsCalm o (steps.FireThenSwallow d) = o ≡ Some (reached.Fire d)
IsCalm o (steps.Withdraw k d) = o ≡ Some (reached.ForItem d k)
IsCalm o (steps.Forget l d) = o ≡ Some (reached.ForToken d l)
IsCalm o step = Unit {0}

-- a question that changes no queue and isn't answered by whom a cancel reaches
abbrev pub AsksQuietly : Question → Type 0
AsksQuietly (steps.Cancel d) = ⊥
AsksQuietly (steps.PutInto k v) = ⊥
AsksQuietly (steps.GetFrom k d) = ⊥
AsksQuietly (steps.Moves d) = ⊥
AsksQuietly question = Unit {0}

pub step_quiet : (step : steps.Step) (w : World) → IsQuiet step → Quietly w (stepped step w)
step_quiet (steps.Make name canceller) w m = by_make name canceller w
step_quiet (steps.Name d name) w m = absurd m
step_quiet (steps.Append d pair) w m = absurd m
step_quiet (steps.FireThenSwallow d) w m = absurd m
step_quiet (steps.Pause d) w m = record { keeps = λ R l. l.by_pause d w }
step_quiet (steps.Note text) w m =
    by_aside (entry.Note text) _ w refl (tt, tt) (λ k. Leaves (refl, refl, refl)) (λ k. k)
    (resting _ _ _ refl refl refl refl refl refl refl refl refl) refl
step_quiet (steps.TellTurn name) w m =
    by_aside (entry.Turn name) _ w refl (tt, tt) (λ k. Leaves (refl, refl, refl)) (λ k. k)
    (resting _ _ _ refl refl refl refl refl refl refl refl refl) refl
step_quiet (steps.TellUnhandled failure) w m =
    by_aside (entry.Unhandled failure) _ w refl (tt, tt) (λ k. Leaves (refl, refl, refl)) (λ k. k)
    (resting _ _ _ refl refl refl refl refl refl refl refl refl) refl
step_quiet (steps.NewLock name) w m =
    by_aside (entry.Lock name) _ w refl (tt, tt) (λ k. Leaves (refl, refl, refl)) (λ k. k)
    (lock_beside _ _ _ (beside.LockMade name refl) refl refl refl refl refl refl) refl
step_quiet (steps.NewSemaphore name tokens) w m =
    by_aside (entry.Semaphore name tokens) _ w refl (tt, tt) (λ k. Leaves (refl, refl, refl)) (λ k. k)
    (lock_beside _ _ _ (beside.SemaphoreMade name tokens refl) refl refl refl refl refl refl) refl
step_quiet (steps.Ask l d) w m = absurd m
step_quiet (steps.Release l) w m = absurd m
step_quiet (steps.Forget l d) w m = absurd m
step_quiet (steps.NewQueue name size backlog) w m =
    by_aside (entry.Queue name size backlog) _ w refl (tt, tt) (λ k. Leaves (refl, refl, refl)) (λ k. k)
    (queue_beside _ _ _ (beside.QueueMade name size backlog refl) refl refl refl refl refl refl) refl
step_quiet (steps.Withdraw k d) w m = absurd m
step_quiet (steps.NewList n flags) w m =
    by_arrange _ w (refl, refl) Stays (λ k. k) (arranging _ _ refl refl refl refl refl) refl
step_quiet (steps.StartTimer d delay) w m = timer_comes d delay w
step_quiet (steps.EndTimer t) w m =
    by_arrange (with_ended_call t call_state.Dropped) w (refl, refl) (Loses t) (λ k. k)
    (arranging _ _ refl refl refl refl refl) refl
step_quiet (steps.CallLater name delay body) w m = call_later_comes name delay body w
step_quiet (steps.NewLoop name d interval body bodies) w m =
    by_aside (entry.Loop name d) _ w refl (tt, tt) (λ k. Leaves (refl, refl, refl))
    (λ k.
    regular_push (new_loop name d w.objects.clock.time interval body bodies) w.objects.loops (new_regular interval)
    k)
    (loop_beside _ _ _ (beside.LoopStarts name d interval body bodies refl) refl refl refl refl refl refl) refl
step_quiet (steps.BeginTurn l) w m = begin_turn_comes l w
step_quiet (steps.ScheduleTurn l) w m = scheduled_comes l (slice_get w.objects.loops l) w refl
step_quiet (steps.StopLoop l) w m = loop_stopped_comes l (slice_get w.objects.loops l) w refl
step_quiet (steps.EndLoop l) w m = end_loop_comes l w
step_quiet (steps.NewTask name bodies) w m =
    by_aside (entry.Task name) _ w refl (tt, tt) (λ k. Leaves (refl, refl, refl)) (λ k. k)
    (task_beside _ _ _ (beside.TaskMade name bodies refl) refl refl refl) refl
step_quiet (steps.NewTaskIn k name of bodies) w m =
    by_aside (entry.TaskIn name of) _ w refl (tt, tt) (λ k. Leaves (refl, refl, refl)) (λ k. k)
    (task_beside _ _ _ (beside.TaskMadeIn k name of bodies refl) refl refl refl) refl
step_quiet (steps.AwaitTask t d) w m =
    told_task_comes (λ x. entry.WhenDone x.name d) _ (slice_get w.objects.cooperators.tasks t) w (λ x. refl)
    (λ x. (tt, tt)) (λ x. (refl, refl, refl))
    (λ x g. task_beside _ _ _ (beside.TaskAwaited t d x g refl) refl refl refl)
step_quiet (steps.PauseTask t) w m =
    told_task_comes (λ x. entry.PauseTask x.name) _ (slice_get w.objects.cooperators.tasks t) w (λ x. refl)
    (λ x. (tt, tt)) (λ x. (refl, refl, refl)) (λ x g. task_beside _ _ _ (beside.TaskPaused t x g refl) refl refl refl)
step_quiet (steps.ResumeTask t) w m =
    told_task_comes (λ x. entry.ResumeTask x.name) _ (slice_get w.objects.cooperators.tasks t) w (λ x. refl)
    (λ x. (tt, tt)) (λ x. (refl, refl, refl)) (λ x g. task_beside _ _ _ (beside.TaskResumed t x g refl) refl refl refl)
step_quiet (steps.HoldTask t e) w m =
    told_task_comes (λ x. entry.Hold x.name e) _ (slice_get w.objects.cooperators.tasks t) w (λ x. refl)
    (λ x. (tt, tt)) (λ x. (refl, refl, refl)) (λ x g. task_beside _ _ _ (beside.TaskPaused t x g refl) refl refl refl)
step_quiet (steps.SetUnitsIn k name units) w m =
    by_aside (entry.UnitsIn name units) _ w refl (tt, tt) (λ r. Leaves (refl, refl, refl)) (λ r. r)
    (resting _ _ _ refl refl refl refl refl
    (turns_stay k (with_units units) w.objects.cooperators.all (λ one. refl)) refl refl refl) refl
step_quiet (steps.Halt k name) w m =
    by_aside (entry.StopCooperator name) _ w refl (tt, tt) (λ r. Leaves (refl, refl, refl)) (λ r. r)
    (resting _ _ _ refl refl refl refl refl
    (turns_stay k halted w.objects.cooperators.all (λ one. refl)) refl refl refl)
    refl
step_quiet (steps.SetUnits units) w m =
    by_aside (entry.Units units) _ w refl (tt, tt) (λ r. Leaves (refl, refl, refl)) (λ r. r)
    (resting _ _ _ refl refl refl refl refl
    (turns_stay 0 (with_units units) w.objects.cooperators.all (λ one. refl)) refl refl refl) refl
step_quiet (steps.KeepTick k) w m = keep_comes k w w (same w)
step_quiet (steps.WantTick k) w m = wanted_comes k (cooperator_of k w) w
step_quiet (steps.BeginTick k) w m =
    by_arrange _ w (refl, refl) Stays (λ r. r) (arranging _ _ refl
    (turns_stay k (λ c. record c { tick = None; ticking = true }) w.objects.cooperators.all (λ one. refl))
    refl refl refl) refl
step_quiet (steps.EndTick k) w m =
    by_arrange _ w (refl, refl) Stays (λ r. r) (arranging _ _ refl
    (turns_stay k (λ c. record c { ticking = false }) w.objects.cooperators.all (λ one. refl)) refl refl refl) refl
step_quiet steps.AddInline w m =
    by_arrange _ w (refl, refl) Stays (λ k. k) (arranging _ _ refl refl refl refl refl) refl
step_quiet (steps.BeginAwait i e) w m =
    by_aside (entry.Await i.of e) _ w refl (tt, tt) (λ k. Leaves (refl, refl, refl)) (λ k. k)
    (resting _ _ _ refl refl refl refl refl refl refl refl refl) refl
step_quiet (steps.Submit d pool work) w m = record { keeps = λ R l. l.by_submit d pool work w }
step_quiet (steps.DeliverLater job d delay) w m = delivery_comes job d delay w
step_quiet (steps.Advance ticks) w m = absurd m
step_quiet steps.TellDrain w m =
    by_aside entry.Drain _ w refl (tt, tt) (λ k. Leaves (refl, refl, refl)) (λ k. k)
    (resting _ _ _ refl refl refl refl refl refl refl refl refl) refl
step_quiet (steps.TellPost caller index) w m =
    by_aside (entry.Post caller index) _ w refl (tt, tt) (λ k. Leaves (refl, refl, refl)) (λ k. k)
    (resting _ _ _ refl refl refl refl refl refl refl refl refl) refl
step_quiet (steps.TellMet d state) w m =
    by_aside (entry.Expect d state) _ w refl (tt, tt) (λ k. Leaves (refl, refl, refl)) (λ k. k)
    (resting _ _ _ refl refl refl refl refl refl refl refl refl) refl
step_quiet (steps.TellUnmet d state expected) w m =
    by_aside (entry.Unmet d state expected) _ w refl (tt, tt) (λ k. Leaves (refl, refl, refl)) (λ k. k)
    (resting _ _ _ refl refl refl refl refl refl refl refl refl) refl
step_quiet (steps.TellUnbound name) w m =
    by_aside (entry.Unbound name) _ w refl (tt, tt) (λ k. Leaves (refl, refl, refl)) (λ k. k)
    (resting _ _ _ refl refl refl refl refl refl refl refl refl) refl
step_quiet steps.StopRun w m = record { keeps = λ R l. l.by_stop w }
step_quiet (steps.Put d v) w m = absurd m
step_quiet (steps.PutDeferred d e) w m = absurd m

step_taken_comes : (k t : ℕ) (o : Option Task) (w : World) → turn_in (cooperator_of k w) ≡ Some t
    → slice_get w.objects.cooperators.tasks t ≡ o → Quietly w (step_taken t o w).1
step_taken_comes k t None w h g = same w
step_taken_comes k t (Some x) w h g =
    by_aside (entry.Step x.name) (cooperating (with_step t x)) w refl (tt, tt) (λ k. Leaves (refl, refl, refl)) (λ k. k)
    (task_beside _ _ _ (beside.TaskSteps k t x h g refl) refl refl refl) refl

-- where nobody takes turns, who takes them stays
next_same : (o : Option ℕ) (turns : Turns) → (gone_on_by o turns).tasks ≡ turns.tasks
next_same None turns = refl
next_same (Some t) turns = refl

turn_comes : (k : ℕ) (o : Option ℕ) (w : World) → turn_in (cooperator_of k w) ≡ o → Quietly w (turn_taken k o w).1
turn_comes k None w h =
    by_arrange (cooperating (with_next_turn k)) w (refl, refl) Stays (λ r. r) (arranging _ _ refl
    (turns_stay k (λ one. record one { turns = gone_on one.turns }) w.objects.cooperators.all
    (λ one. next_same (turn_of one.turns) one.turns)) refl refl refl) refl
turn_comes k (Some t) w h = step_taken_comes k t (slice_get w.objects.cooperators.tasks t) w h refl

pub question_quiet : (question : Question) (w : World) → AsksQuietly question → Quietly w (steps.asked question w).1
question_quiet (steps.BeginBody declared) w m =
    by_aside (entry.Body declared.name) _ w refl (tt, tt) (λ k. Leaves (refl, refl, refl)) (λ k. k)
    (resting _ _ _ refl refl refl refl refl refl refl refl refl) refl
question_quiet (steps.Cancel d) w m = absurd m
question_quiet (steps.PutInto k v) w m = absurd m
question_quiet (steps.GetFrom k d) w m = absurd m
question_quiet (steps.ChildFired l i v) w m = child_fired_in_comes l i v w
question_quiet (steps.CancelCall number) w m = off_comes number w
question_quiet (steps.ResetCall number from delay) w m = anew_comes number from delay w
question_quiet (steps.TakeStep k) w m = turn_comes k (turn_in (cooperator_of k w)) w refl
question_quiet (steps.EndTask t end) w m =
    task_ended_comes t end (unended (slice_get w.objects.cooperators.tasks t)) w refl
question_quiet (steps.ResumeInline i v) w m = inlining_comes i v w
question_quiet (steps.EndAwait i e p) w m = end_await_comes i e p w
question_quiet steps.TakeDue w m = upcoming_comes (next_call w.objects.clock) w refl
question_quiet (steps.Moves d) w m = absurd m

-- so they are calm, and what adds a pair or fires is, too
pub quietly : (w u : World) → Quietly w u → Calmly w u
quietly w u c = record { keeps = λ R l. c.keeps R l.quiet }

pub join_calm : (u v w : World) → Calmly u v → Calmly v w → Calmly u w
join_calm u v w a b = record { keeps = λ R l. l.quiet.joins u v w (a.keeps R l) (b.keeps R l) }

-- whom a question tells that a cancel reaches
abbrev pub reached_by : (question : Question) → Reply question → Option Reached
reached_by (steps.BeginBody declared) r = None
reached_by (steps.Cancel d) r = Some r
reached_by (steps.PutInto k v) r = None
reached_by (steps.GetFrom k d) r = None
reached_by (steps.ChildFired l i v) r = None
reached_by (steps.CancelCall number) r = None
reached_by (steps.ResetCall number from delay) r = None
reached_by (steps.TakeStep k) r = None
reached_by (steps.EndTask t end) r = None
reached_by (steps.ResumeInline i v) r = None
reached_by (steps.EndAwait i e p) r = None
reached_by steps.TakeDue r = None
reached_by (steps.Moves d) r = None

whom_reached : (d : ℕ) (r : Reached) (w : World) → reached_from d w.records ≡ r → ReachesNoWaiter r
    → HasReached (Some r) (record w { journal = with_entry w.journal (entry.Cancel d) })
whom_reached d reached.Nothing w e m = tt
whom_reached d (reached.Fire c) w e m = record { of = d; before = w.journal.entries; last = refl; reaches = e }
whom_reached d (reached.Run c body) w e m = tt
whom_reached d (reached.ForToken c l) w e m = absurd m
whom_reached d (reached.ForItem c k) w e m = absurd m
whom_reached d (reached.Children children) w e m = tt
whom_reached d (reached.Inline i) w e m = tt

told_reaches : (b : Bool) (d : ℕ) (w : World) → (let a = cond {A = Reached × World} b (
  reached_from d w.records,
  record w { journal = with_entry w.journal (entry.Cancel d) },
) (reached.Nothing, record w { stopped = true }) in ReachesNoWaiter a.0 → HasReached (Some a.0) a.1)
told_reaches true d w m = whom_reached d (reached_from d w.records) w refl m
told_reaches false d w m = tt

unless_reaches : (b : Bool) (w : World) (p : Reached × World) → (ReachesNoWaiter p.0 → HasReached (Some p.0) p.1)
    → (let a = cond {A = Reached × World} b (reached.Nothing, w) p in ReachesNoWaiter a.0 → HasReached (Some a.0) a.1)
unless_reaches true w p h m = tt
unless_reaches false w p h m = h m

pub cancel_reaches : (d : ℕ) (w : World) → ReachesNoWaiter (cancel d w).0
    → HasReached (Some (cancel d w).0) (cancel d w).1
unfolding cancel
cancel_reaches d w = unless_reaches w.stopped w _ (told_reaches (fits w.journal (entry.Cancel d)) d w)
