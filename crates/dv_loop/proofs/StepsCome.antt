-- Every step that rules take leads on by steps of the world: a line a step, written once for all laws.
use Rattle.std.proofs.Common.{ℕ, ◌≡◌, min, Bool, true, false, if◌then◌else◌, List, Option, None, Some, slice_get, refl}
use Rattle.dv_clock.specs.Clock.{Upcoming, next_call, new_due}
use Rattle.dv_clock.specs.Due.{scheduling, entry_when_due}
use Rattle.dv_clock.specs.declared.call.Call.{Call}
use Rattle.dv_clock.specs.declared.call.CallState.{CallState}
use Rattle.dv_clock.specs.declared.call.CallState.TheVariants as call_state
use Rattle.dv_clock.specs.declared.delay_from.DelayFrom.{DelayFrom}
use Rattle.dv_clock.specs.declared.due.Due.{Due}
use Rattle.dv_clock.specs.declared.due.Due.TheVariants as what
use Rattle.dv_clock.specs.declared.limits.TheConstants.{MOST_DELAY}
use Rattle.dv_journal.specs.Told.{change_of, Aside}
use Rattle.dv_journal.specs.declared.entry.Entry.{Entry}
use Rattle.dv_journal.specs.declared.entry.Entry.TheVariants as entry
use Rattle.dv_objects.specs.Cooperator.{Cooperator, Cooperators, result_of, unended, tick_of, turn_in, wants_tick}
use Rattle.dv_objects.specs.Cooperator.{idle_tick, wants_tick_at_once}
use Rattle.dv_objects.specs.Inlines.{resume_at, end_adding}
use Rattle.dv_objects.specs.Objects.{Objects, with_queue, with_list, inlining}
use Rattle.dv_objects.specs.declared.looping_call.LoopingCall.{LoopingCall}
use Rattle.dv_objects.specs.declared.task.Task.{Task}
use Rattle.dv_objects.specs.declared.task.TaskEnd.{TaskEnd}
use Rattle.dv_inline.specs.Position.{Position}
use Rattle.dv_loop.proofs.Lasting.{Comes}
use Rattle.dv_prims.specs.DeferredList.{Gather, child_fired}
use Rattle.dv_prims.specs.Queue.{Queue, may_put, receiver, put_to}
use Rattle.dv_prims.specs.Tokens.{Semaphore, is_unheld}
use Rattle.dv_definition.specs.Steps.{Step, stepped, Question, asked, Make, Name, Append, FireThenSwallow, Pause, Note}
use Rattle.dv_definition.specs.Steps.{TellTurn, TellUnhandled, NewLock, NewSemaphore, Ask, Release, Forget, NewQueue}
use Rattle.dv_definition.specs.Steps.{Withdraw, NewList, StartTimer, EndTimer, CallLater, NewLoop, BeginTurn}
use Rattle.dv_definition.specs.Steps.{ScheduleTurn, StopLoop, EndLoop, NewTask, AwaitTask, PauseTask, ResumeTask}
use Rattle.dv_definition.specs.Steps.{HoldTask, KeepTick, WantTick}
use Rattle.dv_definition.specs.Steps.{NewTaskIn, SetUnitsIn, Halt}
use Rattle.dv_definition.specs.Steps.{SetUnits, BeginBody, BeginTick, EndTick, AddInline, BeginAwait, Submit}
use Rattle.dv_definition.specs.Steps.{DeliverLater, Advance, TellMet, TellUnmet, TellUnbound, StopRun, TellDrain}
use Rattle.dv_definition.specs.Steps.{TellPost, Put, PutDeferred, TakeDue, Moves, Cancel, PutInto, GetFrom, ChildFired}
use Rattle.dv_definition.specs.Steps.{CancelCall, ResetCall, TakeStep, EndTask, ResumeInline, EndAwait}
use Rattle.dv_value.specs.declared.value.Value.{Value}
use Rattle.dv_world.specs.World.{World, aside, lock_told, release_found, unless_stopped, put_into_found, get_from_found}
use Rattle.dv_world.specs.World.{arrange, child_fired_found, child_fired_in, take_due_found, waiting_cancelled}
use Rattle.dv_world.specs.World.{state_cancelled}
use Rattle.dv_world.specs.World.{call_cancelled, cancel_call, waiting_reset, state_reset, call_reset, reset_call}
use Rattle.dv_world.specs.World.{turn_scheduled, loop_stopped, task_told, task_ended}
use Rattle.dv_world.specs.World.{cooperator_of, tick_dropped, tick_kept, tick_wanted, keep_tick, step_taken, turn_taken}
use Rattle.dv_world.specs.World.{resume_inline, end_await}

pub same : (w : World) → Comes w w
same w = record { keeps = λ R l. l.stays w }

pub join : (u v w : World) → Comes u v → Comes v w → Comes u w
join u v w a b = record { keeps = λ R l. l.joins u v w (a.keeps R l) (b.keeps R l) }

pub by_aside : (e : Entry) (change : Objects → Objects) (w : World) → change_of e ≡ Aside → Comes w (aside e change w)
by_aside e change w a = record { keeps = λ R l. l.by_aside e change w a }

by_lock : (l : ℕ) (e : Semaphore → Entry) (change : Semaphore → Semaphore) (o : Option Semaphore) (w : World)
    → ((s : Semaphore) → change_of (e s) ≡ Aside) → Comes w (lock_told l e change o w)
by_lock l e change None w a = same w
by_lock l e change (Some s) w a = by_aside (e s) _ w (a s)

first_comes : {A : Type 0} (b : Bool) (t u : A × World) (w : World) → Comes w t.1 → Comes w u.1
    → Comes w (if b then t else u).1
first_comes true t u w c d = c
first_comes false t u w c d = d

one_comes : (b : Bool) (w u v : World) → Comes w u → Comes w v → Comes w (if b then u else v)
one_comes true w u v c d = c
one_comes false w u v c d = d

release_comes : (l : ℕ) (o : Option Semaphore) (w : World) → Comes w (release_found l o w)
release_comes l None w = same w
release_comes l (Some s) w = one_comes (is_unheld s) w w _ (same w) (by_aside (entry.Release s.name) _ w refl)

child_fired_comes : (l i : ℕ) (v : Value) (o : Option Gather) (w : World) → Comes w (child_fired_found l i v o w).1
child_fired_comes l i v None w = same w
child_fired_comes l i v (Some g) w = record { keeps = λ R k. k.by_arrange (with_list l (child_fired i v g).1) w }

child_fired_in_comes : (l i : ℕ) (v : Value) (w : World) → Comes w (child_fired_in l i v w).1
unfolding child_fired_in
child_fired_in_comes l i v w =
    first_comes w.stopped _ (child_fired_found l i v (slice_get w.objects.lists l) w) w (same w)
    (child_fired_comes l i v (slice_get w.objects.lists l) w)

scheduled_comes : (l : ℕ) (o : Option LoopingCall) (w : World) → Comes w (turn_scheduled l o w)
scheduled_comes l None w = same w
scheduled_comes l (Some x) w = by_aside (entry.LaterLoop x.name _) _ w refl

loop_stopped_comes : (l : ℕ) (o : Option LoopingCall) (w : World) → Comes w (loop_stopped l o w)
loop_stopped_comes l None w = same w
loop_stopped_comes l (Some x) w = by_aside (entry.Stop x.name) _ w refl

told_task_comes : (e : Task → Entry) (change : Task → Cooperators → Cooperators) (o : Option Task) (w : World)
    → ((x : Task) → change_of (e x) ≡ Aside) → Comes w (task_told e change o w)
told_task_comes e change None w a = same w
told_task_comes e change (Some x) w a = by_aside (e x) _ w (a x)

dropped_comes : (k : ℕ) (o : Option ℕ) (w : World) → Comes w (tick_dropped k o w)
dropped_comes k None w = same w
dropped_comes k (Some number) w = record { keeps = λ R l. l.by_arrange _ w }

-- a tick that is scheduled is no change of a Deferred
tick_aside : (name : Option (List ℕ)) (k due : ℕ) → change_of (scheduling (tick_of name k) due) ≡ Aside
tick_aside None k due = refl
tick_aside (Some name) k due = refl

kept_comes : (k : ℕ) (o : Option Cooperator) (w : World) → Comes w (tick_kept k o w)
kept_comes k None w = same w
kept_comes k (Some c) w =
    one_comes (wants_tick c) w _ _ (by_aside (scheduling (tick_of c.name k) _) _ w (tick_aside c.name k _))
    (dropped_comes k (idle_tick c) w)

wanted_comes : (k : ℕ) (o : Option Cooperator) (w : World) → Comes w (tick_wanted k o w)
wanted_comes k None w = same w
wanted_comes k (Some c) w =
    one_comes (wants_tick_at_once c) w _ _ (by_aside (scheduling (tick_of c.name k) _) _ w (tick_aside c.name k _))
    (same w)

keep_comes : (k : ℕ) (w u : World) → Comes w u → Comes w (keep_tick k u)
keep_comes k w u c = join w u _ c (kept_comes k (cooperator_of k u) u)

task_ended_comes : (t : ℕ) (end : TaskEnd) (o : Option Task) (w : World) → Comes w (task_ended t end o w).1
task_ended_comes t end None w = same w
task_ended_comes t end (Some x) w = by_aside (entry.End x.name (result_of x.name end)) _ w refl

put_comes : (k : ℕ) (value : Value) (o : Option Queue) (w : World) → Comes w (put_into_found k value o w).1
put_comes k value None w = same w
put_comes k value (Some q) w =
    first_comes (may_put q) (unless_stopped (receiver q.waiting value) (aside (entry.Put q.name value)
    (with_queue k (put_to q.waiting value q)) w)) (None, w) w (by_aside (entry.Put q.name value) _ w refl) (same w)

get_comes : (k d : ℕ) (o : Option Queue) (w : World) → Comes w (get_from_found k d o w).1
get_comes k d None w = same w
get_comes k d (Some q) w = by_aside (entry.Get q.name d) _ w refl

waiting_comes : (number : ℕ) (due : Due) (w : World) → Comes w (waiting_cancelled number due w)
waiting_comes number (what.Call name key) w = by_aside (entry.Uncall name) _ w refl
waiting_comes number (what.Turn name key) w = same w
waiting_comes number what.Tick w = same w
waiting_comes number (what.TickIn name key) w = same w
waiting_comes number (what.Delivery job key) w = same w
waiting_comes number (what.Timeout d) w = same w

state_comes : (number : ℕ) (state : CallState) (w : World) → Comes w (state_cancelled number state w).1
state_comes number (call_state.Waiting due) w = waiting_comes number due w
state_comes number call_state.Called w = same w
state_comes number call_state.Cancelled w = same w
state_comes number call_state.Dropped w = same w

call_comes : (number : ℕ) (o : Option Call) (w : World) → Comes w (call_cancelled number o w).1
call_comes number None w = same w
call_comes number (Some call) w = state_comes number call.state w

off_comes : (number : ℕ) (w : World) → Comes w (cancel_call number w).1
unfolding cancel_call
off_comes number w =
    first_comes w.stopped _ (call_cancelled number (slice_get w.objects.clock.calls number) w) w (same w)
    (call_comes number (slice_get w.objects.clock.calls number) w)

waiting_anew : (number : ℕ) (from : DelayFrom) (delay due : ℕ) (what : Due) (w : World)
    → Comes w (waiting_reset number from delay due what w)
waiting_anew number from delay due (what.Call name key) w =
    by_aside (entry.Reset name (new_due from (min delay MOST_DELAY) due w.objects.clock.time)) _ w refl
waiting_anew number from delay due (what.Turn name key) w = same w
waiting_anew number from delay due what.Tick w = same w
waiting_anew number from delay due (what.TickIn name key) w = same w
waiting_anew number from delay due (what.Delivery job key) w = same w
waiting_anew number from delay due (what.Timeout d) w = same w

state_anew : (number : ℕ) (from : DelayFrom) (delay due : ℕ) (state : CallState) (w : World)
    → Comes w (state_reset number from delay due state w).1
state_anew number from delay due (call_state.Waiting what) w = waiting_anew number from delay due what w
state_anew number from delay due call_state.Called w = same w
state_anew number from delay due call_state.Cancelled w = same w
state_anew number from delay due call_state.Dropped w = same w

call_anew : (number : ℕ) (from : DelayFrom) (delay : ℕ) (o : Option Call) (w : World)
    → Comes w (call_reset number from delay o w).1
call_anew number from delay None w = same w
call_anew number from delay (Some call) w = state_anew number from delay call.due call.state w

anew_comes : (number : ℕ) (from : DelayFrom) (delay : ℕ) (w : World) → Comes w (reset_call number from delay w).1
unfolding reset_call
anew_comes number from delay w =
    first_comes w.stopped _ (call_reset number from delay (slice_get w.objects.clock.calls number) w) w (same w)
    (call_anew number from delay (slice_get w.objects.clock.calls number) w)

inlining_comes : (i : ℕ) (v : Value) (w : World) → Comes w (resume_inline i v w).1
unfolding resume_inline
inlining_comes i v w =
    let t = resume_at i v w.objects.inlines in first_comes w.stopped (None, w)
    (t.0, arrange (inlining (λ inlines. t.1)) w) w (same w) (record { keeps = λ R k. k.by_arrange _ w })

end_await_comes : (i e : ℕ) (p : Position) (w : World) → Comes w (end_await i e p w).1
unfolding end_await
end_await_comes i e p w =
    let t = end_adding i e p w.objects.inlines in first_comes w.stopped (None, w)
    (t.0, arrange (inlining (λ inlines. t.1)) w) w (same w) (record { keeps = λ R k. k.by_arrange _ w })

pub due_aside : (due : Due) → change_of (entry_when_due due) ≡ Aside
due_aside (what.Call name key) = refl
due_aside (what.Turn name key) = refl
due_aside what.Tick = refl
due_aside (what.TickIn name key) = refl
due_aside (what.Delivery job key) = refl
due_aside (what.Timeout d) = refl

step_taken_comes : (t : ℕ) (o : Option Task) (w : World) → Comes w (step_taken t o w).1
step_taken_comes t None w = same w
step_taken_comes t (Some x) w = by_aside (entry.Step x.name) _ w refl

turn_taken_comes : (k : ℕ) (o : Option ℕ) (w : World) → Comes w (turn_taken k o w).1
turn_taken_comes k None w = record { keeps = λ R l. l.by_arrange _ w }
turn_taken_comes k (Some t) w = step_taken_comes t (slice_get w.objects.cooperators.tasks t) w

due_comes : (o : Option Upcoming) (w : World) → Comes w (take_due_found o w).1
due_comes None w = same w
due_comes (Some call) w = by_aside (entry_when_due call.what) _ w (due_aside call.what)

pub step_comes : (step : Step) (w : World) → Comes w (stepped step w)
step_comes (Make name canceller) w = record { keeps = λ R l. l.by_make name canceller w }
step_comes (Name d name) w = by_aside (entry.Name d (Some name)) _ w refl
step_comes (Append d pair) w = record { keeps = λ R l. l.by_append d pair w }
step_comes (FireThenSwallow d) w = record { keeps = λ R l. l.by_fire_then_swallow d w }
step_comes (Pause d) w = record { keeps = λ R l. l.by_pause d w }
step_comes (Note text) w = by_aside (entry.Note text) _ w refl
step_comes (TellTurn name) w = by_aside (entry.Turn name) _ w refl
step_comes (TellUnhandled failure) w = by_aside (entry.Unhandled failure) _ w refl
step_comes (NewLock name) w = by_aside (entry.Lock name) _ w refl
step_comes (NewSemaphore name tokens) w = by_aside (entry.Semaphore name tokens) _ w refl
step_comes (Ask l d) w = by_lock l _ _ (slice_get w.objects.semaphores l) w (λ s. refl)
step_comes (Release l) w = release_comes l (slice_get w.objects.semaphores l) w
step_comes (Forget l d) w = record { keeps = λ R k. k.by_arrange _ w }
step_comes (NewQueue name size backlog) w = by_aside (entry.Queue name size backlog) _ w refl
step_comes (Withdraw k d) w = record { keeps = λ R l. l.by_arrange _ w }
step_comes (NewList n flags) w = record { keeps = λ R l. l.by_arrange _ w }
step_comes (StartTimer d delay) w = by_aside (entry.LaterTimeout d _) _ w refl
step_comes (EndTimer t) w = record { keeps = λ R l. l.by_arrange _ w }
step_comes (CallLater name delay body) w = by_aside (entry.LaterCall name _) _ w refl
step_comes (NewLoop name d interval body bodies) w = by_aside (entry.Loop name d) _ w refl
step_comes (BeginTurn l) w = record { keeps = λ R k. k.by_arrange _ w }
step_comes (ScheduleTurn l) w = scheduled_comes l (slice_get w.objects.loops l) w
step_comes (StopLoop l) w = loop_stopped_comes l (slice_get w.objects.loops l) w
step_comes (EndLoop l) w = record { keeps = λ R k. k.by_arrange _ w }
step_comes (NewTask name bodies) w = by_aside (entry.Task name) _ w refl
step_comes (NewTaskIn k name of bodies) w = by_aside (entry.TaskIn name of) _ w refl
step_comes (AwaitTask t d) w = told_task_comes _ _ (slice_get w.objects.cooperators.tasks t) w (λ x. refl)
step_comes (PauseTask t) w = told_task_comes _ _ (slice_get w.objects.cooperators.tasks t) w (λ x. refl)
step_comes (ResumeTask t) w = told_task_comes _ _ (slice_get w.objects.cooperators.tasks t) w (λ x. refl)
step_comes (HoldTask t e) w = told_task_comes _ _ (slice_get w.objects.cooperators.tasks t) w (λ x. refl)
step_comes (SetUnits units) w = by_aside (entry.Units units) _ w refl
step_comes (SetUnitsIn k name units) w = by_aside (entry.UnitsIn name units) _ w refl
step_comes (Halt k name) w = by_aside (entry.StopCooperator name) _ w refl
step_comes (KeepTick k) w = keep_comes k w w (same w)
step_comes (WantTick k) w = wanted_comes k (cooperator_of k w) w
step_comes (BeginTick k) w = record { keeps = λ R l. l.by_arrange _ w }
step_comes (EndTick k) w = record { keeps = λ R l. l.by_arrange _ w }
step_comes AddInline w = record { keeps = λ R l. l.by_arrange _ w }
step_comes (BeginAwait i e) w = by_aside (entry.Await i.of e) _ w refl
step_comes (Submit d pool work) w = record { keeps = λ R l. l.by_submit d pool work w }
step_comes (DeliverLater job d delay) w = by_aside (entry.LaterJob job _) _ w refl
step_comes (Advance ticks) w = by_aside (entry.Advance _) _ w refl
step_comes TellDrain w = by_aside entry.Drain _ w refl
step_comes (TellPost caller index) w = by_aside (entry.Post caller index) _ w refl
step_comes (TellMet d state) w = by_aside (entry.Expect d state) _ w refl
step_comes (TellUnmet d state expected) w = by_aside (entry.Unmet d state expected) _ w refl
step_comes (TellUnbound name) w = by_aside (entry.Unbound name) _ w refl
step_comes StopRun w = record { keeps = λ R l. l.by_stop w }
step_comes (Put d v) w = record { keeps = λ R l. l.by_put d v w }
step_comes (PutDeferred d e) w = record { keeps = λ R l. l.by_put_deferred d e w }

pub question_comes : (question : Question) (w : World) → Comes w (asked question w).1
question_comes (BeginBody declared) w = by_aside (entry.Body declared.name) _ w refl
question_comes (Cancel d) w = record { keeps = λ R l. l.by_cancel d w }
question_comes (PutInto k v) w = put_comes k v (slice_get w.objects.queues k) w
question_comes (GetFrom k d) w = get_comes k d (slice_get w.objects.queues k) w
question_comes (ChildFired l i v) w = child_fired_in_comes l i v w
question_comes (CancelCall number) w = off_comes number w
question_comes (ResetCall number from delay) w = anew_comes number from delay w
question_comes (TakeStep k) w = turn_taken_comes k (turn_in (cooperator_of k w)) w
question_comes (EndTask t end) w = task_ended_comes t end (unended (slice_get w.objects.cooperators.tasks t)) w
question_comes (ResumeInline i v) w = inlining_comes i v w
question_comes (EndAwait i e p) w = end_await_comes i e p w
question_comes TakeDue w = due_comes (next_call w.objects.clock) w
question_comes (Moves d) w = record { keeps = λ R l. l.by_step d w }
