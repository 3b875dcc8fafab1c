-- The world of a run: its Deferreds, their names, the classes of failures and the journal, and one step of each kind.
use Rattle.std.specs.Prelude.{ℕ, ◌+◌, min, Bool, true, false, not, if◌then◌else◌, List, [], ◌∷◌, ◌++◌, length, Option}
use Rattle.std.specs.Prelude.{None, Some, Result, Ok, Err, slice_get, bytes_eq, codes, find}
use Rattle.std.specs.Option.{option_map_or}
use Rattle.dv_value.specs.Builtin.{assertion_error, runtime_error, already_called, already_cancelled}
use Rattle.dv_value.specs.Builtin.{not_paused as paused_not}
use Rattle.dv_value.specs.Failure.{plain_failure}
use Rattle.dv_value.specs.declared.classes.Class.{Class}
use Rattle.dv_value.specs.declared.failure.Failure.{Failure}
use Rattle.dv_value.specs.declared.value.Value.{Value, Null}
use Rattle.dv_journal.specs.Journal.{Written, empty, fits, with_entry}
use Rattle.dv_journal.specs.declared.entry.Entry.{Entry}
use Rattle.dv_journal.specs.declared.entry.Entry.TheVariants as entry
use Rattle.dv_journal.specs.declared.error.Stop.{Stop}
use Rattle.dv_clock.specs.Clock.{Upcoming, next_call, has_run, new_due}
use Rattle.dv_clock.specs.Due.{scheduling, entry_when_due}
use Rattle.dv_clock.specs.declared.call.Call.{Call}
use Rattle.dv_clock.specs.declared.call.CallState.{CallState}
use Rattle.dv_clock.specs.declared.call.CallState.TheVariants as call_state
use Rattle.dv_clock.specs.declared.due.Due.{Due}
use Rattle.dv_clock.specs.declared.due.Due.TheVariants as what
use Rattle.dv_clock.specs.declared.delay_from.DelayFrom.{DelayFrom}
use Rattle.dv_clock.specs.declared.limits.TheConstants.{MOST_TICKS, MOST_DELAY}
use Rattle.dv_script.specs.declared.body.Body.{Body}
use Rattle.dv_script.specs.declared.script.Cooperator.{Cooperator as Settings}
use Rattle.dv_script.specs.declared.script.NamedBody.{NamedBody}
use Rattle.dv_script.specs.declared.script.NamedCooperator.{NamedCooperator}
use Rattle.dv_script.specs.declared.work.Work.{Work}
use Rattle.dv_prims.specs.DeferredList.{Gather, child_fired}
use Rattle.dv_prims.specs.Queue.{Queue, may_put, receiver, put_to, got_from, withdrawn}
use Rattle.dv_prims.specs.Tokens.{Semaphore, is_unheld, asked, released, forgotten}
use Rattle.dv_prims.specs.declared.gather.AfterChild.{AfterChild}
use Rattle.dv_store.specs.Callbacks as callbacks
use Rattle.dv_store.specs.Cancelling.{swallow_next, end_of_chain}
use Rattle.dv_store.specs.Chaining as chaining
use Rattle.dv_store.specs.Fire as firing
use Rattle.dv_store.specs.Pausing as pausing
use Rattle.dv_store.specs.Record as records
use Rattle.dv_store.specs.State.{State}
use Rattle.dv_store.specs.declared.error.AlreadyCalled.{AlreadyCalled}
use Rattle.dv_store.specs.declared.error.NotPaused.{NotPaused}
use Rattle.dv_journal.specs.declared.error.Fault.{Fault}
use Rattle.dv_journal.specs.declared.error.Fault.TheVariants as fault
use Rattle.dv_store.specs.declared.record.Record.{Record}
use Rattle.dv_store.specs.declared.store.Fired.{Fired}
use Rattle.dv_store.specs.declared.store.Fired.TheVariants.{Set, Swallowed}
use Rattle.dv_store.specs.declared.store.Step.{Step}
use Rattle.dv_store.specs.declared.store.Step.TheVariants.{Nothing}
use Rattle.dv_objects.specs.Cooperator.{Cooperator, Cooperators, changed, cooperator_named, halted, tick_of}
use Rattle.dv_objects.specs.Cooperator.{turn_in, with_new_task, with_step, with_pause, with_resume, with_end}
use Rattle.dv_objects.specs.Cooperator.{with_units}
use Rattle.dv_objects.specs.Cooperator.{with_waiting}
use Rattle.dv_objects.specs.Cooperator.{result_of, unended, wants_tick, wants_tick_at_once, idle_tick, with_next_turn}
use Rattle.dv_inline.specs.Position.{Position}
use Rattle.dv_objects.specs.Inlines.{resume_at, end_adding, now_waiting, awaited_by}
use Rattle.dv_objects.specs.Looping.{next_due, with_turn, with_turn_begun, with_stopped, with_ended}
use Rattle.dv_objects.specs.Names.{number_of}
use Rattle.dv_objects.specs.Objects.{Objects, no_objects, naming_where, with_list, with_new_call, with_delivery}
use Rattle.dv_objects.specs.Objects.{with_timer, with_ended_call, with_moved_call, with_time, with_lock, lock_changed}
use Rattle.dv_objects.specs.Objects.{with_queue}
use Rattle.dv_objects.specs.Objects.{queue_changed, cooperating, with_tick, without_tick, inlining, with_new_inline}
use Rattle.dv_objects.specs.Pair.{passes}
use Rattle.dv_objects.specs.Reached.{reached_at}
use Rattle.dv_objects.specs.Refusals.{cancelled, refused_firing, refused_unpausing}
use Rattle.dv_objects.specs.Works.{is_full}
use Rattle.dv_objects.specs.declared.canceller.Canceller.{Canceller}
use Rattle.dv_objects.specs.declared.canceller.Canceller.TheVariants as canceller
use Rattle.dv_objects.specs.declared.follow.Follow.{Follow}
use Rattle.dv_objects.specs.declared.follow.Follow.TheVariants as follow
use Rattle.dv_objects.specs.declared.inline_id.Inline.{Inline}
use Rattle.dv_objects.specs.declared.looping_call.LoopingCall.{LoopingCall}
use Rattle.dv_objects.specs.Pair.{Pair}
use Rattle.dv_objects.specs.declared.performed.Performed.{Performed}
use Rattle.dv_objects.specs.declared.performed.Performed.TheVariants.{Done, Raised}
use Rattle.dv_objects.specs.declared.task.Task.{Task}
use Rattle.dv_objects.specs.declared.task.TaskEnd.{TaskEnd}
use Rattle.dv_objects.specs.declared.waiting.Waiting.TheVariants.{Adding}
use Rattle.dv_objects.specs.declared.reached.Reached.{Reached}
use Rattle.dv_objects.specs.declared.reached.Reached.TheVariants as reached

-- the first body of this name that a script declares
abbrev pub body_named : List ℕ → List NamedBody → Option NamedBody
body_named name bodies = find (λ body. bytes_eq body.name name) bodies

-- the records of all Deferreds, in order of making
abbrev pub Records : Type 0
Records = List (Record Pair Canceller)

-- what a run has made so far and its journal; once an entry didn't fit, or a Deferred wasn't as the script expects, it
-- has stopped
pub record World : Type 0 where
  pub classes : List Class
  pub declared : List NamedBody
  -- whether an end of an inline body that fails throws its failure
  pub ends_throw : Bool
  pub objects : Objects
  -- the works of its jobs, and beside each the name of its pool, or nothing where that is the default one
  pub works : List Work
  pub pools : List (Option (List ℕ))
  pub records : Records
  pub journal : Written
  pub stopped : Bool

-- nothing is made and nothing is logged at first
abbrev pub first_world : List Class → List NamedBody → Bool → ℕ → Settings → List NamedCooperator → World
first_world classes declared ends_throw limit settings named = record {
  classes = classes;
  declared = declared;
  ends_throw = ends_throw;
  objects = no_objects settings named;
  works = [];
  pools = [];
  records = [];
  journal = empty limit;
  stopped = false;
}

-- the Deferreds and the journal
abbrev pub state_of : World → State Pair Canceller
state_of w = (w.records, w.journal)

-- these Deferreds and this journal
abbrev pub with_state : State Pair Canceller → World → World
with_state s w = record w { records = s.0; journal = s.1 }

-- stopped, and otherwise as before
abbrev pub with_stop : World → World
with_stop w = record w { stopped = true }

-- the value of a Deferred; null where there is none
abbrev pub value_of : ℕ → World → Value
value_of d w = option_map_or (λ r. r.value) (slice_get w.records d) Null

-- the Deferred that a name stands for; `@` is the one that is given, where one is
abbrev pub deferred_at : Option ℕ → List ℕ → World → Option ℕ
deferred_at self name w = if bytes_eq name (codes "@") then self else number_of name w.objects.names

-- a change that was logged is made; one that can't be logged stops the run
abbrev pub after : {A : Type 0} → Result A Stop → State Pair Canceller → World → World
after (Ok done) s w = with_state s w
after (Err stop) s w = with_stop (with_state s w)

-- the move that was made; one that can't be logged stops the run, and is none
abbrev pub moved : Result (Step Pair) Stop → State Pair Canceller → World → Step Pair × World
moved (Ok move) s w = (move, with_state s w)
moved (Err stop) s w = (Nothing, with_stop (with_state s w))

-- the first move of settling d; a stopped run makes none
unfoldable pub step : ℕ → World → Step Pair × World
step d w =
    if w.stopped then (Nothing, w) else
    let told = callbacks.step passes d (state_of w) in moved told.0 told.1 w

-- what a side gave becomes the value of its Deferred
unfoldable pub put : ℕ → Value → World → World
put d value w =
    if w.stopped then w else
    let told = callbacks.put d value (state_of w) in after told.0 told.1 w

-- a side of d gave e, whose value d takes or waits for
unfoldable pub put_deferred : ℕ → ℕ → World → World
put_deferred d e w =
    if w.stopped then w else
    let told = chaining.put_deferred d e (state_of w) in after told.0 told.1 w

-- a pair is added to d, which isn't settled yet
unfoldable pub append : ℕ → Pair → World → World
append d pair w =
    if w.stopped then w else
    let told = records.append d pair (state_of w) in after told.0 told.1 w

-- d is paused once more
unfoldable pub pause : ℕ → World → World
pause d w =
    if w.stopped then w else
    let told = pausing.pause d (state_of w) in after told.0 told.1 w

-- a Deferred that is made is what its name is bound to, where it has one
abbrev pub named : Option (List ℕ) → Result ℕ Stop → State Pair Canceller → World → World
named name (Ok d) s w = record (with_state s w) { objects = naming_where name d w.objects }
named name (Err stop) s w = with_stop (with_state s w)

-- a Deferred is made, which may have a canceller, and its name is bound to it, where it has one
unfoldable pub make : Option (List ℕ) → Option Canceller → World → World
make name canceller w =
    if w.stopped then w else
    let told = records.make name canceller (state_of w) in named name told.0 told.1 w

-- a further firing raises, unless it is swallowed; one that can't be logged stops the run
abbrev pub fired : Result Fired (Fault AlreadyCalled) → State Pair Canceller → World → Follow × World
fired (Ok Set) s w = (follow.Settle, with_state s w)
fired (Ok Swallowed) s w = (follow.Nothing, with_state s w)
fired (Err (fault.Refused already)) s w = (follow.Raise refused_firing, with_state s w)
fired (Err fault.Limit) s w = (follow.Nothing, with_stop (with_state s w))
fired (Err fault.OutOfMemory) s w = (follow.Nothing, with_stop (with_state s w))

-- d is fired, and not settled yet
unfoldable pub fire : ℕ → Value → World → Follow × World
fire d value w =
    if w.stopped then (follow.Nothing, w) else
    let told = firing.fire d value (state_of w) in fired told.0 told.1 w

-- once its firing is logged, the next one is swallowed; a firing that can't be logged stops the run
abbrev pub fired_then_swallows : ℕ → Result Fired (Fault AlreadyCalled) → State Pair Canceller → World → World
fired_then_swallows d (Ok Set) s w = with_state (swallow_next d s.0, s.1) w
fired_then_swallows d (Ok Swallowed) s w = with_state s w
fired_then_swallows d (Err (fault.Refused already)) s w = with_state s w
fired_then_swallows d (Err fault.Limit) s w = with_stop (with_state s w)
fired_then_swallows d (Err fault.OutOfMemory) s w = with_stop (with_state s w)

-- d is fired since it is cancelled and has no canceller, and not settled yet
unfoldable pub fire_then_swallow : ℕ → World → World
fire_then_swallow d w =
    if w.stopped then w else
    let told = firing.fire d cancelled (state_of w) in fired_then_swallows d told.0 told.1 w

-- whether a Deferred may still be fired
abbrev pub is_unfired : ℕ → World → Bool
is_unfired d w = option_map_or (λ r. not r.fired) (slice_get w.records d) false

-- an unpausing of what isn't paused raises; one that can't be logged stops the run
abbrev pub unpaused : Result Unit (Fault NotPaused) → State Pair Canceller → World → Follow × World
unpaused (Ok done) s w = (follow.Settle, with_state s w)
unpaused (Err (fault.Refused already)) s w = (follow.Raise refused_unpausing, with_state s w)
unpaused (Err fault.Limit) s w = (follow.Nothing, with_stop (with_state s w))
unpaused (Err fault.OutOfMemory) s w = (follow.Nothing, with_stop (with_state s w))

-- d is paused once less, and not settled yet
unfoldable pub unpause : ℕ → World → Follow × World
unpause d w =
    if w.stopped then (follow.Nothing, w) else
    let told = pausing.unpause d (state_of w) in unpaused told.0 told.1 w

-- nothing happens where there is none
abbrev pub record_reached : ℕ → Option (Record Pair Canceller) → Reached
record_reached d None = reached.Nothing
record_reached d (Some r) = reached_at d r

-- nothing happens where the walk comes back
abbrev pub end_reached : Option ℕ → Records → Reached
end_reached None rs = reached.Nothing
end_reached (Some end) rs = record_reached end (slice_get rs end)

-- what a cancel of d reaches: the first on the walk along those that are waited for that doesn't wait
abbrev pub reached_from : ℕ → Records → Reached
reached_from d rs = end_reached (end_of_chain d rs) rs

-- a cancel of d is logged, and then reaches what it reaches; one that can't be logged stops the run
unfoldable pub cancel : ℕ → World → Reached × World
cancel d w =
    if w.stopped then (reached.Nothing, w) else
    if fits w.journal (entry.Cancel d)
    then (reached_from d w.records, record w { journal = with_entry w.journal (entry.Cancel d) })
    else (reached.Nothing, with_stop w)

-- an entry is written by which no Deferred changes, and what stands beside the Deferreds changes; one that doesn't fit
-- stops the run
unfoldable pub aside : Entry → (Objects → Objects) → World → World
aside entry change w =
    if w.stopped then w else
    if fits w.journal entry then record w { objects = change w.objects; journal = with_entry w.journal entry }
    else with_stop w

-- what stands beside the Deferreds changes, which isn't logged
unfoldable pub arrange : (Objects → Objects) → World → World
arrange change w = if w.stopped then w else record w { objects = change w.objects }

-- an entry by which nothing changes
abbrev pub tell : Entry → World → World
tell entry w = aside entry (λ objects. objects) w

-- the lock that is found changes, which its entry logs; an id of no lock changes nothing
abbrev pub lock_told : ℕ → (Semaphore → Entry) → (Semaphore → Semaphore) → Option Semaphore → World → World
lock_told l entry change None w = w
lock_told l entry change (Some s) w = aside (entry s) (with_lock l (change s)) w

-- d asks a lock for a token
abbrev pub ask : ℕ → ℕ → World → World
ask l d w = lock_told l (λ s. entry.Acquire s.name d) (asked d) (slice_get w.objects.semaphores l) w

-- a token of the lock that is found is released, where one is held
abbrev pub release_found : ℕ → Option Semaphore → World → World
release_found l None w = w
release_found l (Some s) w = if is_unheld s then w else aside (entry.Release s.name) (with_lock l (released s)) w

-- a token of a lock is released
abbrev pub release : ℕ → World → World
release l w = release_found l (slice_get w.objects.semaphores l) w

-- d waits for a token of a lock no longer
abbrev pub forget : ℕ → ℕ → World → World
forget l d w = arrange (λ objects. lock_changed l (forgotten d) (slice_get objects.semaphores l) objects) w

-- what is returned, unless the run has stopped
abbrev pub unless_stopped : {A : Type 0} → Option A → World → Option A × World
unless_stopped answer w = (if w.stopped then None else answer, w)

-- that a declared body runs is logged, and the body is returned
abbrev pub begin_body : NamedBody → World → Option Body × World
begin_body declared w = unless_stopped (Some declared.body) (tell (entry.Body declared.name) w)

-- a value is put into the queue that is found, if it may be, and the waiter that gets it is returned
abbrev pub put_into_found : ℕ → Value → Option Queue → World → Option (ℕ × Value) × World
put_into_found k value None w = (None, w)
put_into_found k value (Some q) w =
    if may_put q then unless_stopped (receiver q.waiting value)
    (aside (entry.Put q.name value) (with_queue k (put_to q.waiting value q)) w) else (None, w)

-- a value is put into a queue
abbrev pub put_into : ℕ → Value → World → Option (ℕ × Value) × World
put_into k value w = put_into_found k value (slice_get w.objects.queues k) w

-- d asks the queue that is found for a value, and the one that it gets is returned, if it doesn't wait
abbrev pub get_from_found : ℕ → ℕ → Option Queue → World → Option Value × World
get_from_found k d None w = (None, w)
get_from_found k d (Some q) w =
    unless_stopped (slice_get q.stored 0) (aside (entry.Get q.name d) (with_queue k (got_from q.stored d q)) w)

-- d asks a queue for a value
abbrev pub get_from : ℕ → ℕ → World → Option Value × World
get_from k d w = get_from_found k d (slice_get w.objects.queues k) w

-- d waits for a value of a queue no longer
abbrev pub withdraw : ℕ → ℕ → World → World
withdraw k d w = arrange (λ objects. queue_changed k (withdrawn d) (slice_get objects.queues k) objects) w

-- a child of the list that is found fired, and what follows is returned; an id of no list fires nothing
abbrev pub child_fired_found : ℕ → ℕ → Value → Option Gather → World → AfterChild × World
child_fired_found l i v None w = (record { fire = None; pass = v }, w)
child_fired_found l i v (Some g) w = ((child_fired i v g).0, arrange (with_list l (child_fired i v g).1) w)

-- a child of a list fired with this value, which isn't logged; a run that has stopped ignores it
unfoldable pub child_fired_in : ℕ → ℕ → Value → World → AfterChild × World
child_fired_in l i v w =
    if w.stopped then (record { fire = None; pass = v }, w) else child_fired_found l i v (slice_get w.objects.lists l) w

-- a job is submitted to a pool, whose result is for d, and logged; one more than a run has isn't, and one that can't be
-- logged stops the run
unfoldable pub submit : ℕ → Option (List ℕ) → Work → World → World
submit d pool work w =
    if w.stopped then w else
    if is_full w.works then w else
    let told = entry.Job (length w.works) d in
    if fits w.journal told
    then record w { works = w.works ++ work ∷ []; pools = w.pools ++ pool ∷ []; journal = with_entry w.journal told }
    else with_stop w

-- what the submitting of a job raises that is one more than a run has
abbrev pub too_many_jobs : Failure
too_many_jobs = plain_failure runtime_error (codes "too many jobs")

-- the delivery of a job's result to d is scheduled, which is due so much later than now, and no later than calls are
-- delayed by
abbrev pub deliver_later : ℕ → ℕ → ℕ → World → World
deliver_later job d delay w =
    let due = w.objects.clock.time + min delay MOST_DELAY in aside (entry.LaterJob job due) (with_delivery job d due) w

-- a delayed call of this body is scheduled, which is due so much later than now, and no later than calls are delayed
-- by, and its name is bound to it
abbrev pub call_later : List ℕ → ℕ → Body → World → World
call_later name delay body w =
    let due = w.objects.clock.time + min delay MOST_DELAY in
    aside (entry.LaterCall name due) (with_new_call name due body) w

-- a timer of d is started, which expires so much later than now, and no later than calls are delayed by
abbrev pub start_timer : ℕ → ℕ → World → World
start_timer d delay w =
    let due = w.objects.clock.time + min delay MOST_DELAY in aside (entry.LaterTimeout d due) (with_timer d due) w

-- whether a timer has expired
abbrev pub has_timed_out : ℕ → World → Bool
has_timed_out t w = has_run t w.objects.clock.calls

-- a timer ends, if it hasn't expired, which isn't logged
abbrev pub end_timer : ℕ → World → World
end_timer t w = arrange (with_ended_call t call_state.Dropped) w

-- time goes on by so much, and no further than clocks go
abbrev pub advance : ℕ → World → World
advance ticks w =
    let time = min (w.objects.clock.time + ticks) MOST_TICKS in aside (entry.Advance time) (with_time time) w

-- what runs next, where something is due, has been called from now on
abbrev pub take_due_found : Option Upcoming → World → Option Due × World
take_due_found None w = (None, w)
take_due_found (Some call) w =
    unless_stopped (Some call.what) (aside (entry_when_due call.what) (with_ended_call call.number call_state.Called) w)

abbrev pub take_due : World → Option Due × World
take_due w = take_due_found (next_call w.objects.clock) w

-- what a cancelling or a resetting of a call raises that was called
abbrev pub was_called : Failure
was_called = plain_failure already_called []

-- and of one that was cancelled or dropped
abbrev pub was_cancelled : Failure
was_cancelled = plain_failure already_cancelled []

-- a delayed call of the script waits no longer; what else waits is left alone
abbrev pub waiting_cancelled : ℕ → Due → World → World
waiting_cancelled number (what.Call name key) w =
    aside (entry.Uncall name) (with_ended_call number call_state.Cancelled) w
waiting_cancelled number (what.Turn name key) w = w
waiting_cancelled number what.Tick w = w
waiting_cancelled number (what.TickIn name key) w = w
waiting_cancelled number (what.Delivery job key) w = w
waiting_cancelled number (what.Timeout d) w = w

-- a call is cancelled while it waits; else that is refused
abbrev pub state_cancelled : ℕ → CallState → World → Performed × World
state_cancelled number (call_state.Waiting what) w = (Done, waiting_cancelled number what w)
state_cancelled number call_state.Called w = (Raised was_called, w)
state_cancelled number call_state.Cancelled w = (Raised was_cancelled, w)
state_cancelled number call_state.Dropped w = (Raised was_cancelled, w)

-- the call that is found is cancelled; a number of no call changes nothing
abbrev pub call_cancelled : ℕ → Option Call → World → Performed × World
call_cancelled number None w = (Done, w)
call_cancelled number (Some call) w = state_cancelled number call.state w

-- a delayed call is cancelled; in a stopped run nothing is
unfoldable pub cancel_call : ℕ → World → Performed × World
cancel_call number w = if w.stopped then (Done, w) else call_cancelled number (slice_get w.objects.clock.calls number) w

-- a delayed call of the script that waits gets a delay anew, no longer than calls are delayed by; what else waits is
-- left alone
abbrev pub waiting_reset : ℕ → DelayFrom → ℕ → ℕ → Due → World → World
waiting_reset number from delay due (what.Call name key) w =
    let new = new_due from (min delay MOST_DELAY) due w.objects.clock.time in
    aside (entry.Reset name new) (with_moved_call number new) w
waiting_reset number from delay due (what.Turn name key) w = w
waiting_reset number from delay due what.Tick w = w
waiting_reset number from delay due (what.TickIn name key) w = w
waiting_reset number from delay due (what.Delivery job key) w = w
waiting_reset number from delay due (what.Timeout d) w = w

-- a call gets a delay anew while it waits; else that is refused
abbrev pub state_reset : ℕ → DelayFrom → ℕ → ℕ → CallState → World → Performed × World
state_reset number from delay due (call_state.Waiting what) w = (Done, waiting_reset number from delay due what w)
state_reset number from delay due call_state.Called w = (Raised was_called, w)
state_reset number from delay due call_state.Cancelled w = (Raised was_cancelled, w)
state_reset number from delay due call_state.Dropped w = (Raised was_cancelled, w)

-- the call that is found gets a delay anew; a number of no call changes nothing
abbrev pub call_reset : ℕ → DelayFrom → ℕ → Option Call → World → Performed × World
call_reset number from delay None w = (Done, w)
call_reset number from delay (Some call) w = state_reset number from delay call.due call.state w

-- a delayed call gets a delay anew; in a stopped run none does
unfoldable pub reset_call : ℕ → DelayFrom → ℕ → World → Performed × World
reset_call number from delay w =
    if w.stopped then (Done, w) else call_reset number from delay (slice_get w.objects.clock.calls number) w

-- the next turn of the loop that is found is scheduled; an id of no loop changes nothing
abbrev pub turn_scheduled : ℕ → Option LoopingCall → World → World
turn_scheduled l None w = w
turn_scheduled l (Some x) w = aside (entry.LaterLoop x.name (next_due x w.objects.clock)) (with_turn l x) w

abbrev pub schedule_turn : ℕ → World → World
schedule_turn l w = turn_scheduled l (slice_get w.objects.loops l) w

-- a turn of a loop has begun, which isn't logged: from now on its next turn performs the next of its bodies
abbrev pub begin_turn : ℕ → World → World
begin_turn l w = arrange (λ objects. with_turn_begun l (slice_get objects.loops l) objects) w

-- the loop that is found is stopped, and its next turn, where it is scheduled, is dropped
abbrev pub loop_stopped : ℕ → Option LoopingCall → World → World
loop_stopped l None w = w
loop_stopped l (Some x) w = aside (entry.Stop x.name) (with_stopped l x) w

abbrev pub stop_loop : ℕ → World → World
stop_loop l w = loop_stopped l (slice_get w.objects.loops l) w

-- a loop runs no more, which isn't logged
abbrev pub end_loop : ℕ → World → World
end_loop l w = arrange (λ objects. with_ended l (slice_get objects.loops l) objects) w

-- what the stopping of a loop raises that doesn't run
abbrev pub not_running : Failure
not_running = plain_failure assertion_error (codes "not running")

-- the Cooperator that the script names so
abbrev pub cooperator_at : List ℕ → World → Option ℕ
cooperator_at name w = cooperator_named name w.objects.cooperators

-- the Cooperator of a number
abbrev pub cooperator_of : ℕ → World → Option Cooperator
cooperator_of k w = slice_get w.objects.cooperators.all k

-- a task is made in the Cooperator that each script has, and takes turns in it
abbrev pub new_task : List ℕ → List Body → World → World
new_task name bodies w = aside (entry.Task name) (cooperating (with_new_task 0 name bodies)) w

-- the same in a Cooperator that the script names
abbrev pub new_task_in : ℕ → List ℕ → List ℕ → List Body → World → World
new_task_in k name of bodies w = aside (entry.TaskIn name of) (cooperating (with_new_task k name bodies)) w

-- each tick of the Cooperator that each script has takes so many steps from the next one on
abbrev pub set_units : ℕ → World → World
set_units units w = aside (entry.Units units) (cooperating (changed 0 (with_units units))) w

-- the same of a Cooperator that the script names
abbrev pub set_units_in : ℕ → List ℕ → ℕ → World → World
set_units_in k name units w = aside (entry.UnitsIn name units) (cooperating (changed k (with_units units))) w

-- a Cooperator that the script names is stopped
abbrev pub halt : ℕ → List ℕ → World → World
halt k name w = aside (entry.StopCooperator name) (cooperating (changed k halted)) w

-- the task that is found changes, which its entry logs; an id of no task changes nothing
abbrev pub task_told : (Task → Entry) → (Task → Cooperators → Cooperators) → Option Task → World → World
task_told entry change None w = w
task_told entry change (Some x) w = aside (entry x) (cooperating (change x)) w

-- a task is paused once more
abbrev pub pause_task : ℕ → World → World
pause_task t w = task_told (λ x. entry.PauseTask x.name) (with_pause t) (slice_get w.objects.cooperators.tasks t) w

-- and once less
abbrev pub resume_task : ℕ → World → World
resume_task t w = task_told (λ x. entry.ResumeTask x.name) (with_resume t) (slice_get w.objects.cooperators.tasks t) w

-- a task is paused until e is fired
abbrev pub hold_task : ℕ → ℕ → World → World
hold_task t e w = task_told (λ x. entry.Hold x.name e) (with_pause t) (slice_get w.objects.cooperators.tasks t) w

-- d waits for the end of a task, unless that has ended
abbrev pub await_task : ℕ → ℕ → World → World
await_task t d w =
    task_told (λ x. entry.WhenDone x.name d) (with_waiting t d) (slice_get w.objects.cooperators.tasks t) w

-- the task that is found takes the next step, and is returned with its next body
abbrev pub step_taken : ℕ → Option Task → World → Option (ℕ × Option Body) × World
step_taken t None w = (None, w)
step_taken t (Some x) w =
    unless_stopped (Some (t, slice_get x.bodies 0)) (aside (entry.Step x.name) (cooperating (with_step t x)) w)

-- the task whose turn it is in a Cooperator takes the next step; where nobody takes turns, the next turn is that of the
-- first that joins
abbrev pub turn_taken : ℕ → Option ℕ → World → Option (ℕ × Option Body) × World
turn_taken k None w = (None, arrange (cooperating (with_next_turn k)) w)
turn_taken k (Some t) w = step_taken t (slice_get w.objects.cooperators.tasks t) w

abbrev pub take_step : ℕ → World → Option (ℕ × Option Body) × World
take_step k w = turn_taken k (turn_in (cooperator_of k w)) w

-- these, unless the run has stopped
abbrev pub all_unless_stopped : List ℕ → World → List ℕ × World
all_unless_stopped ds w = (if w.stopped then [] else ds, w)

-- the task that is found ends, and the waiters for that are returned
abbrev pub task_ended : ℕ → TaskEnd → Option Task → World → List ℕ × World
task_ended t end None w = ([], w)
task_ended t end (Some x) w =
    all_unless_stopped x.waiting (aside (entry.End x.name (result_of x.name end)) (cooperating (with_end t end x)) w)

-- a task ends, unless it has ended
abbrev pub end_task : ℕ → TaskEnd → World → List ℕ × World
end_task t end w = task_ended t end (unended (slice_get w.objects.cooperators.tasks t)) w

-- the next tick of a Cooperator is scheduled
abbrev pub schedule_tick : ℕ → Cooperator → World → World
schedule_tick k c w =
    let due = w.objects.clock.time + c.delay in
    aside (scheduling (tick_of c.name k) due) (with_tick k (tick_of c.name k) due) w

-- a tick of a Cooperator is dropped, where there is one
abbrev pub tick_dropped : ℕ → Option ℕ → World → World
tick_dropped k None w = w
tick_dropped k (Some number) w = arrange (without_tick k number) w

-- of the Cooperator that is found
abbrev pub tick_kept : ℕ → Option Cooperator → World → World
tick_kept k None w = w
tick_kept k (Some c) w = if wants_tick c then schedule_tick k c w else tick_dropped k (idle_tick c) w

-- outside of ticks of a Cooperator, one is scheduled while a task takes turns in it, and none while none does
abbrev pub keep_tick : ℕ → World → World
keep_tick k w = tick_kept k (cooperator_of k w) w

-- a task has joined the Cooperator that is found
abbrev pub tick_wanted : ℕ → Option Cooperator → World → World
tick_wanted k None w = w
tick_wanted k (Some c) w = if wants_tick_at_once c then schedule_tick k c w else w

-- after a task has joined a Cooperator its next tick is scheduled, unless one is, or one is under way; by Twisted's
-- rule also while one is under way
abbrev pub want_tick : ℕ → World → World
want_tick k w = tick_wanted k (cooperator_of k w) w

-- a tick of a Cooperator is under way, or none is any more
abbrev pub begin_tick : ℕ → World → World
begin_tick k w = arrange (cooperating (changed k (λ c. record c { tick = None; ticking = true }))) w

abbrev pub end_tick : ℕ → World → World
end_tick k w = arrange (cooperating (changed k (λ c. record c { ticking = false }))) w

-- what the resuming of a task raises that isn't paused
abbrev pub not_paused : Failure
not_paused = plain_failure paused_not []

-- an inline body is made, which waits for nothing, and isn't logged
abbrev pub add_inline : World → World
add_inline w = arrange with_new_inline w

-- the inline body of d is to await e
abbrev pub begin_await : Inline → ℕ → World → World
begin_await i e w = aside (entry.Await i.of e) (inlining (now_waiting i.id Adding)) w

-- the result that an inline body awaits arrives; the body is returned with it, if it goes on now
unfoldable pub resume_inline : ℕ → Value → World → Option (Position × Value) × World
resume_inline i v w =
    if w.stopped then (None, w) else let t = resume_at i v w.objects.inlines in
    (t.0, arrange (inlining (λ inlines. t.1)) w)

-- the pair has been added by which an inline body awaits e; the body is returned with what arrived meanwhile, or else
-- it awaits from now on
unfoldable pub end_await : ℕ → ℕ → Position → World → Option (Position × Value) × World
end_await i e p w =
    if w.stopped then (None, w) else let t = end_adding i e p w.objects.inlines in
    (t.0, arrange (inlining (λ inlines. t.1)) w)

-- what an inline body awaits
abbrev pub awaited_in : ℕ → World → Option ℕ
awaited_in i w = awaited_by i w.objects.inlines
