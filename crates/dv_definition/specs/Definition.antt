-- What a script means: a rule for each action, in the order of docs/SCRIPT.md. `step next rule` is read "the step, and
-- then the rule"; `rule after_which called`, "the rule, and after it these"; `word λ x. rule`, "with the word's x, the
-- rule". A step logs its entry, if it has one, and then makes its change (`Steps`). What else rules are made of is in
-- `Rule` and, with sections 1 to 4, in `Words`.
use Rattle.std.specs.Prelude.{ℕ, zero, suc, ◌+◌, ◌-◌, ◌*◌, ◌/◌, min, nat_eq, nat_lt, Bool, false, not, ◌&&◌, ◌||◌}
use Rattle.std.specs.Prelude.{if◌then◌else◌, List, [], ◌∷◌, length, take}
use Rattle.std.specs.Prelude.{Option, None, Some, is_none, is_some, option_and_then, slice_get, slice_set}
use Rattle.std.specs.List.{list_any}
use Rattle.std.specs.Option.{option_map}
use Rattle.std.specs.Ordering.{is_gt, nat_cmp, ordering_then}
use Rattle.std.specs.Set.{remove_key}
use Rattle.dv_clock.specs.Clock.{Clock, Upcoming, upcoming}
use Rattle.dv_clock.specs.Turns.{Turns}
use Rattle.dv_clock.specs.declared.call.Call.{Call}
use Rattle.dv_clock.specs.declared.delay_from.DelayFrom.TheVariants as delay_from
use Rattle.dv_clock.specs.declared.due.Due.{Due}
use Rattle.dv_clock.specs.declared.due.Due.TheVariants as what
use Rattle.dv_definition.specs.Flags.{list_flags, gather_flags}
use Rattle.dv_definition.specs.Rule.{Rule, Ends, By, If, Finds, Asks, Fires, Unpauses, settles, found, ◌next◌}
use Rattle.dv_definition.specs.Rule.{◌after_which◌}
use Rattle.dv_definition.specs.Steps.{Step, Make, Name, Append, FireThenSwallow, Pause, Note, TellTurn, NewLock}
use Rattle.dv_definition.specs.Steps.{NewSemaphore, Ask, Release, Forget, NewQueue, Withdraw, NewList, StartTimer}
use Rattle.dv_definition.specs.Steps.{EndTimer, CallLater, NewLoop, BeginTurn, ScheduleTurn, StopLoop, EndLoop, NewTask}
use Rattle.dv_definition.specs.Steps.{NewTaskIn}
use Rattle.dv_definition.specs.Steps.{AwaitTask, SetUnitsIn, Halt}
use Rattle.dv_definition.specs.Steps.{PauseTask, ResumeTask, HoldTask, SetUnits, KeepTick, WantTick, BeginTick, EndTick}
use Rattle.dv_definition.specs.Steps.{AddInline, BeginBody, BeginAwait, Submit, DeliverLater, Put, PutDeferred, TakeDue}
use Rattle.dv_definition.specs.Steps.{Moves, Cancel, PutInto, GetFrom, ChildFired, CancelCall, ResetCall, TakeStep}
use Rattle.dv_definition.specs.Steps.{EndTask, ResumeInline, EndAwait}
use Rattle.dv_definition.specs.Words.{finished, give, raise, give_end, ◌and◌, calls, places, performs, goes_through}
use Rattle.dv_definition.specs.Words.{cancels, ends_canceller, makes_deferred, adds, gives, notifies, ends_step}
use Rattle.dv_definition.specs.Words.{takes_steps, goes_on, goes_on_with_answer, awaits, tells_failure, runs_due}
use Rattle.dv_definition.specs.Words.{next_deferred, next_list, next_loop, next_call, next_inline_body, next_job}
use Rattle.dv_definition.specs.Words.{the_lock, the_queue, the_loop, the_task, the_job, the_body, what_is_awaited}
use Rattle.dv_definition.specs.Words.{its_value, all_jobs, the_clock, all_classes, classes_and_ends, its_time_is_over}
use Rattle.dv_definition.specs.Words.{halts, next_task}
use Rattle.dv_definition.specs.Words.{the_cooperator, on_cooperator}
use Rattle.dv_definition.specs.Words.{if_unfired, if_over, fire_if, fire_with}
use Rattle.dv_definition.specs.Words.{deferred_or, on_deferred, on_all, on_lock, on_queue, on_call, on_loop, on_task}
use Rattle.dv_frames.specs.declared.frame.Frame.{Frame}
use Rattle.dv_frames.specs.declared.frame.Purpose.{Purpose}
use Rattle.dv_frames.specs.declared.frame.Purpose.TheVariants.{Named, Holding, Turning}
use Rattle.dv_inline.specs.Position.{Position, started, answered, run_to_request, request_at}
use Rattle.dv_inline.specs.declared.open.Inside.{Inside}
use Rattle.dv_inline.specs.declared.open.Inside.TheVariants as inside
use Rattle.dv_inline.specs.declared.open.Onward.TheVariants as onward
use Rattle.dv_inline.specs.declared.open.Open.{Open}
use Rattle.dv_inline.specs.declared.request.Request.{Request}
use Rattle.dv_inline.specs.declared.request.Request.TheVariants.{Do, Await}
use Rattle.dv_jobs.specs.Works.{value_of as work_value}
use Rattle.dv_objects.specs.Cooperator.{result_of, how_ended, takes_turns_again}
use Rattle.dv_objects.specs.Looping.{is_scheduled}
use Rattle.dv_objects.specs.Pair.{Pair, callback, errback, both, chain, reporting, results, holding, releasing, turning}
use Rattle.dv_objects.specs.Pair.{resuming, continuing, watching, ending, side_for}
use Rattle.dv_objects.specs.Performed.{failed_with}
use Rattle.dv_objects.specs.Refusals.{cancelled, not_held, overflow, underflow, not_gathered}
use Rattle.dv_objects.specs.Timed.{timed}
use Rattle.dv_objects.specs.Works.{is_full}
use Rattle.dv_objects.specs.declared.canceller.Canceller.{Canceller}
use Rattle.dv_objects.specs.declared.canceller.Canceller.TheVariants as canceller
use Rattle.dv_objects.specs.declared.inline_id.Inline.{Inline}
use Rattle.dv_objects.specs.declared.looping_call.LoopingCall.{LoopingCall}
use Rattle.dv_objects.specs.declared.pair.Child.{Child}
use Rattle.dv_objects.specs.declared.pair.Side.{Side}
use Rattle.dv_objects.specs.declared.pair.Side.TheVariants as side
use Rattle.dv_objects.specs.declared.performed.Performed.{Performed}
use Rattle.dv_objects.specs.declared.performed.Performed.TheVariants.{Done, Gave, Raised, Awaits}
use Rattle.dv_objects.specs.declared.reached.Reached.{Reached}
use Rattle.dv_objects.specs.declared.reached.Reached.TheVariants as reached
use Rattle.dv_objects.specs.declared.task.TaskEnd.{TaskEnd}
use Rattle.dv_objects.specs.declared.task.TaskEnd.TheVariants.{Finished, Stopped, Halted, Failed}
use Rattle.dv_prims.specs.DeferredList.{Gather, count_missing, first_failure, first_success, kept_of, seconds_of}
use Rattle.dv_prims.specs.DeferredList.{succeeded}
use Rattle.dv_prims.specs.Queue.{may_put, may_get}
use Rattle.dv_prims.specs.Tokens.{has_free, is_unheld, first_waiting}
use Rattle.dv_prims.specs.declared.gather.Flags.{Flags}
use Rattle.dv_script.specs.declared.turn_rule.TurnRule.{TurnRule}
use Rattle.dv_script.specs.declared.turn_rule.TurnRule.TheVariants.{Earlier, Fair, Twisted}
use Rattle.dv_script.specs.declared.action.Action.{Action, out-Action}
use Rattle.dv_script.specs.declared.action.Action.TheOpen.{Action-F}
use Rattle.dv_script.specs.declared.body.Body.{Body}
use Rattle.dv_script.specs.declared.body.End.{End}
use Rattle.dv_script.specs.declared.body.End.TheVariants as end
use Rattle.dv_script.specs.declared.body.Statement.{Statement}
use Rattle.dv_script.specs.declared.script.NamedBody.{NamedBody}
use Rattle.dv_script.specs.declared.work.Work.{Work}
use Rattle.dv_store.specs.declared.record.Record.{Record}
use Rattle.dv_store.specs.declared.store.Step.{Step as Move}
use Rattle.dv_store.specs.declared.store.Step.TheVariants.{Nothing, Passed, Run, Handed}
use Rattle.dv_value.specs.Builtin.{name_error}
use Rattle.dv_value.specs.Classes.{check}
use Rattle.dv_value.specs.Failure.{class_of, fault, failure_in, is_fault}
use Rattle.dv_value.specs.declared.classes.Class.{Class}
use Rattle.dv_value.specs.declared.failure.Failure.{Failure}
use Rattle.dv_value.specs.declared.value.Value.{Value, Null, Fault, Text}
use Rattle.dv_value.specs.declared.value.Value.TheVariants as value
use Rattle.dv_world.specs.World.{World, body_named, not_paused, not_running, too_many_jobs}

-- 5. Deferreds. How one is fired and unpaused stands in `Rule`: `fires` and `unpauses`.

-- adds a pair to d, and settles d (Twisted: `Deferred.addCallbacks`)
abbrev pub add : ℕ → Pair → Rule
add d pair = Append d pair next calls (settles d)

-- 6. Cancelling (Twisted: `Deferred.cancel`).

-- after the canceller of d: raises its failure to the caller of the cancel; else fires d with CancelledError, if d is
-- unfired
abbrev pub after_canceller : ℕ → Performed → Rule
after_canceller d p = Finds (failed_with p) (if_unfired d (Fires d cancelled) finished) λ failure. raise failure

-- cancels the children of a list in order, and logs as unhandled what the cancel of a child raises (Twisted:
-- `DeferredList.cancel`)
abbrev pub cancel_children : List ℕ → List Frame
cancel_children [] = []
cancel_children (c ∷ cs) = cancels c and tells_failure and cancel_children cs

-- the Deferred that d waits for
abbrev pub waited_for : ℕ → World → Option ℕ
waited_for d w = option_and_then (λ r. r.waits_for) (slice_get w.records d)

-- follows the waits from d to the first Deferred that waits for none. In a circle there is none; `most` bounds the
-- steps
unfoldable pub end_of_waiting : ℕ → ℕ → World → Option ℕ
end_of_waiting zero d w = None
end_of_waiting (suc most) d w = found (waited_for d w) (Some d) λ e. end_of_waiting most e w

-- what a cancel reaches at an unfired Deferred, which its canceller decides
abbrev pub reached_by : ℕ → Option Canceller → Reached
reached_by d None = reached.Fire d
reached_by d (Some (canceller.Body body)) = reached.Run d body
reached_by d (Some (canceller.Token l)) = reached.ForToken d l
reached_by d (Some (canceller.Item k)) = reached.ForItem d k
reached_by d (Some (canceller.Children children)) = reached.Children children
reached_by d (Some (canceller.Inline i)) = reached.Inline i

-- what a cancel of d reaches: the one at the end of the waiting, unless it is fired; nothing in a circle. The step
-- `Cancel` returns this (Twisted: `Deferred.cancel`, but `circle-of-waits`, `cancel-of-a-fired-list`)
abbrev pub whom_reaches : ℕ → World → Reached
whom_reaches d w =
    found (end_of_waiting (length w.records + 1) d w) reached.Nothing λ e.
    found (slice_get w.records e) reached.Nothing λ r.
    if r.fired then reached.Nothing else reached_by e r.canceller

-- by what a cancel reaches. Nothing: nothing happens. One without a canceller is fired with CancelledError, and its
-- next firing is swallowed. One with a canceller of the script: that is performed. One that waits for a token, or for a
-- value of a queue, waits no longer, and is fired with CancelledError. A list: its children are cancelled. An inline
-- body: what it awaits is cancelled (Twisted: `Deferred.cancel`, but `cancelled-inline`, `cancelled-running-inline`)
abbrev pub cancel_reached : Reached → Rule
cancel_reached reached.Nothing = finished
cancel_reached (reached.Fire d) = FireThenSwallow d next calls (settles d)
cancel_reached (reached.Run d body) = calls (performs (Some d) body Null and ends_canceller d)
cancel_reached (reached.ForToken d l) = Forget l d next Fires d cancelled
cancel_reached (reached.ForItem d k) = Withdraw k d next Fires d cancelled
cancel_reached (reached.Children children) = calls (cancel_children children)
cancel_reached (reached.Inline i) = what_is_awaited i λ e. calls (cancels e)

-- logs the cancel of d, and cancels what it reaches
abbrev pub cancel : ℕ → Rule
cancel d = Asks (Cancel d) cancel_reached

-- 7. Locks and semaphores (Twisted: `DeferredLock`, `DeferredSemaphore`).

-- fires the Deferred that got a token with the name of its lock
abbrev pub grant : Option ℕ → List ℕ → Rule
grant who name = Finds who finished λ d. Fires d (Text name)

-- d asks a lock for a token, and gets it if one is free; else it waits. The lock is looked at before it is asked
abbrev pub ask_lock : ℕ → ℕ → Rule
ask_lock l d =
    the_lock l λ s.
    Ask l d next
    grant (if has_free s then Some d else None) s.name

-- makes a Deferred that asks a lock for a token
abbrev pub acquire : List ℕ → ℕ → Rule
acquire name l =
    next_deferred λ d.
    Make (Some name) (Some (canceller.Token l)) next
    ask_lock l d

-- raises AssertionError if no token is held. Else releases one, and the first that waits gets it
abbrev pub release : ℕ → Rule
release l =
    the_lock l λ s.
    If (is_unheld s) (raise not_held) (Release l next grant (first_waiting s) s.name)

-- 8. Queues (Twisted: `DeferredQueue`).

-- fires the Deferred that got a value with it
abbrev pub hand_out : Option (ℕ × Value) → Rule
hand_out who = Finds who finished λ (d, v). Fires d v

-- raises QueueOverflow if a queue is full and none waits. Else puts a value into it, and the first that waits is fired
-- with it
abbrev pub put_in : ℕ → Value → Rule
put_in k v =
    the_queue k λ q.
    If (not (may_put q)) (raise overflow) (Asks (PutInto k v) hand_out)

-- d asks a queue for a value, and is fired with the oldest that is stored; else it waits
abbrev pub ask_queue : ℕ → ℕ → Rule
ask_queue k d = Asks (GetFrom k d) λ got. fire_with d got

-- raises QueueUnderflow if as many wait for a value as may. Else makes a Deferred that asks a queue for a value
abbrev pub get_out : List ℕ → ℕ → Rule
get_out name k =
    next_deferred λ d.
    the_queue k λ q.
    If (not (may_get q)) (raise underflow) (Make (Some name) (Some (canceller.Item k)) next ask_queue k d)

-- 9. Bodies whose result is a Deferred (Twisted: `maybeDeferred`).

-- the name of the Deferred that is made for this
abbrev pub name_for : Purpose → Option (List ℕ)
name_for (Named name) = Some name
name_for (Holding l) = None
name_for (Turning l) = None

-- what it is used for. By a name: nothing more. With a token: that is released once d has a result, and d is returned.
-- In a turn: the loop goes on or ends once d has a result
abbrev pub used_for : Purpose → ℕ → List Frame
used_for (Named name) d = []
used_for (Holding l) d = adds d (releasing l) and gives (Awaits d)
used_for (Turning l) d = adds d (turning l)

-- makes a Deferred, fires it with a value, and uses it for this
abbrev pub made_with : Purpose → Value → Rule
made_with purpose v =
    next_deferred λ d.
    Make (name_for purpose) None next
    Fires d v after_which used_for purpose d

-- a body gave a Deferred: that gets the name, or is used as it is
abbrev pub taken_for : Purpose → ℕ → Rule
taken_for (Named name) e = Name e name next finished
taken_for (Holding l) e = calls (used_for (Holding l) e)
taken_for (Turning l) e = calls (used_for (Turning l) e)

-- by what a body gave. Nothing: a new Deferred, fired with null. A value or a failure: a new one, fired with that. A
-- Deferred: that one
abbrev pub deferred_of : Purpose → Performed → Rule
deferred_of purpose Done = made_with purpose Null
deferred_of purpose (Gave v) = made_with purpose v
deferred_of purpose (Raised failure) = made_with purpose (Fault failure)
deferred_of purpose (Awaits e) = taken_for purpose e

-- performs a body, in which `@` isn't bound; what it returns becomes a Deferred for this
abbrev pub as_deferred : Purpose → Body → Rule
as_deferred purpose body = calls (performs None body Null and makes_deferred purpose)

-- performs a body; what it returns becomes a Deferred of this name
abbrev pub maybe : List ℕ → Body → Rule
maybe name body = as_deferred (Named name) body

-- 10. Bodies with a token (Twisted: `DeferredLock.run`, `DeferredSemaphore.run`).

-- makes a Deferred that asks a lock for a token, and adds a pair to it that performs a body with the token
abbrev pub run_with : List ℕ → ℕ → Body → Rule
run_with name l body = next_deferred λ d. acquire name l after_which adds d (holding l body)

-- performs a body with a token. What it returns becomes a Deferred, and once that has a result, the token is released
abbrev pub hold : ℕ → Body → Rule
hold l body = as_deferred (Holding l) body

-- 11. Lists (Twisted: `DeferredList`, `gatherResults`).

-- adds to each child, in order, the pair that reports to list l, whose Deferred is d
abbrev pub add_children : ℕ → ℕ → ℕ → List ℕ → List Frame
add_children l d i [] = []
add_children l d i (c ∷ cs) =
    adds c (reporting (record { list = l; place = i; of = d })) and add_children l d (1 + i) cs

-- whether a list fires at once: it has no children, and no `fireOnOneCallback`
abbrev pub has_all_at_once : List ℕ → Flags → Bool
has_all_at_once [] flags = not flags.fire_on_one_callback
has_all_at_once (c ∷ cs) flags = false

-- fires the list at once where that is due, and adds the pairs of its children
abbrev pub list_begun : ℕ → ℕ → List ℕ → Flags → Rule
list_begun l d children flags =
    fire_if (has_all_at_once children flags) d (value.List []) after_which add_children l d 0 children

-- makes a list of children
abbrev pub list : List ℕ → List ℕ → Flags → Rule
list name children flags =
    next_list λ l.
    next_deferred λ d.
    NewList (length children) flags next
    Make (Some name) (Some (canceller.Children children)) next
    list_begun l d children flags

-- makes a list, whose result becomes what its children gave, without whether they succeeded
abbrev pub gather : List ℕ → List ℕ → Flags → Rule
gather name children flags = next_deferred λ d. list name children flags after_which adds d results

-- what a list is fired with once all of its children were fired: what was kept of each, in order
abbrev pub all_fired : List Value → Option Value
all_fired places = if nat_eq (count_missing places) 0 then Some (value.List places) else None

-- what a list is fired with when child i is fired with v, if it is. A list that is fired fires nothing more. Under
-- `fireOnOneCallback` a success fires it, with its place; under `fireOnOneErrback` a failure does, in a FirstError;
-- else the last child does. What is kept of a child is whether it succeeded, and its value. The step `ChildFired`
-- returns this
abbrev pub list_fires_with : ℕ → Value → Gather → Option Value
list_fires_with i v g =
    if g.fired then None else
    if g.flags.fire_on_one_callback && succeeded v then Some (first_success i v) else
    found (if g.flags.fire_on_one_errback then failure_in v else None)
    (all_fired (slice_set g.places i (kept_of v))) λ failure.
    Some (first_failure i failure)

-- fires the Deferred of a list with what is due, if something is, unless it is fired already
abbrev pub fire_list : ℕ → Option Value → Rule
fire_list d due = Finds due finished λ v. if_unfired d (Fires d v) finished

-- reports the result of a child to its list, which is fired with what is due. The child keeps its result; under
-- `consumeErrors` a failure becomes null
abbrev pub report : Child → Value → Rule
report child input =
    Asks (ChildFired child.list child.place input) λ answer.
    fire_list child.of answer.fire after_which gives (Gave answer.pass)

-- gives what the children gave, from the result of their list; raises TypeError if that isn't such a result (Twisted:
-- `gatherResults`, but `gather-fired-by-hand`)
abbrev pub give_gathered : Value → Rule
give_gathered input = Finds (seconds_of input) (raise not_gathered) give

-- 12. Time-outs (Twisted: `Deferred.addTimeout`).

-- starts a timer, and adds two pairs to d. After so many ticks d is cancelled, unless the second of these pairs has run
-- by then. The first turns a failure of CancelledError, or of a class below it, into TimeoutError if the timer has
-- expired; with a body it runs that instead, on any input. The second ends the timer
abbrev pub add_timeout : ℕ → ℕ → Option Body → Rule
add_timeout d delay body =
    next_call λ t.
    StartTimer d delay next
    add d (watching t body) after_which adds d (ending t)

-- 13. Loops (Twisted: `LoopingCall`).

-- when the next turn of a loop is due: at the first time after now that is a whole number of intervals after its start.
-- The step `ScheduleTurn` schedules it then
abbrev pub next_turn_at : LoopingCall → Clock → ℕ
next_turn_at x c = let start = min x.start c.time in start + ((c.time - start) / x.interval + 1) * x.interval

-- a turn: performs the body; the loop goes on or ends once the Deferred of what it gave has a result
abbrev pub turn : ℕ → Body → Rule
turn l body = as_deferred (Turning l) body

-- takes the first turn of a loop at once. `BeginTurn` has the turn after it perform the next of its bodies, where one
-- is left; else that performs the same body again
abbrev pub first_turn : List ℕ → ℕ → Body → Rule
first_turn name l body =
    TellTurn name next
    BeginTurn l next
    turn l body

-- makes a loop whose Deferred is d; its first turn is taken at once, or scheduled
abbrev pub begin_loop : List ℕ → ℕ → ℕ → Bool → Body → List Body → Rule
begin_loop name d interval at_once body bodies =
    next_loop λ l.
    NewLoop name d interval body bodies next
    If at_once (first_turn name l body) (ScheduleTurn l next finished)

-- makes a loop with its Deferred (Twisted: `LoopingCall.start`). Its first turn performs the body, those after it
-- perform the bodies that are listed, one each, and the last of them stays
abbrev pub loop : List ℕ → List ℕ → ℕ → Bool → Body → List Body → Rule
loop name of interval at_once body bodies =
    next_deferred λ d.
    Make (Some of) None next
    begin_loop name d interval at_once body bodies

-- takes the turn of a loop that is due
abbrev pub take_turn : ℕ → Rule
take_turn l =
    the_loop l λ x.
    BeginTurn l next turn l x.body

-- a turn has ended: schedules the next if the loop runs; else fires its Deferred with its name (Twisted: `LoopingCall`,
-- but `loop-fired-by-hand`)
abbrev pub end_turn : ℕ → Rule
end_turn l =
    the_loop l λ x.
    If x.running (ScheduleTurn l next finished) (Fires x.of (Text x.name))

-- a turn has failed: ends the loop, and fires its Deferred with the failure
abbrev pub fail_turn : ℕ → Value → Rule
fail_turn l failure =
    EndLoop l next
    the_loop l λ x.
    Fires x.of failure

-- raises AssertionError if the loop isn't running. Else stops it, and fires its Deferred at once if a turn was
-- scheduled; if a turn is under way, the end of that turn fires it (Twisted: `LoopingCall.stop`)
abbrev pub stop_loop : ℕ → Rule
stop_loop l =
    the_loop l λ x.
    the_clock λ clock.
    If (not x.running) (raise not_running) (StopLoop l next fire_if (is_scheduled x clock) x.of (Text x.name))

-- 14. Tasks of Cooperators (Twisted: `Cooperator`, `CooperativeTask`). The Cooperator that each script has is number 0.

-- fires d with how a task ended, if it has ended
abbrev pub notify : ℕ → ℕ → Rule
notify d t =
    the_task t λ x.
    Finds x.end finished λ end.
    Fires d (result_of x.name end)

-- fires all that wait for the end of a task, in order, and logs AlreadyCalledError as unhandled (Twisted:
-- `CooperativeTask`, but `refused-when-done`)
abbrev pub notify_all : ℕ → List ℕ → List Frame
notify_all t [] = []
notify_all t (d ∷ ds) = notifies d t and tells_failure and notify_all t ds

-- ends a task, unless it has ended, and fires the waiters for its end. `KeepTick` has the next tick of its Cooperator
-- scheduled while a task takes turns there, and no tick while none does; while a tick is under way it schedules none
abbrev pub end_task : ℕ → TaskEnd → Rule
end_task t end =
    the_task t λ x.
    Asks (EndTask t end) λ waiting. KeepTick x.of next calls (notify_all t waiting)

-- ends a task with SchedulerStopped, unless it is paused or has ended
abbrev pub halt_task : ℕ → Rule
halt_task t = the_task t λ x. If (nat_eq x.pauses 0) (end_task t Halted) finished

-- after a task has joined a Cooperator: it takes turns there; in one that was stopped it ends. `WantTick` has the next
-- tick scheduled, unless one is, or one is under way; by Twisted's rule also while one is under way
abbrev pub joined_in : ℕ → ℕ → Rule
joined_in k t = the_cooperator k λ c. If c.stopped (halt_task t) (WantTick k next finished)

-- makes a task in a Cooperator that the script names (Twisted: `Cooperator.cooperate`)
abbrev pub cooperate_in : ℕ → List ℕ → List ℕ → List Body → Rule
cooperate_in k name of bodies =
    next_task λ t.
    NewTaskIn k name of bodies next
    joined_in k t

-- ends each of these tasks, in order, since their Cooperator was stopped
abbrev pub halt_all : List ℕ → List Frame
halt_all [] = []
halt_all (t ∷ ts) = halts t and halt_all ts

-- stops a Cooperator that the script names, and ends its tasks that take turns (Twisted: `Cooperator.stop`, but
-- `task-left-by-stop`)
abbrev pub stop_cooperator : List ℕ → ℕ → Rule
stop_cooperator name k =
    the_cooperator k λ c.
    Halt k name next
    calls (halt_all c.turns.tasks)

-- makes a Deferred that is fired when a task ends, at once if it has ended (Twisted: `CooperativeTask.whenDone`)
abbrev pub when_done : List ℕ → ℕ → Rule
when_done name t =
    next_deferred λ d.
    Make (Some name) None next
    AwaitTask t d next
    notify d t

-- raises TaskDone, TaskStopped, TaskFailed or SchedulerStopped if a task has ended. Else pauses it (Twisted:
-- `CooperativeTask.pause`)
abbrev pub pause_task : ℕ → Rule
pause_task t =
    the_task t λ x.
    Finds x.end (PauseTask t next KeepTick x.of next finished) λ end.
    raise (how_ended end)

-- raises TaskDone, TaskStopped, TaskFailed or SchedulerStopped if a task has ended. Else stops it (Twisted:
-- `CooperativeTask.stop`)
abbrev pub stop_task : ℕ → Rule
stop_task t =
    the_task t λ x.
    Finds x.end (end_task t Stopped) λ end.
    raise (how_ended end)

-- raises NotPaused if a task isn't paused. Else resumes it; once it isn't paused any more, it joins its Cooperator,
-- unless it has ended (Twisted: `CooperativeTask.resume`)
abbrev pub resume_task : ℕ → Rule
resume_task t =
    the_task t λ x.
    If (nat_eq x.pauses 0) (raise not_paused)
    (ResumeTask t next If (takes_turns_again x) (joined_in x.of t) finished)

-- the Deferred that a task waited for has a value: resumes the task, unless it has ended (Twisted: `CooperativeTask`,
-- but `hold-on-an-ended-task`)
abbrev pub resume_held : ℕ → Rule
resume_held t = if_over t finished (resume_task t)

-- ends a task with a failure, if there is one
abbrev pub fail_task : ℕ → Option Failure → Rule
fail_task t failed = Finds failed finished λ failure. end_task t (Failed failure)

-- after a step of a task: waits for a Deferred, ends the task with a failure, and drops all else that the step gave
abbrev pub after_step : ℕ → Performed → Rule
after_step t Done = finished
after_step t (Gave v) = fail_task t (failure_in v)
after_step t (Raised failure) = end_task t (Failed failure)
after_step t (Awaits e) = the_task t λ x. HoldTask t e next KeepTick x.of next calls (adds e (resuming t))

-- the same, unless the task has ended meanwhile (Twisted: `CooperativeTask`, but `task-ended-twice`)
abbrev pub step_ended : ℕ → Performed → Rule
step_ended t p = if_over t finished (after_step t p)

-- the task whose turn it is, among those that take turns in order of joining: the one at the position, or the first if
-- the position is at the end or past it. The step `TakeStep` takes it; then the position is that of the task after it.
-- If no task takes turns, the position is the beginning from then on (Twisted: `Cooperator`)
abbrev pub task_in_turn : Turns → Option ℕ
task_in_turn t = slice_get t.tasks (if nat_lt t.position (length t.tasks) then t.position else 0)

-- the tasks that take turns once one has left them
abbrev pub others : ℕ → Turns → List ℕ
others task t = remove_key (nat_eq task) t.tasks

-- the position of the task whose turn it was, once one has left: if that stood before it, it is less by one
abbrev pub position_of_same : ℕ → Turns → ℕ
position_of_same task t = if list_any (nat_eq task) (take t.position t.tasks) then t.position - 1 else t.position

-- the position once a task has left, by the rule of its Cooperator. In versions 1 and 2 it is still the same task's
-- turn; at the end of the list, the next that joins has its turn before the first. If fair, it is still the same task's
-- turn, also if another joins after that. As Twisted, the number stays: if the task that left stood before it, the turn
-- of one task is skipped. It may be past the end by n then, and n of those that join stand before it (Twisted:
-- `Cooperator`)
abbrev pub position_once_left : TurnRule → ℕ → Turns → ℕ
position_once_left Earlier task t = position_of_same task t
position_once_left Fair task t =
    if nat_lt (position_of_same task t) (length (others task t)) then position_of_same task t else 0
position_once_left Twisted task t = t.position

-- a step of a task: performs its next body, or ends it
abbrev pub perform_next : ℕ → Option Body → Rule
perform_next t next_body = Finds next_body (end_task t Finished) λ body. calls (performs None body Null and ends_step t)

-- ends a tick of a Cooperator, and schedules the next if none is and a task takes turns (Twisted: `Cooperator`)
abbrev pub tick_ended : ℕ → Rule
tick_ended k = EndTick k next KeepTick k next finished

-- the task whose turn it is takes a step, and then so many more are taken; the tick ends if no task takes turns
abbrev pub step_of_tick : ℕ → ℕ → Rule
step_of_tick k left =
    Asks (TakeStep k) λ whose.
    Finds whose (tick_ended k) λ (t, next_body).
    perform_next t next_body after_which takes_steps k left

-- takes so many steps, and no more once no task takes turns (Twisted: `Cooperator`, but `ticks-by-the-clock`)
abbrev pub tick : ℕ → ℕ → Rule
tick k units = If (nat_eq units 0) (tick_ended k) (step_of_tick k (units - 1))

-- 15. Inline bodies (Twisted: `inlineCallbacks`).

-- makes the Deferred of an inline body, and begins the body
abbrev pub inline : List ℕ → List Statement → Rule
inline name statements =
    classes_and_ends λ classes ends_throw.
    next_inline_body λ id.
    next_deferred λ d.
    AddInline next
    Make (Some name) (Some (canceller.Inline id)) next
    calls (goes_on (record { id = id; of = d }) (started classes ends_throw statements))

-- what follows where a `try` catches a failure: its second statements
abbrev pub caught_by : List Class → Failure → Inside → Option (List Statement)
caught_by classes failure (inside.Try catch) =
    option_map (λ class. catch.second) (check classes (class_of failure) catch.classes)
caught_by classes failure (inside.Caught other) = None
caught_by classes failure (inside.Finally second) = None
caught_by classes failure (inside.Ending how) = None

-- the second statements of a `finally` whose first ones it is in
abbrev pub still_to_run : Inside → Option (List Statement)
still_to_run (inside.Try catch) = None
still_to_run (inside.Caught failure) = None
still_to_run (inside.Finally second) = Some second
still_to_run (inside.Ending how) = None

-- the second statements of a `try` or a `finally`, on null, inside which it is so from now on
abbrev pub second_of : List Statement → Inside → List Statement → List Open → Position → Position
second_of second place rest opens p =
    record p { statements = second; opens = record { inside = place; rest = rest } ∷ opens; value = Null }

-- where a body goes on when a failure is thrown: in the innermost `try` that catches it, with its second statements, in
-- which the failure is active. A `finally` on the way there runs its second statements first, and the failure is thrown
-- on after them. If nothing catches it, the body ends with the failure. `answered` goes by this (Twisted:
-- `inlineCallbacks`)
abbrev pub thrown : Failure → List Open → Position → Position
thrown failure [] p = record p { opens = []; value = Null; result = Some (Fault failure) }
thrown failure (around ∷ opens) p =
    found (caught_by p.classes failure around.inside)
    (found (still_to_run around.inside) (thrown failure opens p) λ second.
    second_of second (inside.Ending (onward.Thrown failure)) around.rest opens p) λ second.
    second_of second (inside.Caught failure) around.rest opens p

-- where it goes on when it is left with a result: it is over with that. A `finally` on the way runs its second
-- statements first
abbrev pub left : Value → List Open → Position → Position
left v [] p = record p { opens = []; value = Null; result = Some v }
left v (around ∷ opens) p =
    found (still_to_run around.inside) (left v opens p) λ second.
    second_of second (inside.Ending (onward.Left v)) around.rest opens p

-- where it goes on after an end that gives this: if ends throw, a failure is thrown there. Otherwise the body is left
-- with it (Twisted: `inlineCallbacks`, but `end-in-a-try`)
abbrev pub after_end : Value → Position → Position
after_end v p =
    found (if p.ends_throw then failure_in v else None) (left v p.opens p) λ failure.
    thrown failure p.opens p

-- goes on with an answer
abbrev pub go_with : Inline → Value → Position → Rule
go_with i answer p = calls (goes_on i (answered answer p))

-- goes on so, if there is an answer; else nothing is done
abbrev pub go_where : Inline → Option (Position × Value) → Rule
go_where i resumed = Finds resumed finished λ (p, answer). go_with i answer p

-- goes on with the result of what a body awaited
abbrev pub resume : Inline → Value → Rule
resume i input = Asks (ResumeInline i.id input) (go_where i)

-- awaits e: adds to it the pair that resumes the body
abbrev pub await_found : Inline → ℕ → Position → Rule
await_found i e p =
    BeginAwait i e next
    add e (continuing i) after_which awaits i e p

-- awaits the Deferred of a name. A name that isn't bound throws NameError in the body
abbrev pub await : Inline → List ℕ → Position → Rule
await i name p =
    deferred_or (Some i.of) name (go_with i (fault name_error name) p) λ e.
    await_found i e p

-- after the pair was added: if it has run already, the body goes on at once
abbrev pub after_awaiting : Inline → ℕ → Position → Rule
after_awaiting i e p = Asks (EndAwait i.id e p) (go_where i)

-- the answer to an action: null, or what it raised
abbrev pub answer_of : Performed → Value
answer_of Done = Null
answer_of (Gave v) = Null
answer_of (Raised failure) = Fault failure
answer_of (Awaits e) = Null

-- 16. Jobs of threads (Twisted: `deferToThread`, `deferToThreadPool`, but `results-at-their-times`).

-- submits a job for d to a pool, and schedules the delivery of its result for so many ticks later
abbrev pub begin_job : ℕ → Option (List ℕ) → ℕ → Work → Rule
begin_job d pool delay work =
    next_job λ job.
    Submit d pool work next
    DeliverLater job d delay next
    finished

-- raises RuntimeError if the run has as many jobs as it may. Else makes a Deferred, and begins a job for it
abbrev pub thread : List ℕ → Option (List ℕ) → ℕ → Work → Rule
thread name pool delay work =
    next_deferred λ d.
    all_jobs λ jobs.
    If (is_full jobs) (raise too_many_jobs)
    (Make (Some name) None next begin_job d pool delay work)

-- fires d with the value of the work that was submitted for it
abbrev pub deliver : ℕ → ℕ → Rule
deliver job d = the_job job λ work. Fires d (work_value work)

-- 17. Settling: the pairs of a Deferred are used in order, each on what the one before left (Twisted:
-- `Deferred._runCallbacks`, but `abandoned-chain`).

-- whether the next item of a Deferred may be used: it was fired, none of its sides runs, it isn't paused, and it waits
-- for no other. The step `Moves` uses one then (Twisted: `Deferred._runCallbacks`, but `pause-in-own-side`,
-- `paused-receiver`)
abbrev pub may_be_used : Record Pair Canceller → Bool
may_be_used r = r.fired && not r.running && nat_eq r.pauses 0 && is_none r.waits_for

-- whether d waits for e, which a side of d gave: e is d itself, is unfired or paused, or waits itself. Else d takes the
-- value of e at once. The step `PutDeferred` goes by this
abbrev pub has_to_wait : ℕ → ℕ → Record Pair Canceller → Bool
has_to_wait d e r = nat_eq d e || not r.fired || not (nat_eq r.pauses 0) || is_some r.waits_for

-- a side of d on its input; a missing one passes the input on (Twisted: what adds the pair)
abbrev pub run_side : ℕ → Option Side → Value → Rule
run_side d None input = give input
run_side d (Some (side.Body body)) input = calls (performs (Some d) body input)
run_side d (Some (side.Fire e)) input = Fires e input
run_side d (Some (side.Timed t)) input =
    all_classes λ classes. its_time_is_over t λ is_over. give (timed classes is_over input)
run_side d (Some (side.OnTimeout t body)) input =
    its_time_is_over t λ is_over. If is_over (calls (performs (Some d) body input)) (give input)
run_side d (Some (side.EndTimer t)) input = EndTimer t next give input
run_side d (Some (side.Report child)) input = report child input
run_side d (Some side.Results) input = give_gathered input
run_side d (Some (side.Hold l body)) input = hold l body
run_side d (Some (side.Release l)) input = release l after_which gives (Gave input)
run_side d (Some (side.NextTurn l)) input = end_turn l
run_side d (Some (side.EndLoop l)) input = fail_turn l input
run_side d (Some (side.ResumeTask t)) input = resume_held t
run_side d (Some (side.FailTask t)) input = fail_task t (failure_in input)
run_side d (Some (side.Resume i)) input = resume i input

-- the step that puts what a side of d gave in place: null, its value, the failure that it raised, or the Deferred
abbrev pub placing : ℕ → Performed → Step
placing d Done = Put d Null
placing d (Gave v) = Put d v
placing d (Raised failure) = Put d (Fault failure)
placing d (Awaits e) = PutDeferred d e

-- puts what a side of d gave in place, and settles d
abbrev pub put_in_place : ℕ → Performed → Rule
put_in_place d p = placing d p next calls (settles d)

-- by the first unused item of d. None that may be used: nothing is done. A pair that the value passes by: d is settled
-- again. A side that runs: what it returns for the value of d is put in place. A hand-over, by which c got the value of
-- d: c is settled, and then d
abbrev pub settle_by : ℕ → Move Pair → Rule
settle_by d Nothing = finished
settle_by d Passed = calls (settles d)
settle_by d (Run pair) = its_value d λ v. run_side d (side_for pair (is_fault v)) v after_which places d
settle_by d (Handed c) = calls (settles c and settles d)

-- uses the first unused item of d, and so on
abbrev pub settle : ℕ → Rule
settle d = Asks (Moves d) (settle_by d)

-- 18. Actions.

-- each action by its rule
abbrev pub carry_out : Option ℕ → Action-F Action Statement Body → Rule
carry_out itself (Action-F.Deferred name body) = Make (Some name) (option_map canceller.Body body) next finished
carry_out itself (Action-F.Callback name v) = on_deferred itself name λ d. Fires d v
carry_out itself (Action-F.Errback name class message) = on_deferred itself name λ d. Fires d (fault class message)
carry_out itself (Action-F.AddCallback name body) = on_deferred itself name λ d. add d (callback body)
carry_out itself (Action-F.AddErrback name body) = on_deferred itself name λ d. add d (errback body)
carry_out itself (Action-F.AddBoth name body) = on_deferred itself name λ d. add d (both body body)
carry_out itself (Action-F.AddCallbacks name on_value on_failure) =
    on_deferred itself name λ d. add d (both on_value on_failure)
carry_out itself (Action-F.Chain name after) =
    on_deferred itself name λ d. on_deferred itself after λ e. add d (chain e)
carry_out itself (Action-F.Pause name) = on_deferred itself name λ d. Pause d next finished
carry_out itself (Action-F.Unpause name) = on_deferred itself name Unpauses
carry_out itself (Action-F.Cancel name) = on_deferred itself name cancel
carry_out itself (Action-F.AddTimeout name delay body) = on_deferred itself name λ d. add_timeout d delay body
carry_out itself (Action-F.Note text) = Note text next finished
carry_out itself (Action-F.Lock name) = NewLock name next finished
carry_out itself (Action-F.Semaphore name tokens) = NewSemaphore name tokens next finished
carry_out itself (Action-F.Acquire name lock) = on_lock lock λ l. acquire name l
carry_out itself (Action-F.Release lock) = on_lock lock release
carry_out itself (Action-F.Queue name size backlog) = NewQueue name size backlog next finished
carry_out itself (Action-F.Put queue v) = on_queue queue λ k. put_in k v
carry_out itself (Action-F.Get name queue) = on_queue queue λ k. get_out name k
carry_out itself (Action-F.Maybe name body) = maybe name body
carry_out itself (Action-F.RunWith name lock body) = on_lock lock λ l. run_with name l body
carry_out itself (Action-F.List name children flags) = on_all itself children λ ds. list name ds (list_flags flags)
carry_out itself (Action-F.Gather name children flags) =
    on_all itself children λ ds. gather name ds (gather_flags flags)
carry_out itself (Action-F.Later name delay body) = CallLater name delay body next finished
carry_out itself (Action-F.CancelCall name) = on_call name λ number. Asks (CancelCall number) Ends
carry_out itself (Action-F.ResetCall name delay) =
    on_call name λ number. Asks (ResetCall number delay_from.Now delay) Ends
carry_out itself (Action-F.DelayCall name delay) =
    on_call name λ number. Asks (ResetCall number delay_from.Due delay) Ends
carry_out itself (Action-F.Loop name of interval at_once body bodies) = loop name of interval at_once body bodies
carry_out itself (Action-F.StopLoop name) = on_loop name stop_loop
carry_out itself (Action-F.Units units) = SetUnits units next finished
carry_out itself (Action-F.Cooperate name bodies) = NewTask name bodies next WantTick 0 next finished
carry_out itself (Action-F.CooperateIn name of bodies) = on_cooperator of λ k. cooperate_in k name of bodies
carry_out itself (Action-F.UnitsIn name units) = on_cooperator name λ k. SetUnitsIn k name units next finished
carry_out itself (Action-F.StopCooperator name) = on_cooperator name (stop_cooperator name)
carry_out itself (Action-F.WhenDone name task) = on_task task λ t. when_done name t
carry_out itself (Action-F.PauseTask name) = on_task name pause_task
carry_out itself (Action-F.StopTask name) = on_task name stop_task
carry_out itself (Action-F.ResumeTask name) = on_task name resume_task
carry_out itself (Action-F.Inline name statements) = inline name statements
carry_out itself (Action-F.Thread name delay work) = thread name None delay work
carry_out itself (Action-F.ThreadIn name pool delay work) = thread name (Some pool) delay work

-- an action; in it `@` stands for the Deferred that is given
abbrev pub act : Option ℕ → Action → Rule
act itself action = carry_out itself (out-Action action)

-- 19. What is left of a body: its actions in order, and then what its end returns for the input. An action that raises
-- ends it, since what is left is only gone through `unless_raised` (21).

-- the body that runs in place of an end: the one that it names
abbrev pub body_for : End → World → Option NamedBody
body_for (end.Return v) w = None
body_for end.Pass w = None
body_for (end.Plus n) w = None
body_for (end.Raise class message) w = None
body_for (end.Trap listed v) w = None
body_for (end.Wait name) w = None
body_for (end.Run name) w = body_named name w.declared
body_for (end.Throw path) w = None

-- performs a body that the script declares on an input, which is logged first
abbrev pub run_body : Option ℕ → Value → NamedBody → Rule
run_body itself input declared =
    Asks (BeginBody declared) λ begun. Finds begun finished λ body. calls (performs itself body input)

-- what an end returns for an input, or what the body returns that runs in its place
abbrev pub perform_end : Option ℕ → End → Value → Rule
perform_end itself end input = By λ w. Finds (body_for end w) (give_end itself end input) (run_body itself input)

-- each action, and then what is left; after the last the end
abbrev pub perform_rest : Option ℕ → List Action → End → Value → Rule
perform_rest itself [] end input = perform_end itself end input
perform_rest itself (action ∷ rest) end input = act itself action after_which goes_through itself rest end input

-- 20. What goes on.

-- goes on with an inline body by what it requests: nothing, an action, whose answer it goes on with, or the result of a
-- Deferred
abbrev pub do_requested : Inline → Option Request → Position → Rule
do_requested i None p = finished
do_requested i (Some (Do action)) p = act (Some i.of) action after_which goes_on_with_answer i p
do_requested i (Some (Await name)) p = await i name p

-- goes on with an inline body: `run_to_request` moves it up to what it requests, or to its end, where it fires its
-- Deferred with its result. On the way `raise` throws the active failure again, with `caught` a list of that is the
-- present value, and an `end` leaves the body
abbrev pub go_on : Inline → Position → Rule
go_on i p =
    let now = run_to_request p in
    Finds now.result (do_requested i (request_at now) now) λ result.
    Fires i.of result

-- which of two calls runs first: the one that is due earlier; if both are due at one time, the one that was scheduled
-- earlier
abbrev pub earlier : Upcoming → Upcoming → Upcoming
earlier a b = if is_gt (ordering_then (nat_cmp a.due b.due) (nat_cmp a.number b.number)) then b else a

-- the first of the calls that wait, from a number on
abbrev pub first_call : ℕ → List Call → Option Upcoming
first_call number [] = None
first_call number (call ∷ calls) =
    let after = first_call (number + 1) calls in
    found (upcoming number call) after λ a. found after (Some a) λ b. Some (earlier a b)

-- which call runs next: the first of those that wait, if its time isn't later than now. The step `TakeDue` takes it,
-- and logs it
abbrev pub next_due : World → Option Upcoming
next_due w =
    found (first_call 0 w.objects.clock.calls) None λ call. if nat_lt w.objects.clock.time call.due then None
    else Some call

-- performs the body of a delayed call, logs its failure as unhandled, and runs what is due after it
abbrev pub run_call : ℕ → Rule
run_call key = the_body key (calls runs_due) λ body. calls (performs None body Null and tells_failure and runs_due)

-- begins a tick of a Cooperator, whose steps are taken
abbrev pub begin_tick : ℕ → Rule
begin_tick k = the_cooperator k λ c. BeginTick k next calls (takes_steps k c.units)

-- takes the steps of a tick of a Cooperator, and runs what is due after it
abbrev pub run_tick : ℕ → Rule
run_tick k = begin_tick k after_which runs_due

-- runs what is due next, and then what is due after it; logs as unhandled a failure of a call, a delivery or a time-out
-- (Twisted: `Clock.advance`, but `error-leaves-advance`)
abbrev pub run_next : Option Due → Rule
run_next None = finished
run_next (Some (what.Call name key)) = run_call key
run_next (Some (what.Turn name key)) = take_turn key after_which runs_due
run_next (Some what.Tick) = run_tick 0
run_next (Some (what.TickIn name k)) = run_tick k
run_next (Some (what.Delivery job d)) = deliver job d after_which tells_failure and runs_due
run_next (Some (what.Timeout d)) = calls (cancels d and tells_failure and runs_due)

-- runs what is due, until nothing is
abbrev pub run_due : Rule
run_due = Asks TakeDue run_next
