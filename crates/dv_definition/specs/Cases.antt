-- The telling case of each section of the page: what its rule leaves there, worked out by hand.
use Rattle.std.specs.Prelude.{◌≡◌, ℕ, nat_eq, true, false, List, [], ◌∷◌, ◌++◌, length, Option, None, Some, slice_get}
use Rattle.dv_clock.specs.declared.due.Due.TheVariants as what
use Rattle.dv_definition.specs.Definition.{add, cancel_reached, acquire, put_in, deferred_of, run_with, report}
use Rattle.dv_definition.specs.Definition.{add_timeout, take_turn, end_turn, step_ended, await, thread, settle_by}
use Rattle.dv_definition.specs.Definition.{carry_out, act}
use Rattle.dv_definition.specs.Definition.{end_task, joined_in, perform_rest, position_once_left, run_next}
use Rattle.dv_definition.specs.Rule.{Fires, run, ◌after_which◌}
use Rattle.dv_definition.specs.Scripts.{judge}
use Rattle.dv_definition.specs.Words.{◌and◌, goes_through, is_over, makes_deferred, performs}
use Rattle.dv_frames.specs.Turn.{rest_of}
use Rattle.dv_frames.specs.declared.frame.Frame.TheVariants as frame
use Rattle.dv_frames.specs.declared.frame.Inlining.TheVariants.{Goes}
use Rattle.dv_frames.specs.declared.frame.Purpose.TheVariants.{Named, Turning}
use Rattle.dv_inline.specs.Position.{Position, answered}
use Rattle.dv_journal.specs.declared.entry.Entry.TheVariants as entry
use Rattle.dv_objects.specs.Cooperator.{Cooperator, is_empty}
use Rattle.dv_script.specs.declared.turn_rule.TurnRule.TheVariants.{Fair, Twisted}
use Rattle.dv_objects.specs.Pair.{Pair, errback, holding, watching, ending}
use Rattle.dv_objects.specs.Refusals.{overflow}
use Rattle.dv_objects.specs.Works.{is_full}
use Rattle.dv_objects.specs.declared.canceller.Canceller.TheVariants.{Token}
use Rattle.dv_objects.specs.declared.inline_id.Inline.{Inline}
use Rattle.dv_objects.specs.declared.looping_call.LoopingCall.{LoopingCall}
use Rattle.dv_objects.specs.declared.pair.Child.{Child}
use Rattle.dv_objects.specs.declared.performed.Performed.TheVariants.{Done, Gave, Raised, Awaits}
use Rattle.dv_objects.specs.declared.reached.Reached.TheVariants as reached
use Rattle.dv_objects.specs.declared.task.Task.{Task}
use Rattle.dv_objects.specs.declared.task.TaskEnd.TheVariants.{Halted}
use Rattle.dv_prims.specs.Queue.{Queue, may_put}
use Rattle.dv_prims.specs.Tokens.{Semaphore, has_free}
use Rattle.dv_script.specs.declared.action.Action.{Action}
use Rattle.dv_script.specs.declared.action.Action.TheOpen.{Action-F}
use Rattle.dv_script.specs.declared.body.Body.{Body}
use Rattle.dv_script.specs.declared.body.End.{End}
use Rattle.dv_value.specs.declared.expected.Expected.{Expected}
use Rattle.dv_script.specs.declared.work.Work.{Work}
use Rattle.dv_store.specs.declared.store.Step.TheVariants.{Handed}
use Rattle.dv_value.specs.Builtin.{name_error}
use Rattle.dv_value.specs.Failure.{fault}
use Rattle.dv_value.specs.declared.failure.Failure.{Failure}
use Rattle.dv_value.specs.declared.value.Value.{Value, Null, Fault}
use Rattle.dv_world.specs.Expecting.{is_met, state_at}
use Rattle.dv_world.specs.World as world
use Rattle.dv_world.specs.World.{World, cooperator_of, deferred_at, is_unfired, make, too_many_jobs}

-- a Deferred that gets a pair is settled
abbrev pub PairsAreUsed : Type 0
PairsAreUsed =
    (d : ℕ) (pair : Pair) (w : World) → run (add d pair) w ≡ (frame.Settle d ∷ [], Done, world.append d pair w)

-- a cancel of a list cancels its children in order, and logs a failure of either
abbrev pub CancelsReachChildren : Type 0
CancelsReachChildren =
    (c e : ℕ) (w : World) → run (cancel_reached (reached.Children (c ∷ e ∷ []))) w
    ≡ (frame.Cancel c ∷ frame.Tell ∷ frame.Cancel e ∷ frame.Tell ∷ [], Done, w)

-- if no token is free, a Deferred that asks for one waits, and none is fired
abbrev pub TokensAreWaitedFor : Type 0
TokensAreWaitedFor =
    (name : List ℕ) (l : ℕ) (w : World) (s : Semaphore) → (let made = make (Some name) (Some (Token l)) w in
    slice_get made.objects.semaphores l ≡ Some s → has_free s ≡ false
    → run (acquire name l) w ≡ ([], Done, world.ask l (length w.records) made))

-- a queue that is full takes no value
abbrev pub FullQueuesRefuse : Type 0
FullQueuesRefuse =
    (k : ℕ) (v : Value) (w : World) (q : Queue) → slice_get w.objects.queues k ≡ Some q → may_put q ≡ false
    → run (put_in k v) w ≡ ([], Raised overflow, w)

-- a body that raises makes a Deferred that is fired with the failure
abbrev pub FailuresAreKept : Type 0
FailuresAreKept =
    (name : List ℕ) (failure : Failure) (w : World) → run (deferred_of (Named name) (Raised failure)) w
    ≡ run (Fires (length w.records) (Fault failure) after_which []) (make (Some name) None w)

-- a Deferred that asks for a token to run a body with gets the pair that runs it
abbrev pub BodiesWaitForTokens : Type 0
BodiesWaitForTokens =
    (name : List ℕ) (l : ℕ) (body : Body) (w : World) → (let asked = run (acquire name l) w in
    run (run_with name l body) w ≡ (asked.0 ++ frame.Add (length w.records) (holding l body) ∷ [], asked.1, asked.2))

-- a list that somebody has fired is fired by no child
abbrev pub FiredListsStay : Type 0
FiredListsStay =
    (child : Child) (input : Value) (w : World)
    → (let after = world.child_fired_in child.list child.place input w in is_unfired child.of after.1 ≡ false
    → run (report child input) w ≡ (frame.Give (Gave after.0.pass) ∷ [], Done, after.1))

-- a time-out starts a timer, and adds two pairs, of which the second one ends it
abbrev pub FiringsEndTimers : Type 0
FiringsEndTimers =
    (d delay : ℕ) (body : Option Body) (w : World)
    → (let t = length w.objects.clock.calls in run (add_timeout d delay body) w
    ≡ (
      frame.Settle d ∷ frame.Add d (ending t) ∷ [],
      Done,
      world.append d (watching t body) (world.start_timer d delay w),
    ))

-- after a turn of a loop that runs the next is scheduled
abbrev pub TurnsFollow : Type 0
TurnsFollow =
    (l : ℕ) (w : World) (x : LoopingCall) → slice_get w.objects.loops l ≡ Some x → x.running ≡ true
    → run (end_turn l) w ≡ ([], Done, world.schedule_turn l w)

-- a turn that is due performs the body that the loop has for it, and then the loop has that of the turn after it
abbrev pub TurnsTakeBodies : Type 0
TurnsTakeBodies =
    (l : ℕ) (w : World) (x : LoopingCall) → slice_get w.objects.loops l ≡ Some x
    → run (take_turn l) w ≡ (performs None x.body Null and makes_deferred (Turning l), Done, world.begin_turn l w)

-- a task that has ended waits for nothing
abbrev pub EndedTasksStay : Type 0
EndedTasksStay = (t e : ℕ) (w : World) → is_over t w ≡ true → run (step_ended t (Awaits e)) w ≡ ([], Done, w)

-- a task that joins a Cooperator that was stopped takes no turn there: it ends
abbrev pub StoppedOnesTakeNone : Type 0
StoppedOnesTakeNone =
    (k t : ℕ) (w : World) (c : Cooperator) (x : Task) → cooperator_of k w ≡ Some c → c.stopped ≡ true
    → slice_get w.objects.cooperators.tasks t ≡ Some x → x.pauses ≡ 0
    → run (joined_in k t) w ≡ run (end_task t Halted) w

-- by Twisted's rule a task that joins while a tick is under way has the next tick scheduled at that moment
abbrev pub JoinersWantTicks : Type 0
JoinersWantTicks =
    (k t : ℕ) (w : World) (c : Cooperator) → cooperator_of k w ≡ Some c → c.stopped ≡ false → c.ticking ≡ true
    → c.turns.rule ≡ Twisted → c.tick ≡ None → is_empty c.turns ≡ false
    → run (joined_in k t) w ≡ ([], Done, world.schedule_tick k c w)

-- by the fair rule the last of a round that leaves has the first take the next turn, also before one that joins then
abbrev pub FairTurnsGoRound : Type 0
FairTurnsGoRound =
    (a b : ℕ) → nat_eq b a ≡ false
    → position_once_left Fair b (record { rule = Fair; tasks = a ∷ b ∷ []; position = 2 }) ≡ 0

-- by Twisted's rule the next one's turn is skipped
abbrev pub TwistedSkips : Type 0
TwistedSkips =
    (a b c : ℕ) → position_once_left Twisted a (record { rule = Twisted; tasks = a ∷ b ∷ c ∷ []; position = 1 }) ≡ 1

-- where an inline body awaits a name that isn't bound, NameError is thrown there
abbrev pub NameErrorsAreThrown : Type 0
NameErrorsAreThrown =
    (i : Inline) (name : List ℕ) (p : Position) (w : World) → deferred_at (Some i.of) name w ≡ None
    → run (await i name p) w ≡ (frame.Inline (Goes i (answered (fault name_error name) p)) ∷ [], Done, w)

-- one job more than a run may have is refused
abbrev pub ManyJobsAreRefused : Type 0
ManyJobsAreRefused =
    (name : List ℕ) (pool : Option (List ℕ)) (delay : ℕ) (work : Work) (w : World) → is_full w.works ≡ true
    → run (thread name pool delay work) w ≡ ([], Raised too_many_jobs, w)

-- an errback is added for failures
abbrev pub ErrbacksAreForFailures : Type 0
ErrbacksAreForFailures =
    (itself : Option ℕ) (name : List ℕ) (body : Body) (d : ℕ) (w : World) → deferred_at itself name w ≡ Some d
    → run (carry_out itself (Action-F.AddErrback name body)) w
    ≡ (frame.Settle d ∷ [], Done, world.append d (errback body) w)

-- the actions that are left of a body follow the first
abbrev pub BodiesGoOn : Type 0
BodiesGoOn =
    (itself : Option ℕ) (action : Action) (rest : List Action) (end : End) (input : Value) (w : World)
    → (let first = run (act itself action) w in run (perform_rest itself (action ∷ rest) end input) w
    ≡ (first.0 ++ goes_through itself rest end input, first.1, first.2))

-- the Deferred that got a value by a hand-over is settled before the one that gave it
abbrev pub ReceiversComeFirst : Type 0
ReceiversComeFirst =
    (d c : ℕ) (w : World) → run (settle_by d (Handed c)) w ≡ (frame.Settle c ∷ frame.Settle d ∷ [], Done, w)

-- a failure that leaves the body of a delayed call is logged, before what is due next is run
abbrev pub FailuresOfCallsAreTold : Type 0
FailuresOfCallsAreTold =
    (name : List ℕ) (key : ℕ) (body : Body) (w : World) → slice_get w.objects.bodies key ≡ Some body
    → run (run_next (Some (what.Call name key))) w
    ≡ (frame.Rest (rest_of None body Null) ∷ frame.Tell ∷ frame.Due ∷ [], Done, w)

-- a Deferred that isn't as the script expects is logged, and the run ends
abbrev pub UnmetRunsEnd : Type 0
UnmetRunsEnd =
    (d : ℕ) (expected : Expected) (w : World) → is_met expected (state_at d w) ≡ false
    → run (judge d expected) w ≡ ([], Done, world.with_stop (world.tell (entry.Unmet d (state_at d w) expected) w))
