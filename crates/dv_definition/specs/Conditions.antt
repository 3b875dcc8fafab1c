-- The steps of the world go by the conditions that stand on the page.
use Rattle.std.specs.Prelude.{◌≡◌, ℕ, true, List}
use Rattle.dv_clock.specs.Clock.{Clock, next_call}
use Rattle.dv_clock.specs.Turns.{Turns, is_among, turn_of, left as turns_left}
use Rattle.dv_definition.specs.Definition.{has_to_wait, list_fires_with, may_be_used, next_due, next_turn_at}
use Rattle.dv_definition.specs.Definition.{after_end, left, others, position_once_left, task_in_turn, thrown}
use Rattle.dv_definition.specs.Definition.{whom_reaches}
use Rattle.dv_inline.specs.Position.{Position, ended_from, left_from, thrown_from}
use Rattle.dv_inline.specs.declared.open.Open.{Open}
use Rattle.dv_objects.specs.Looping.{next_due as turn_due}
use Rattle.dv_objects.specs.Pair.{Pair}
use Rattle.dv_objects.specs.declared.canceller.Canceller.{Canceller}
use Rattle.dv_objects.specs.declared.looping_call.LoopingCall.{LoopingCall}
use Rattle.dv_prims.specs.DeferredList.{Gather, due}
use Rattle.dv_store.specs.Callbacks.{is_ready}
use Rattle.dv_store.specs.Chaining.{is_pending}
use Rattle.dv_store.specs.declared.record.Record.{Record}
use Rattle.dv_value.specs.declared.failure.Failure.{Failure}
use Rattle.dv_value.specs.declared.value.Value.{Value}
use Rattle.dv_world.specs.World.{World, reached_from}

-- an item of a Deferred is used where it may be
abbrev pub ItemsAreUsedWhenTheyMay : Type 0
ItemsAreUsedWhenTheyMay = (r : Record Pair Canceller) → is_ready r ≡ may_be_used r

-- a Deferred that a side gave is waited for where it has to be
abbrev pub DeferredsWaitWhenTheyHaveTo : Type 0
DeferredsWaitWhenTheyHaveTo = (d e : ℕ) (r : Record Pair Canceller) → is_pending d e r ≡ has_to_wait d e r

-- a cancel reaches what it is to reach
abbrev pub CancelsReach : Type 0
CancelsReach = (d : ℕ) (w : World) → reached_from d w.records ≡ whom_reaches d w

-- a list is fired when it is to be, and with what
abbrev pub ListsFire : Type 0
ListsFire = (i : ℕ) (v : Value) (g : Gather) → (due i v g).0 ≡ list_fires_with i v g

-- the next call is the one that runs
abbrev pub CallsComeInTurn : Type 0
CallsComeInTurn = (w : World) → next_call w.objects.clock ≡ next_due w

-- a loop's turn is scheduled for its time
abbrev pub TurnsAreDue : Type 0
TurnsAreDue = (x : LoopingCall) (c : Clock) → turn_due x c ≡ next_turn_at x c

-- the task takes the step whose turn it is
abbrev pub TasksTakeTurns : Type 0
TasksTakeTurns = (t : Turns) → turn_of t ≡ task_in_turn t

-- when a task leaves those that take turns, the position is where the rule says
abbrev pub TasksLeave : Type 0
TasksLeave =
    (task : ℕ) (t : Turns) → is_among task t.tasks ≡ true
    → turns_left task t
    ≡ record { rule = t.rule; tasks = others task t; position = position_once_left t.rule task t }

-- a failure is thrown to where it is caught
abbrev pub FailuresAreThrown : Type 0
FailuresAreThrown =
    (failure : Failure) (opens : List Open) (p : Position) → thrown_from failure opens p ≡ thrown failure opens p

-- a body is left by way of each `finally`
abbrev pub EndsLeave : Type 0
EndsLeave = (v : Value) (opens : List Open) (p : Position) → left_from v opens p ≡ left v opens p

-- an end that fails throws its failure, where ends throw
abbrev pub FailingEndsThrow : Type 0
FailingEndsThrow = (v : Value) (p : Position) → ended_from v p ≡ after_end v p
