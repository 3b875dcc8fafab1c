-- The Cooperators and their tasks (Twisted: `Cooperator`, `CooperativeTask`).
use Rattle.std.specs.Prelude.{ℕ, ◌+◌, ◌-◌, max, min, Bool, true, false, not, ◌&&◌, ◌||◌, is_none, is_some, nat_eq}
use Rattle.std.specs.Prelude.{if◌then◌else◌, List, [], ◌∷◌, ◌++◌, length, map, drop, Option, None, Some, slice_get}
use Rattle.std.specs.Prelude.{slice_set, bytes_eq, position}
use Rattle.dv_clock.specs.Turns.{Turns, new_turns, joined, left, gone_on, turn_of}
use Rattle.dv_clock.specs.declared.due.Due.{Due}
use Rattle.dv_clock.specs.declared.due.Due.TheVariants.{Tick, TickIn}
use Rattle.dv_clock.specs.declared.limits.TheConstants.{MOST_DELAY}
use Rattle.dv_script.specs.declared.body.Body.{Body}
use Rattle.dv_script.specs.declared.script.Cooperator.{Cooperator as Settings}
use Rattle.dv_script.specs.declared.script.NamedCooperator.{NamedCooperator}
use Rattle.dv_script.specs.declared.turn_rule.TurnRule.{TurnRule}
use Rattle.dv_script.specs.declared.turn_rule.TurnRule.TheVariants.{Earlier, Fair, Twisted}
use Rattle.dv_value.specs.Builtin.{task_done, task_stopped, task_failed, scheduler_stopped}
use Rattle.dv_value.specs.Failure.{plain_failure, fault}
use Rattle.dv_value.specs.declared.failure.Failure.{Failure}
use Rattle.dv_value.specs.declared.value.Value.{Value, Text, Fault}
use Rattle.dv_objects.specs.Names.{Names, with_name}
use Rattle.dv_objects.specs.declared.task.Task.{Task}
use Rattle.dv_objects.specs.declared.task.TaskEnd.{TaskEnd}
use Rattle.dv_objects.specs.declared.task.TaskEnd.TheVariants.{Finished, Stopped, Halted, Failed}

-- a Cooperator: its name, if the script names it; whose turn it is, how many steps a tick has and how long it is to the
-- next, which one is scheduled, whether one is under way, and whether it was stopped
pub record Cooperator : Type 0 where
  pub name : Option (List ℕ)
  pub turns : Turns
  pub units : ℕ
  pub delay : ℕ
  pub tick : Option ℕ
  pub ticking : Bool
  pub stopped : Bool

-- all tasks with their names, and all Cooperators: the one that each script has, and then those that the script names
pub record Cooperators : Type 0 where
  pub task_names : Names ℕ
  pub tasks : List Task
  pub all : List Cooperator

-- nobody takes turns at first
abbrev pub new_cooperator : Option (List ℕ) → Settings → Cooperator
new_cooperator name settings = record {
  name = name;
  turns = new_turns settings.turns;
  units = settings.units;
  delay = max 1 (min settings.delay MOST_DELAY);
  tick = None;
  ticking = false;
  stopped = false;
}

-- a Cooperator that the script names
abbrev pub named_cooperator : NamedCooperator → Cooperator
named_cooperator c = new_cooperator (Some c.name) c.settings

-- there are no tasks at first
abbrev pub new_cooperators : Settings → List NamedCooperator → Cooperators
new_cooperators settings named = record {
  task_names = [];
  tasks = [];
  all = new_cooperator None settings ∷ map named_cooperator named;
}

-- whether a Cooperator has this name
abbrev pub is_called : List ℕ → Option (List ℕ) → Bool
is_called name None = false
is_called name (Some own) = bytes_eq own name

-- the number of the Cooperator that the script names so
abbrev pub cooperator_named : List ℕ → Cooperators → Option ℕ
cooperator_named name c = position (λ one. is_called name one.name) c.all

-- the Cooperator that is found changes; a number of none changes nothing
abbrev pub all_changed : ℕ → (Cooperator → Cooperator) → Option Cooperator → List Cooperator → List Cooperator
all_changed k change None all = all
all_changed k change (Some one) all = slice_set all k (change one)

-- a Cooperator changes
abbrev pub changed : ℕ → (Cooperator → Cooperator) → Cooperators → Cooperators
changed k change c = record c { all = all_changed k change (slice_get c.all k) c.all }

-- the turns in a Cooperator change
abbrev pub turned : ℕ → (Turns → Turns) → List Cooperator → List Cooperator
turned k change all = all_changed k (λ one. record one { turns = change one.turns }) (slice_get all k) all

-- each tick has so many steps from the next one on
abbrev pub with_units : ℕ → Cooperator → Cooperator
with_units units one = record one { units = units }

-- it is stopped
abbrev pub halted : Cooperator → Cooperator
halted one = record one { stopped = true }

-- the result of a task, for each waiter for its end
abbrev pub result_of : List ℕ → TaskEnd → Value
result_of name Finished = Text name
result_of name Stopped = fault task_stopped []
result_of name Halted = fault scheduler_stopped []
result_of name (Failed failure) = Fault failure

-- what is raised where a task has ended
abbrev pub how_ended : TaskEnd → Failure
how_ended Finished = plain_failure task_done []
how_ended Stopped = plain_failure task_stopped []
how_ended Halted = plain_failure scheduler_stopped []
how_ended (Failed failure) = plain_failure task_failed []

-- a task that has just been made in a Cooperator
abbrev pub new_task : ℕ → List ℕ → List Body → Task
new_task k name bodies = record { name = name; of = k; bodies = bodies; pauses = 0; end = None; waiting = [] }

-- it takes turns in a Cooperator from now on, last
abbrev pub with_new_task : ℕ → List ℕ → List Body → Cooperators → Cooperators
with_new_task k name bodies c =
    record c {
      task_names = with_name name (length c.tasks) c.task_names;
      tasks = c.tasks ++ new_task k name bodies ∷ [];
      all = turned k (joined (length c.tasks)) c.all;
    }

-- a task, unless it has ended
abbrev pub unended : Option Task → Option Task
unended None = None
unended (Some x) = if is_some x.end then None else Some x

-- task t is now this
abbrev pub with_task : ℕ → Task → Cooperators → Cooperators
with_task t x c = record c { tasks = slice_set c.tasks t x }

-- the task whose turn it is takes it, and begins its next body
abbrev pub with_step : ℕ → Task → Cooperators → Cooperators
with_step t x c = record c {
  tasks = slice_set c.tasks t (record x { bodies = drop 1 x.bodies });
  all = turned x.of gone_on c.all;
}

-- it is the next one's turn in a Cooperator; if nobody takes turns there, the next turn is that of the first that joins
abbrev pub with_next_turn : ℕ → Cooperators → Cooperators
with_next_turn k c = record c { all = turned k gone_on c.all }

-- a task is paused once more, and takes no turns
abbrev pub with_pause : ℕ → Task → Cooperators → Cooperators
with_pause t x c = record c {
  tasks = slice_set c.tasks t (record x { pauses = x.pauses + 1 });
  all = turned x.of (left t) c.all;
}

-- whether a task that is resumed takes turns again: it is paused once, and hasn't ended
abbrev pub takes_turns_again : Task → Bool
takes_turns_again x = nat_eq x.pauses 1 && is_none x.end

-- a task is paused once less; where it isn't paused any more and hasn't ended, it takes turns again, last
abbrev pub with_resume : ℕ → Task → Cooperators → Cooperators
with_resume t x c =
    record c {
      tasks = slice_set c.tasks t (record x { pauses = x.pauses - 1 });
      all = if takes_turns_again x then turned x.of (joined t) c.all else c.all;
    }

-- a task has ended, and takes no turns any more
abbrev pub with_end : ℕ → TaskEnd → Task → Cooperators → Cooperators
with_end t end x c = record c {
  tasks = slice_set c.tasks t (record x { end = Some end; waiting = [] });
  all = turned x.of (left t) c.all;
}

-- d waits for the end of a task, unless it has ended
abbrev pub with_waiting : ℕ → ℕ → Task → Cooperators → Cooperators
with_waiting t d x c = with_task t (record x { waiting = if is_none x.end then x.waiting ++ d ∷ [] else x.waiting }) c

-- whether nobody takes turns
abbrev pub is_empty : Turns → Bool
is_empty t = nat_eq (length t.tasks) 0

-- whether a task that joins in a tick has the next one scheduled at once: by Twisted's rule it has
abbrev pub ticks_overlap : TurnRule → Bool
ticks_overlap Earlier = false
ticks_overlap Fair = false
ticks_overlap Twisted = true

-- whether a tick is to be scheduled: somebody takes turns, and none is scheduled or under way
abbrev pub wants_tick : Cooperator → Bool
wants_tick c = not c.ticking && is_none c.tick && not (is_empty c.turns)

-- the same as a task joins: by Twisted's rule one may be under way
abbrev pub wants_tick_at_once : Cooperator → Bool
wants_tick_at_once c = (not c.ticking || ticks_overlap c.turns.rule) && is_none c.tick && not (is_empty c.turns)

-- the tick that is scheduled, where it is to be dropped: nobody takes turns any more
abbrev pub idle_tick : Cooperator → Option ℕ
idle_tick c = if is_empty c.turns then c.tick else None

-- the next tick of the Cooperator of a number, which has this name
abbrev pub tick_of : Option (List ℕ) → ℕ → Due
tick_of None k = Tick
tick_of (Some name) k = TickIn name k

-- the task whose turn it is in the Cooperator that is found
abbrev pub turn_in : Option Cooperator → Option ℕ
turn_in None = None
turn_in (Some c) = turn_of c.turns

-- the Cooperators change by the task that is found; an id of no task changes nothing
abbrev pub changing : (Task → Cooperators → Cooperators) → Option Task → Cooperators → Cooperators
changing change None c = c
changing change (Some x) c = change x c

-- the next body of the task that is found
abbrev pub next_body : Option Task → Option Body
next_body None = None
next_body (Some x) = slice_get x.bodies 0

-- the waiters for the end of the task that is found
abbrev pub waiting_for : Option Task → List ℕ
waiting_for None = []
waiting_for (Some x) = x.waiting
