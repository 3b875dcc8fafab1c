-- The words of rules: what a rule gives, what it calls for, what it reads of the world, and the objects of names.
use Rattle.std.specs.Prelude.{ℕ, Bool, true, List, [], ◌∷◌, ◌++◌, length, Option, is_some, slice_get}
use Rattle.std.specs.Option.{option_map_or}
use Rattle.dv_clock.specs.Clock.{Clock}
use Rattle.dv_definition.specs.Rule.{Rule, Ends, By, If, Finds, Fires, ◌after_which◌}
use Rattle.dv_frames.specs.Turn.{rest_of}
use Rattle.dv_frames.specs.declared.frame.Frame.{Frame}
use Rattle.dv_frames.specs.declared.frame.Frame.TheVariants as frame
use Rattle.dv_frames.specs.declared.frame.Inlining.TheVariants.{Goes, Acted, Awaited}
use Rattle.dv_frames.specs.declared.frame.Purpose.{Purpose}
use Rattle.dv_inline.specs.Position.{Position}
use Rattle.dv_journal.specs.declared.state.State.{State}
use Rattle.dv_objects.specs.Cooperator.{Cooperator}
use Rattle.dv_objects.specs.Names.{number_of}
use Rattle.dv_objects.specs.Pair.{Pair}
use Rattle.dv_objects.specs.Refusals.{unbound}
use Rattle.dv_objects.specs.declared.inline_id.Inline.{Inline}
use Rattle.dv_objects.specs.declared.looping_call.LoopingCall.{LoopingCall}
use Rattle.dv_objects.specs.declared.performed.Performed.{Performed}
use Rattle.dv_objects.specs.declared.performed.Performed.TheVariants.{Done, Gave, Raised}
use Rattle.dv_objects.specs.declared.task.Task.{Task}
use Rattle.dv_prims.specs.Queue.{Queue}
use Rattle.dv_prims.specs.Tokens.{Semaphore}
use Rattle.dv_script.specs.declared.action.Action.{Action}
use Rattle.dv_script.specs.declared.body.Body.{Body}
use Rattle.dv_script.specs.declared.body.End.{End}
use Rattle.dv_script.specs.declared.work.Work.{Work}
use Rattle.dv_value.specs.declared.classes.Class.{Class}
use Rattle.dv_value.specs.declared.failure.Failure.{Failure}
use Rattle.dv_value.specs.declared.value.Value.{Value}
use Rattle.dv_world.specs.Ending.{ended}
use Rattle.dv_world.specs.Expecting.{state_at}
use Rattle.dv_world.specs.Found.{deferreds_at}
use Rattle.dv_world.specs.World.{World, cooperator_at, cooperator_of, deferred_at, is_unfired, awaited_in}
use Rattle.dv_world.specs.World.{has_timed_out, value_of}
use Rattle.dv_world.specs.declared.found.Found.{Found}
use Rattle.dv_world.specs.declared.found.Found.TheVariants.{All, Unbound}

-- 1. What a rule gives.

-- it is done, and returns nothing
abbrev pub finished : Rule
finished = Ends Done

-- it returns a value
abbrev pub give : Value → Rule
give v = Ends (Gave v)

-- it raises a failure
abbrev pub raise : Failure → Rule
raise failure = Ends (Raised failure)

-- it returns what the end of a body returns for its input
abbrev pub give_end : Option ℕ → End → Value → Rule
give_end itself end input = By λ w. Ends (ended itself end input w)

-- 2. What a rule calls for, which is done inside it. Each may lie in itself without end. One more stands in `Rule`:
-- `settles`.

infixr 11 ◌and◌
-- one after the other
abbrev pub ◌and◌ : List Frame → List Frame → List Frame
first and second = first ++ second

-- these are done, and nothing before them
abbrev pub calls : List Frame → Rule
calls frames = finished after_which frames

-- what a side of d gave is put in its place (17)
abbrev pub places : ℕ → List Frame
places d = frame.Place d ∷ []

-- a body is performed on an input; in it `@` stands for the Deferred that is given (19)
abbrev pub performs : Option ℕ → Body → Value → List Frame
performs itself body input = frame.Rest (rest_of itself body input) ∷ []

-- what is left of a body is performed (19)
abbrev pub goes_through : Option ℕ → List Action → End → Value → List Frame
goes_through itself actions end input =
    frame.Rest (record { itself = itself; actions = actions; end = end; input = input }) ∷ []

-- d is cancelled (6)
abbrev pub cancels : ℕ → List Frame
cancels d = frame.Cancel d ∷ []

-- after the canceller of d: its failure is raised, or d is fired if it is unfired (6)
abbrev pub ends_canceller : ℕ → List Frame
ends_canceller d = frame.Canceller d ∷ []

-- what a body gave becomes a Deferred for this (9)
abbrev pub makes_deferred : Purpose → List Frame
makes_deferred purpose = frame.Maybe purpose ∷ []

-- a pair is added to d (5)
abbrev pub adds : ℕ → Pair → List Frame
adds d pair = frame.Add d pair ∷ []

-- this is returned, unless a failure was raised
abbrev pub gives : Performed → List Frame
gives given = frame.Give given ∷ []

-- d is fired with how a task ended, if it has ended (14)
abbrev pub notifies : ℕ → ℕ → List Frame
notifies d t = frame.Notify d t ∷ []

-- what a step of a task gave counts (14)
abbrev pub ends_step : ℕ → List Frame
ends_step t = frame.Stepped t ∷ []

-- a task ends, since its Cooperator was stopped (14)
abbrev pub halts : ℕ → List Frame
halts t = frame.Halt t ∷ []

-- so many steps of a tick of a Cooperator are taken (14)
abbrev pub takes_steps : ℕ → ℕ → List Frame
takes_steps k units = frame.Tick k units ∷ []

-- an inline body goes on (20)
abbrev pub goes_on : Inline → Position → List Frame
goes_on i p = frame.Inline (Goes i p) ∷ []

-- an inline body goes on with the answer to its action (15)
abbrev pub goes_on_with_answer : Inline → Position → List Frame
goes_on_with_answer i p = frame.Inline (Acted i p) ∷ []

-- an inline body awaits e, to which its pair was added; it goes on at once if that has run already (15)
abbrev pub awaits : Inline → ℕ → Position → List Frame
awaits i e p = frame.Inline (Awaited i e p) ∷ []

-- a failure that nothing catches is logged as unhandled, and dropped
abbrev pub tells_failure : List Frame
tells_failure = frame.Tell ∷ []

-- what is due is run (20)
abbrev pub runs_due : List Frame
runs_due = frame.Due ∷ []

-- 3. What a rule reads of the world.

-- the number that the next one gets: the next Deferred, list, loop, call or timer, task, inline body, job
abbrev pub next_deferred : (ℕ → Rule) → Rule
next_deferred rule = By λ w. rule (length w.records)

abbrev pub next_list : (ℕ → Rule) → Rule
next_list rule = By λ w. rule (length w.objects.lists)

abbrev pub next_loop : (ℕ → Rule) → Rule
next_loop rule = By λ w. rule (length w.objects.loops)

abbrev pub next_call : (ℕ → Rule) → Rule
next_call rule = By λ w. rule (length w.objects.clock.calls)

abbrev pub next_task : (ℕ → Rule) → Rule
next_task rule = By λ w. rule (length w.objects.cooperators.tasks)

abbrev pub next_inline_body : (ℕ → Rule) → Rule
next_inline_body rule = By λ w. rule (length w.objects.inlines)

abbrev pub next_job : (ℕ → Rule) → Rule
next_job rule = By λ w. rule (length w.works)

-- the object of a number; if there is none, nothing is done
abbrev pub the_lock : ℕ → (Semaphore → Rule) → Rule
the_lock l rule = By λ w. Finds (slice_get w.objects.semaphores l) finished rule

abbrev pub the_queue : ℕ → (Queue → Rule) → Rule
the_queue k rule = By λ w. Finds (slice_get w.objects.queues k) finished rule

abbrev pub the_loop : ℕ → (LoopingCall → Rule) → Rule
the_loop l rule = By λ w. Finds (slice_get w.objects.loops l) finished rule

abbrev pub the_task : ℕ → (Task → Rule) → Rule
the_task t rule = By λ w. Finds (slice_get w.objects.cooperators.tasks t) finished rule

abbrev pub the_cooperator : ℕ → (Cooperator → Rule) → Rule
the_cooperator k rule = By λ w. Finds (cooperator_of k w) finished rule

abbrev pub the_job : ℕ → (Work → Rule) → Rule
the_job job rule = By λ w. Finds (slice_get w.works job) finished rule

-- the body of a delayed call, or else the first rule
abbrev pub the_body : ℕ → Rule → (Body → Rule) → Rule
the_body key none rule = By λ w. Finds (slice_get w.objects.bodies key) none rule

-- what an inline body awaits, where it awaits something
abbrev pub what_is_awaited : ℕ → (ℕ → Rule) → Rule
what_is_awaited i rule = By λ w. Finds (awaited_in i w) finished rule

-- the value of d
abbrev pub its_value : ℕ → (Value → Rule) → Rule
its_value d rule = By λ w. rule (value_of d w)

-- what has become of d
abbrev pub its_state : ℕ → (State → Rule) → Rule
its_state d rule = By λ w. rule (state_at d w)

-- all jobs that were submitted, the clock, the classes of failures, and these with whether ends throw
abbrev pub all_jobs : (List Work → Rule) → Rule
all_jobs rule = By λ w. rule w.works

abbrev pub the_clock : (Clock → Rule) → Rule
the_clock rule = By λ w. rule w.objects.clock

abbrev pub all_classes : (List Class → Rule) → Rule
all_classes rule = By λ w. rule w.classes

abbrev pub classes_and_ends : (List Class → Bool → Rule) → Rule
classes_and_ends rule = By λ w. rule w.classes w.ends_throw

-- whether the time of a timer is over
abbrev pub its_time_is_over : ℕ → (Bool → Rule) → Rule
its_time_is_over t rule = By λ w. rule (has_timed_out t w)

-- the first where d may still be fired, and else the second
abbrev pub if_unfired : ℕ → Rule → Rule → Rule
if_unfired d one other = By λ w. If (is_unfired d w) one other

-- whether a task has ended; true if there is no such task
abbrev pub is_over : ℕ → World → Bool
is_over t w = option_map_or (λ x. is_some x.end) (slice_get w.objects.cooperators.tasks t) true

-- the first if a task has ended, and else the second
abbrev pub if_over : ℕ → Rule → Rule → Rule
if_over t one other = By λ w. If (is_over t w) one other

-- fires d with a value, if this holds
abbrev pub fire_if : Bool → ℕ → Value → Rule
fire_if b d v = If b (Fires d v) finished

-- fires d with the value that is found, if one is
abbrev pub fire_with : ℕ → Option Value → Rule
fire_with d o = Finds o finished λ v. Fires d v

-- 4. Names. The names that an action uses are looked up from left to right before anything else.

-- with the object of a name; raises NameError if the name isn't bound
abbrev pub with_bound : Option ℕ → List ℕ → (ℕ → Rule) → Rule
with_bound number name rule = Finds number (Ends (unbound name)) rule

-- with the Deferred of a name, in which `@` may stand for itself; where there is none, the first rule
abbrev pub deferred_or : Option ℕ → List ℕ → Rule → (ℕ → Rule) → Rule
deferred_or itself name none rule = By λ w. Finds (deferred_at itself name w) none rule

abbrev pub on_deferred : Option ℕ → List ℕ → (ℕ → Rule) → Rule
on_deferred itself name rule = deferred_or itself name (Ends (unbound name)) rule

-- with several Deferreds; raises NameError for the first of their names that isn't bound
abbrev pub on_found : Found → (List ℕ → Rule) → Rule
on_found (All children) rule = rule children
on_found (Unbound name) rule = Ends (unbound name)

abbrev pub on_all : Option ℕ → List (List ℕ) → (List ℕ → Rule) → Rule
on_all itself names rule = By λ w. on_found (deferreds_at itself names w) rule

-- with the object of a name among the names of its kind
abbrev pub on_lock : List ℕ → (ℕ → Rule) → Rule
on_lock name rule = By λ w. with_bound (number_of name w.objects.locks) name rule

abbrev pub on_queue : List ℕ → (ℕ → Rule) → Rule
on_queue name rule = By λ w. with_bound (number_of name w.objects.queue_names) name rule

abbrev pub on_call : List ℕ → (ℕ → Rule) → Rule
on_call name rule = By λ w. with_bound (number_of name w.objects.call_names) name rule

abbrev pub on_loop : List ℕ → (ℕ → Rule) → Rule
on_loop name rule = By λ w. with_bound (number_of name w.objects.loop_names) name rule

abbrev pub on_task : List ℕ → (ℕ → Rule) → Rule
on_task name rule = By λ w. with_bound (number_of name w.objects.cooperators.task_names) name rule

-- with the number of the Cooperator that the script names so
abbrev pub on_cooperator : List ℕ → (ℕ → Rule) → Rule
on_cooperator name rule = By λ w. with_bound (cooperator_at name w) name rule
