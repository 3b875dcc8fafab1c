-- What an entry aside logs about tasks, locks, queues and loops.
use Rattle.std.specs.Prelude.{◌≡◌, ℕ, zero, suc, true, false, List, [], ◌∷◌, ◌++◌, Option, None, Some, map, slice_get}
use Rattle.std.specs.Prelude.{slice_set}
use Rattle.std.proofs.Common.{refl, ap, ◌∙◌}
use Rattle.dv_clock.specs.Turns.{Turns}
use Rattle.dv_journal.specs.declared.entry.Entry.{Entry}
use Rattle.dv_journal.specs.declared.entry.Entry.TheVariants as entry
use Rattle.dv_objects.specs.Cooperator.{Cooperator, Cooperators, all_changed, turn_in, with_new_task, with_step}
use Rattle.dv_objects.specs.Cooperator.{with_pause, with_resume, with_end, with_waiting, result_of}
use Rattle.dv_objects.specs.Objects.{Objects}
use Rattle.dv_objects.specs.declared.task.Task.{Task}
use Rattle.dv_objects.specs.declared.task.TaskEnd.{TaskEnd}
use Rattle.dv_prims.specs.Queue.{Queue, new_queue, may_put, put_to, got_from, withdrawn}
use Rattle.dv_prims.specs.Tokens.{Semaphore, new_semaphore, is_unheld, asked, released, forgotten}
use Rattle.dv_script.specs.declared.body.Body.{Body}
use Rattle.dv_value.specs.declared.value.Value.{Value}
use Rattle.dv_clock.specs.Clock.{Clock}
use Rattle.dv_objects.specs.Looping.{new_loop, next_due}
use Rattle.dv_objects.specs.declared.looping_call.LoopingCall.{LoopingCall}
use Rattle.dv_laws.specs.Loops.{looping_of, Unlooped}
use Rattle.dv_laws.specs.Stored.{queueing_of, Unqueued}
use Rattle.dv_laws.specs.Tasks.{tasking_of, Untasked}
use Rattle.dv_laws.specs.Tokens.{holding_of, Unheld}

-- who takes turns, in each Cooperator
abbrev pub all_turns : List Cooperator → List (List ℕ)
all_turns all = map (λ (one : Cooperator). one.turns.tasks) all

-- a Cooperator that changes otherwise, by whether it is the first of these or is found among the others
later_changes : (k : ℕ) (change : Cooperator → Cooperator) (o : Option Cooperator) (one : Cooperator)
    (all : List Cooperator) → all_changed (suc k) change o (one ∷ all) ≡ one ∷ all_changed k change o all
later_changes k change None one all = refl
later_changes k change (Some found) one all = refl

-- it leaves who takes turns
pub turns_stay : (k : ℕ) (change : Cooperator → Cooperator) (all : List Cooperator)
    → ((one : Cooperator) → (change one).turns.tasks ≡ one.turns.tasks)
    → all_turns (all_changed k change (slice_get all k) all) ≡ all_turns all
turns_stay k change [] same = refl
turns_stay zero change (one ∷ all) same = ap (λ (tasks : List ℕ). tasks ∷ all_turns all) (same one)
turns_stay (suc k) change (one ∷ all) same =
    ap all_turns (later_changes k change (slice_get all k) one all)
    ∙ ap (λ (tasks : List (List ℕ)). one.turns.tasks ∷ tasks) (turns_stay k change all same)

-- tasks stay, or one is made, takes a step, or ends, which is logged, or is paused, resumed or awaited
pub data Tasks (e : Entry) (c : Cooperators) : Cooperators → Type 0 where
  TasksRest : (new : Cooperators) → tasking_of e ≡ Untasked → new.tasks ≡ c.tasks → all_turns new.all ≡ all_turns c.all
      → Tasks e c new
  TaskMade : (name : List ℕ) (bodies : List Body) → e ≡ entry.Task name → Tasks e c (with_new_task 0 name bodies c)
  TaskMadeIn : (k : ℕ) (name of : List ℕ) (bodies : List Body) → e ≡ entry.TaskIn name of
      → Tasks e c (with_new_task k name bodies c)
  TaskSteps : (k t : ℕ) (x : Task) → turn_in (slice_get c.all k) ≡ Some t → slice_get c.tasks t ≡ Some x
      → e ≡ entry.Step x.name → Tasks e c (with_step t x c)
  TaskEnds : (t : ℕ) (end : TaskEnd) (x : Task) → slice_get c.tasks t ≡ Some x → x.end ≡ None
      → e ≡ entry.End x.name (result_of x.name end) → Tasks e c (with_end t end x c)
  TaskPaused : (t : ℕ) (x : Task) → slice_get c.tasks t ≡ Some x → tasking_of e ≡ Untasked
      → Tasks e c (with_pause t x c)
  TaskResumed : (t : ℕ) (x : Task) → slice_get c.tasks t ≡ Some x → tasking_of e ≡ Untasked
      → Tasks e c (with_resume t x c)
  TaskAwaited : (t d : ℕ) (x : Task) → slice_get c.tasks t ≡ Some x → tasking_of e ≡ Untasked
      → Tasks e c (with_waiting t d x c)

-- locks stay, or one or a semaphore is made, or a token of one is asked for or released, which is logged
pub data Locks (e : Entry) (old : List Semaphore) : List Semaphore → Type 0 where
  LocksRest : (new : List Semaphore) → holding_of e ≡ Unheld → new ≡ old → Locks e old new
  LockMade : (name : List ℕ) → e ≡ entry.Lock name → Locks e old (old ++ new_semaphore name 1 ∷ [])
  SemaphoreMade : (name : List ℕ) (tokens : ℕ) → e ≡ entry.Semaphore name tokens
      → Locks e old (old ++ new_semaphore name tokens ∷ [])
  LockAsked : (l d : ℕ) (s : Semaphore) → slice_get old l ≡ Some s → e ≡ entry.Acquire s.name d
      → Locks e old (slice_set old l (asked d s))
  LockReleased : (l : ℕ) (s : Semaphore) → slice_get old l ≡ Some s → is_unheld s ≡ false → e ≡ entry.Release s.name
      → Locks e old (slice_set old l (released s))

-- queues stay, or one is made, or a value is put into one or asked for, which is logged
pub data Queues (e : Entry) (old : List Queue) : List Queue → Type 0 where
  QueuesRest : (new : List Queue) → queueing_of e ≡ Unqueued → new ≡ old → Queues e old new
  QueueMade : (name : List ℕ) (size backlog : Option ℕ) → e ≡ entry.Queue name size backlog
      → Queues e old (old ++ new_queue name size backlog ∷ [])
  QueuePut : (k : ℕ) (value : Value) (q : Queue) → slice_get old k ≡ Some q → may_put q ≡ true
      → e ≡ entry.Put q.name value → Queues e old (slice_set old k (put_to q.waiting value q))
  QueueGot : (k d : ℕ) (q : Queue) → slice_get old k ≡ Some q → e ≡ entry.Get q.name d
      → Queues e old (slice_set old k (got_from q.stored d q))

-- loops stay, or one keeps its name, its start and its interval
pub data LoopsKept (old : List LoopingCall) : List LoopingCall → Type 0 where
  SameLoops : (new : List LoopingCall) → new ≡ old → LoopsKept old new
  LoopSet : (l : ℕ) (x y : LoopingCall) → slice_get old l ≡ Some x → y.name ≡ x.name → y.start ≡ x.start
      → y.interval ≡ x.interval → LoopsKept old (slice_set old l y)

-- so it is where nothing is logged of loops; or one is started, or its next turn is scheduled, which is logged
pub data Loops (e : Entry) (clock : Clock) (old : List LoopingCall) : List LoopingCall → Type 0 where
  LoopsRest : (new : List LoopingCall) → looping_of e ≡ Unlooped → LoopsKept old new → Loops e clock old new
  LoopStarts : (name : List ℕ) (d interval : ℕ) (body : Body) (bodies : List Body) → e ≡ entry.Loop name d
      → Loops e clock old (old ++ new_loop name d clock.time interval body bodies ∷ [])
  LoopTurns : (l : ℕ) (x y : LoopingCall) → slice_get old l ≡ Some x → y.name ≡ x.name → y.start ≡ x.start
      → y.interval ≡ x.interval → e ≡ entry.LaterLoop x.name (next_due x clock) → Loops e clock old (slice_set old l y)

pub record Beside (e : Entry) (old new : Objects) : Type 0 where
  pub tasks : Tasks e old.cooperators new.cooperators
  pub locks : Locks e old.semaphores new.semaphores
  pub queues : Queues e old.queues new.queues
  pub loops : Loops e old.clock old.loops new.loops

-- nothing of them changes, and nothing is logged of them
pub resting : (e : Entry) (old new : Objects) → tasking_of e ≡ Untasked → holding_of e ≡ Unheld
    → queueing_of e ≡ Unqueued → looping_of e ≡ Unlooped → new.cooperators.tasks ≡ old.cooperators.tasks
    → all_turns new.cooperators.all ≡ all_turns old.cooperators.all → new.semaphores ≡ old.semaphores
    → new.queues ≡ old.queues → new.loops ≡ old.loops → Beside e old new
resting e old new a b c d p q r s t = record {
  tasks = TasksRest new.cooperators a p q;
  locks = LocksRest new.semaphores b r;
  queues = QueuesRest new.queues c s;
  loops = LoopsRest new.loops d (SameLoops new.loops t);
}

-- what isn't logged leaves tasks as they are, and one waits no longer for a token, or for a value
pub data LocksKept (old : List Semaphore) : List Semaphore → Type 0 where
  SameLocks : (new : List Semaphore) → new ≡ old → LocksKept old new
  LockForgets : (l d : ℕ) (s : Semaphore) → slice_get old l ≡ Some s → LocksKept old (slice_set old l (forgotten d s))

pub data QueuesKept (old : List Queue) : List Queue → Type 0 where
  SameQueues : (new : List Queue) → new ≡ old → QueuesKept old new
  QueueForgets : (k d : ℕ) (q : Queue) → slice_get old k ≡ Some q → QueuesKept old (slice_set old k (withdrawn d q))

pub record Arranged (old new : Objects) : Type 0 where
  pub tasks : new.cooperators.tasks ≡ old.cooperators.tasks
  pub turns : all_turns new.cooperators.all ≡ all_turns old.cooperators.all
  pub locks : LocksKept old.semaphores new.semaphores
  pub queues : QueuesKept old.queues new.queues
  pub loops : LoopsKept old.loops new.loops

pub arranging : (old new : Objects) → new.cooperators.tasks ≡ old.cooperators.tasks
    → all_turns new.cooperators.all ≡ all_turns old.cooperators.all → new.semaphores ≡ old.semaphores
    → new.queues ≡ old.queues → new.loops ≡ old.loops → Arranged old new
arranging old new p q r s t = record {
  tasks = p;
  turns = q;
  locks = SameLocks new.semaphores r;
  queues = SameQueues new.queues s;
  loops = SameLoops new.loops t;
}
