-- What stands beside the Deferreds: names, locks and semaphores, queues, what DeferredLists have of their children, the
-- clock with its delayed calls, loops, the Cooperators, and what inline bodies wait for.
use Rattle.std.specs.Prelude.{ℕ, List, [], ◌∷◌, ◌++◌, length, Option, None, Some, slice_set}
use Rattle.dv_clock.specs.Clock.{Clock, new_clock, with_call, ended, moved}
use Rattle.dv_clock.specs.declared.call.CallState.{CallState}
use Rattle.dv_clock.specs.declared.call.CallState.TheVariants.{Dropped}
use Rattle.dv_clock.specs.declared.due.Due.{Due}
use Rattle.dv_clock.specs.declared.due.Due.TheVariants.{Call, Delivery, Timeout}
use Rattle.dv_prims.specs.DeferredList.{Gather, new_gather}
use Rattle.dv_prims.specs.Queue.{Queue, new_queue}
use Rattle.dv_prims.specs.Tokens.{Semaphore, new_semaphore}
use Rattle.dv_prims.specs.declared.gather.Flags.{Flags}
use Rattle.dv_script.specs.declared.body.Body.{Body}
use Rattle.dv_script.specs.declared.script.Cooperator.{Cooperator as Settings}
use Rattle.dv_script.specs.declared.script.NamedCooperator.{NamedCooperator}
use Rattle.dv_objects.specs.Cooperator.{Cooperators, new_cooperators, changed}
use Rattle.dv_objects.specs.Inlines.{Inlines}
use Rattle.dv_objects.specs.Names.{Names, with_name}
use Rattle.dv_objects.specs.declared.waiting.Waiting.TheVariants.{Nothing}
use Rattle.dv_objects.specs.declared.looping_call.LoopingCall.{LoopingCall}

-- what stands beside the Deferreds: their names, locks and semaphores with theirs, queues with theirs, and the lists;
-- the clock, delayed calls with their names, and their bodies; loops with theirs, the Cooperators with their tasks, and
-- what inline bodies wait for
pub record Objects : Type 0 where
  pub names : Names ℕ
  pub locks : Names ℕ
  pub semaphores : List Semaphore
  pub queue_names : Names ℕ
  pub queues : List Queue
  pub lists : List Gather
  pub clock : Clock
  pub call_names : Names ℕ
  pub bodies : List Body
  pub loop_names : Names ℕ
  pub loops : List LoopingCall
  pub cooperators : Cooperators
  pub inlines : Inlines

-- nothing stands there at first but Cooperators without tasks
abbrev pub no_objects : Settings → List NamedCooperator → Objects
no_objects settings named = record {
  names = [];
  locks = [];
  semaphores = [];
  queue_names = [];
  queues = [];
  lists = [];
  clock = new_clock;
  call_names = [];
  bodies = [];
  loop_names = [];
  loops = [];
  cooperators = new_cooperators settings named;
  inlines = [];
}

-- a name of a Deferred is bound
abbrev pub naming : List ℕ → ℕ → Objects → Objects
naming name d objects = record objects { names = with_name name d objects.names }

-- the same where there is a name
abbrev pub naming_where : Option (List ℕ) → ℕ → Objects → Objects
naming_where None d objects = objects
naming_where (Some name) d objects = naming name d objects

-- a lock is added, and its name is bound to it
abbrev pub with_added_lock : List ℕ → Semaphore → Objects → Objects
with_added_lock name s objects = record objects {
  locks = with_name name (length objects.semaphores) objects.locks;
  semaphores = objects.semaphores ++ s ∷ [];
}

-- a lock is made, of which no token is held
abbrev pub with_new_lock : List ℕ → ℕ → Objects → Objects
with_new_lock name tokens objects = with_added_lock name (new_semaphore name tokens) objects

-- a lock is now this
abbrev pub with_lock : ℕ → Semaphore → Objects → Objects
with_lock l s objects = record objects { semaphores = slice_set objects.semaphores l s }

-- the lock that is found changes, which isn't logged; an id of no lock changes nothing
abbrev pub lock_changed : ℕ → (Semaphore → Semaphore) → Option Semaphore → Objects → Objects
lock_changed l change None objects = objects
lock_changed l change (Some s) objects = with_lock l (change s) objects

-- a queue is added, and its name is bound to it
abbrev pub with_added_queue : List ℕ → Queue → Objects → Objects
with_added_queue name q objects = record objects {
  queue_names = with_name name (length objects.queues) objects.queue_names;
  queues = objects.queues ++ q ∷ [];
}

-- a queue is made, in which nothing is stored
abbrev pub with_new_queue : List ℕ → Option ℕ → Option ℕ → Objects → Objects
with_new_queue name size backlog objects = with_added_queue name (new_queue name size backlog) objects

-- a queue is now this
abbrev pub with_queue : ℕ → Queue → Objects → Objects
with_queue k q objects = record objects { queues = slice_set objects.queues k q }

-- the queue that is found changes, which isn't logged; an id of no queue changes nothing
abbrev pub queue_changed : ℕ → (Queue → Queue) → Option Queue → Objects → Objects
queue_changed k change None objects = objects
queue_changed k change (Some q) objects = with_queue k (change q) objects

-- a list is added, no child of which has fired
abbrev pub with_new_list : ℕ → Flags → Objects → Objects
with_new_list children flags objects = record objects { lists = objects.lists ++ new_gather children flags ∷ [] }

-- a list is now this
abbrev pub with_list : ℕ → Gather → Objects → Objects
with_list l g objects = record objects { lists = slice_set objects.lists l g }

-- a delayed call of this body is added, which is due at this time, and its name is bound to it
abbrev pub with_new_call : List ℕ → ℕ → Body → Objects → Objects
with_new_call name due body objects =
    record objects {
      clock = with_call due (Call name (length objects.bodies)) objects.clock;
      call_names = with_name name (length objects.clock.calls) objects.call_names;
      bodies = objects.bodies ++ body ∷ [];
    }

-- the delivery of a job's result to d is added, which is due at this time
abbrev pub with_delivery : ℕ → ℕ → ℕ → Objects → Objects
with_delivery job d due objects = record objects { clock = with_call due (Delivery job d) objects.clock }

-- a timer of d is added, which expires then
abbrev pub with_timer : ℕ → ℕ → Objects → Objects
with_timer d due objects = record objects { clock = with_call due (Timeout d) objects.clock }

-- a call waits no longer
abbrev pub with_ended_call : ℕ → CallState → Objects → Objects
with_ended_call number state objects = record objects { clock = ended number state objects.clock }

-- a call that waits is due at this time
abbrev pub with_moved_call : ℕ → ℕ → Objects → Objects
with_moved_call number due objects = record objects { clock = moved number due objects.clock }

-- it is this time
abbrev pub with_time : ℕ → Objects → Objects
with_time time objects = record objects { clock = record objects.clock { time = time } }

-- the Cooperators change
abbrev pub cooperating : (Cooperators → Cooperators) → Objects → Objects
cooperating change objects = record objects { cooperators = change objects.cooperators }

-- a tick of a Cooperator is scheduled, which is due at this time
abbrev pub with_tick : ℕ → Due → ℕ → Objects → Objects
with_tick k what due objects = record objects {
  clock = with_call due what objects.clock;
  cooperators = changed k (λ one. record one { tick = Some (length objects.clock.calls) }) objects.cooperators;
}

-- the tick of a Cooperator that is scheduled is dropped
abbrev pub without_tick : ℕ → ℕ → Objects → Objects
without_tick k number objects = record objects {
  clock = ended number Dropped objects.clock;
  cooperators = changed k (λ one. record one { tick = None }) objects.cooperators;
}

-- what inline bodies wait for changes
abbrev pub inlining : (Inlines → Inlines) → Objects → Objects
inlining change objects = record objects { inlines = change objects.inlines }

-- an inline body is added, which waits for nothing
abbrev pub with_new_inline : Objects → Objects
with_new_inline objects = inlining (λ inlines. inlines ++ Nothing ∷ []) objects
