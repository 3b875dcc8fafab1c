-- What is left at the end of a run: `left_of`.
use Rattle.std.specs.Prelude.{ℕ, suc, Bool, not, ◌&&◌, is_none, is_some, nat_eq, if◌then◌else◌, List, [], ◌∷◌, ◌++◌}
use Rattle.std.specs.Prelude.{length, map, Option, None, Some}
use Rattle.std.specs.List.{flat_map}
use Rattle.std.specs.Option.{option_and_then}
use Rattle.dv_clock.specs.Clock.{due_of}
use Rattle.dv_clock.specs.declared.call.Call.{Call}
use Rattle.dv_clock.specs.declared.call.CallState.{CallState}
use Rattle.dv_clock.specs.declared.call.CallState.TheVariants.{Waiting, Called, Cancelled, Dropped}
use Rattle.dv_clock.specs.declared.due.Due.TheVariants as what
use Rattle.dv_journal.specs.Told.{is_unhandled}
use Rattle.dv_journal.specs.declared.entry.Entry.{Entry}
use Rattle.dv_objects.specs.declared.canceller.Canceller.{Canceller}
use Rattle.dv_objects.specs.declared.looping_call.LoopingCall.{LoopingCall}
use Rattle.dv_objects.specs.Pair.{Pair}
use Rattle.dv_objects.specs.declared.task.Task.{Task}
use Rattle.dv_prims.specs.Queue.{Queue}
use Rattle.dv_prims.specs.Tokens.{Semaphore}
use Rattle.dv_prims.specs.declared.queue.QueueParts.{QueueParts}
use Rattle.dv_prims.specs.declared.semaphore.SemaphoreParts.{SemaphoreParts}
use Rattle.dv_store.specs.declared.record.Record.{Record}
use Rattle.dv_value.specs.Failure.{is_fault}
use Rattle.dv_value.specs.declared.value.Value.{Value}
use Rattle.dv_world.specs.World.{World}
use Rattle.dv_left.specs.Hanging.{hung, turns_held, tasks_held}
use Rattle.dv_left.specs.Lists.{items_of}
use Rattle.dv_left.specs.declared.left.Hang.{Hang}
use Rattle.dv_left.specs.declared.left.Hang.TheVariants as hang
use Rattle.dv_left.specs.declared.left.Left.{Left}
use Rattle.dv_left.specs.declared.left.Left.TheVariants as left
use Rattle.dv_left.specs.declared.left.Stage.{Stage}
use Rattle.dv_left.specs.declared.left.Stage.TheVariants as stage
use Rattle.dv_left.specs.declared.telling.Standing.{Standing}

-- 1. Deferreds.

-- what is known of a Deferred, but for its outcome and what it hasn't used
abbrev pub standing_of : Record Pair Canceller → Standing
standing_of r = record {
  fired = r.fired;
  running = r.running;
  pauses = r.pauses;
  waits_for = r.waits_for;
  failed = is_fault r.value;
}

-- whether it is unfired, waits, or has a value
abbrev pub stage_of : Standing → Stage
stage_of s = if s.fired then (if is_some s.waits_for then stage.Waiting else stage.Fired) else stage.Unfired

-- nothing is left of one that is fired, doesn't wait, isn't paused, and no side of which runs
abbrev pub is_settled : Standing → Bool
is_settled s = s.fired && is_none s.waits_for && nat_eq s.pauses 0 && not s.running

-- one that waits hangs at that one
abbrev pub waits_at : Option ℕ → List Hang
waits_at None = []
waits_at (Some e) = hang.Waits e ∷ []

-- one that is unfired hangs at all that is to fire it
abbrev pub hangs_of : List Hang → Standing → List Hang
hangs_of unfired s = if s.fired then waits_at s.waits_for else unfired

abbrev pub left_waiting : ℕ → List Hang → Standing → List Left
left_waiting d unfired s =
    if is_settled s then []
    else left.Deferred
    (record { id = d; stage = stage_of s; pauses = s.pauses; running = s.running; hangs = hangs_of unfired s }) ∷ []

-- nobody trapped the failure that it ends with
abbrev pub has_failed : Standing → Bool
has_failed s = s.fired && is_none s.waits_for && s.failed

abbrev pub left_failure : ℕ → Standing → List Left
left_failure d s = if has_failed s then left.Failure d ∷ [] else []

abbrev pub left_deferred : ℕ → List Hang → Standing → List Left
left_deferred d unfired s = left_waiting d unfired s ++ left_failure d s

-- from the Deferred of this number on, where those that are unfired hang so
abbrev pub left_deferreds : (ℕ → List Hang) → ℕ → List Standing → List Left
left_deferreds hangs d [] = []
left_deferreds hangs d (s ∷ ss) = left_deferred d (hangs d) s ++ left_deferreds hangs (suc d) ss

-- 2. The clock: what waits for its time, but for turns of loops.

abbrev pub left_call : ℕ → CallState → List Left
left_call due (Waiting (what.Call name number)) = left.Call number due ∷ []
left_call due (Waiting (what.Turn name key)) = []
left_call due (Waiting what.Tick) = left.Tick due ∷ []
left_call due (Waiting (what.TickIn name key)) = left.TickIn name due ∷ []
left_call due (Waiting (what.Delivery job d)) = left.Delivery job d due ∷ []
left_call due (Waiting (what.Timeout d)) = left.Timeout d due ∷ []
left_call due Called = []
left_call due Cancelled = []
left_call due Dropped = []

abbrev pub left_calls : List Call → List Left
left_calls calls = flat_map (λ call. left_call call.due call.state) calls

-- 3. Loops that go on, each with the time of its next turn, where one is scheduled.

abbrev pub next_turn : List Call → LoopingCall → Option ℕ
next_turn calls x = option_and_then (λ number. due_of number calls) x.turn

abbrev pub left_loop : ℕ → List Call → List ℕ → LoopingCall → List Left
left_loop l calls held_by x =
    if x.running then left.Loop (record { number = l; of = x.of; due = next_turn calls x; waits_for = held_by }) ∷ []
    else []

abbrev pub left_loops : (ℕ → List ℕ) → List Call → ℕ → List LoopingCall → List Left
left_loops held calls l [] = []
left_loops held calls l (x ∷ xs) = left_loop l calls (held l) x ++ left_loops held calls (suc l) xs

-- 4. Tasks that haven't ended.

abbrev pub left_task : ℕ → List ℕ → Task → List Left
left_task t held_by x =
    if is_some x.end then []
    else left.Task (record { number = t; pauses = x.pauses; bodies = length x.bodies; waits_for = held_by }) ∷ []

abbrev pub left_tasks : (ℕ → List ℕ) → ℕ → List Task → List Left
left_tasks held t [] = []
left_tasks held t (x ∷ xs) = left_task t (held t) x ++ left_tasks held (suc t) xs

-- 5. Locks and semaphores of which tokens are given.

-- what a lock has when it is dropped
abbrev pub lock_of : Semaphore → SemaphoreParts
lock_of s = record { name = s.name; tokens = s.tokens; given = s.given; waiting = s.waiting }

abbrev pub left_tokens : ℕ → SemaphoreParts → List Left
left_tokens l s =
    if nat_eq s.given 0 then []
    else left.Tokens (record { number = l; given = s.given; tokens = s.tokens; waiting = s.waiting }) ∷ []

abbrev pub left_locks : ℕ → List SemaphoreParts → List Left
left_locks l [] = []
left_locks l (s ∷ ss) = left_tokens l s ++ left_locks (suc l) ss

-- 6. Queues: who waits for a value, and values that nobody got.

-- what a queue has when it is dropped
abbrev pub queue_of : Queue → QueueParts
queue_of q = record { name = q.name; stored = q.stored; waiting = q.waiting }

abbrev pub left_getters : ℕ → List ℕ → List Left
left_getters k [] = []
left_getters k (d ∷ ds) = left.Getters k (d ∷ ds) ∷ []

abbrev pub left_values : ℕ → List Value → List Left
left_values k [] = []
left_values k (v ∷ vs) = left.Values k (v ∷ vs) ∷ []

abbrev pub left_queue : ℕ → QueueParts → List Left
left_queue k q = left_getters k q.waiting ++ left_values k q.stored

abbrev pub left_queues : ℕ → List QueueParts → List Left
left_queues k [] = []
left_queues k (q ∷ qs) = left_queue k q ++ left_queues (suc k) qs

-- 7. Failures that were logged as unhandled, by their places in the journal.

abbrev pub left_entry : ℕ → Entry → List Left
left_entry n e = if is_unhandled e then left.Unhandled n ∷ [] else []

abbrev pub left_unhandled : ℕ → List Entry → List Left
left_unhandled n [] = []
left_unhandled n (e ∷ es) = left_entry n e ++ left_unhandled (suc n) es

-- 8. What is left of a world, in this order.
abbrev pub left_of : World → List Left
left_of w =
    left_deferreds (λ d. items_of d (hung w)) 0 (map standing_of w.records)
    ++ left_calls w.objects.clock.calls
    ++ left_loops (λ l. items_of l (turns_held w)) w.objects.clock.calls 0 w.objects.loops
    ++ left_tasks (λ t. items_of t (tasks_held w)) 0 w.objects.cooperators.tasks
    ++ left_locks 0 (map lock_of w.objects.semaphores)
    ++ left_queues 0 (map queue_of w.objects.queues)
    ++ left_unhandled 0 w.journal.entries
