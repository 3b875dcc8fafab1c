-- How links are gathered. This is part of the code, not of the meaning.
use Rattle.std.specs.Prelude.{ℕ, List, [], ◌++◌, map, replicate}
use Rattle.dv_clock.specs.declared.call.Call.{Call}
use Rattle.dv_objects.specs.declared.looping_call.LoopingCall.{LoopingCall}
use Rattle.dv_objects.specs.declared.task.Task.{Task}
use Rattle.dv_prims.specs.declared.queue.QueueParts.{QueueParts}
use Rattle.dv_prims.specs.declared.semaphore.SemaphoreParts.{SemaphoreParts}
use Rattle.dv_left.specs.Hanging.{Links, hung_in_lines, hung_at_calls, hung_at_loops}
use Rattle.dv_left.specs.Left.{left_calls, left_loops, left_tasks, left_locks, left_queues}
use Rattle.dv_left.specs.Lists.{all_joined, list_at}
use Rattle.dv_left.specs.declared.left.Hang.{Hang}
use Rattle.dv_left.specs.declared.left.Hang.TheVariants as hang
use Rattle.dv_left.specs.declared.left.Left.{Left}
use Rattle.dv_left.specs.declared.linking.Links.{Links as Gathered}

-- nothing is gathered of so many Deferreds, loops and tasks
abbrev pub no_links : ℕ → ℕ → ℕ → Gathered
no_links deferreds loops tasks =
    record { deferreds = replicate deferreds []; loops = replicate loops []; tasks = replicate tasks [] }

-- more who hang, more Deferreds that turns wait for, and more that hold tasks
abbrev pub with_links : Links Hang → Links ℕ → Links ℕ → Gathered → Gathered
with_links hung turns tasks links =
    record {
      deferreds = all_joined hung links.deferreds;
      loops = all_joined turns links.loops;
      tasks = all_joined tasks links.tasks;
    }

-- more who hang
abbrev pub with_hung : Links Hang → Gathered → Gathered
with_hung hung links = record links { deferreds = all_joined hung links.deferreds }

-- who hangs at what else than Deferreds
abbrev pub hung_beside : List SemaphoreParts → List QueueParts → List Call → List LoopingCall → List Task → Links Hang
hung_beside locks queues calls loops tasks =
    hung_in_lines hang.Lock 0 (map (λ s. s.waiting) locks)
    ++ hung_in_lines hang.Queue 0 (map (λ q. q.waiting) queues)
    ++ hung_at_calls calls
    ++ hung_at_loops 0 loops
    ++ hung_in_lines hang.Task 0 (map (λ x. x.waiting) tasks)

-- what is left of all but Deferreds and the journal
abbrev pub left_beside : Gathered → List Call → List LoopingCall → List Task → List SemaphoreParts → List QueueParts
    → List Left
left_beside links calls loops tasks locks queues =
    left_calls calls
    ++ left_loops (λ l. list_at l links.loops) calls 0 loops
    ++ left_tasks (λ t. list_at t links.tasks) 0 tasks
    ++ left_locks 0 locks
    ++ left_queues 0 queues
