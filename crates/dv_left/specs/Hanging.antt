-- Who hangs at what at the end of a run: by whom a Deferred that is unfired is to be fired, and what loops and tasks
-- wait for.
use Rattle.std.specs.Prelude.{ℕ, suc, List, [], ◌∷◌, ◌++◌, map, Option, None, Some}
use Rattle.std.specs.List.{flat_map}
use Rattle.dv_clock.specs.declared.call.Call.{Call}
use Rattle.dv_clock.specs.declared.call.CallState.{CallState}
use Rattle.dv_clock.specs.declared.call.CallState.TheVariants.{Waiting, Called, Cancelled, Dropped}
use Rattle.dv_clock.specs.declared.due.Due.TheVariants as what
use Rattle.dv_objects.specs.declared.looping_call.LoopingCall.{LoopingCall}
use Rattle.dv_objects.specs.Pair.{Pair}
use Rattle.dv_objects.specs.declared.pair.Side.{Side}
use Rattle.dv_objects.specs.declared.pair.Side.TheVariants as side
use Rattle.dv_store.specs.declared.record.Item.{Item}
use Rattle.dv_store.specs.declared.record.Item.TheVariants as item
use Rattle.dv_world.specs.World.{Records, World}
use Rattle.dv_left.specs.declared.left.Hang.{Hang}
use Rattle.dv_left.specs.declared.left.Hang.TheVariants as hang

-- a number, and at what it hangs
abbrev pub Links : Type 0 → Type 0
Links A = List (ℕ × A)

-- who is fired by a side of c that is still to be used: the Deferred that c is chained to, the list that c is a child
-- of, and that of the inline body that awaits c
abbrev pub hung_by : ℕ → Side → Links Hang
hung_by c (side.Body body) = []
hung_by c (side.Fire d) = (d, hang.Chain c) ∷ []
hung_by c (side.Timed t) = []
hung_by c (side.OnTimeout t body) = []
hung_by c (side.EndTimer t) = []
hung_by c (side.Report child) = (child.of, hang.Child c child.place) ∷ []
hung_by c side.Results = []
hung_by c (side.Hold l body) = []
hung_by c (side.Release l) = []
hung_by c (side.NextTurn l) = []
hung_by c (side.EndLoop l) = []
hung_by c (side.ResumeTask t) = []
hung_by c (side.FailTask t) = []
hung_by c (side.Resume i) = (i.of, hang.Await c) ∷ []

-- the loop whose turn waits for c
abbrev pub turn_held_by : ℕ → Side → Links ℕ
turn_held_by c (side.Body body) = []
turn_held_by c (side.Fire d) = []
turn_held_by c (side.Timed t) = []
turn_held_by c (side.OnTimeout t body) = []
turn_held_by c (side.EndTimer t) = []
turn_held_by c (side.Report child) = []
turn_held_by c side.Results = []
turn_held_by c (side.Hold l body) = []
turn_held_by c (side.Release l) = []
turn_held_by c (side.NextTurn l) = (l, c) ∷ []
turn_held_by c (side.EndLoop l) = []
turn_held_by c (side.ResumeTask t) = []
turn_held_by c (side.FailTask t) = []
turn_held_by c (side.Resume i) = []

-- the task that is held by c
abbrev pub task_held_by : ℕ → Side → Links ℕ
task_held_by c (side.Body body) = []
task_held_by c (side.Fire d) = []
task_held_by c (side.Timed t) = []
task_held_by c (side.OnTimeout t body) = []
task_held_by c (side.EndTimer t) = []
task_held_by c (side.Report child) = []
task_held_by c side.Results = []
task_held_by c (side.Hold l body) = []
task_held_by c (side.Release l) = []
task_held_by c (side.NextTurn l) = []
task_held_by c (side.EndLoop l) = []
task_held_by c (side.ResumeTask t) = (t, c) ∷ []
task_held_by c (side.FailTask t) = []
task_held_by c (side.Resume i) = []

module _ {A : Type 0} (of_side : ℕ → Side → Links A) where
  -- by the callback of a pair, beside which its errback is for the same; a hand-over is shown where its Deferred waits
  abbrev pub by_side : ℕ → Option Side → Links A
  by_side c None = []
  by_side c (Some s) = of_side c s

  abbrev pub by_item : ℕ → Item Pair → Links A
  by_item c (item.Pair pair) = by_side c pair.callback
  by_item c (item.HandOver d) = []

  -- by what Deferreds haven't used, from the one of this number on
  abbrev pub by_records : ℕ → Records → Links A
  by_records c [] = []
  by_records c (r ∷ rs) = flat_map (by_item c) r.items ++ by_records (suc c) rs

-- all of these hang at this
abbrev pub all_hung : Hang → List ℕ → Links Hang
all_hung at ds = map (λ d. (d, at)) ds

-- who waits in line at each of several, from the one of this number on
abbrev pub hung_in_lines : (ℕ → Hang) → ℕ → List (List ℕ) → Links Hang
hung_in_lines at number [] = []
hung_in_lines at number (ds ∷ lines) = all_hung (at number) ds ++ hung_in_lines at (suc number) lines

-- who gets the result of a job that isn't delivered, and who is cancelled at this time, since a timer waits for it
abbrev pub hung_at_call : ℕ → CallState → Links Hang
hung_at_call due (Waiting (what.Call name key)) = []
hung_at_call due (Waiting (what.Turn name key)) = []
hung_at_call due (Waiting what.Tick) = []
hung_at_call due (Waiting (what.TickIn name key)) = []
hung_at_call due (Waiting (what.Delivery job d)) = (d, hang.Job job) ∷ []
hung_at_call due (Waiting (what.Timeout d)) = (d, hang.Timeout due) ∷ []
hung_at_call due Called = []
hung_at_call due Cancelled = []
hung_at_call due Dropped = []

abbrev pub hung_at_calls : List Call → Links Hang
hung_at_calls calls = flat_map (λ call. hung_at_call call.due call.state) calls

-- whose Deferred is fired when a loop ends
abbrev pub hung_at_loops : ℕ → List LoopingCall → Links Hang
hung_at_loops l [] = []
hung_at_loops l (x ∷ xs) = (x.of, hang.Loop l) ∷ hung_at_loops (suc l) xs

-- who hangs at what: at Deferreds by their numbers, each in the order in which its pairs were added, then at locks,
-- queues, jobs and timers, loops and tasks
abbrev pub hung : World → Links Hang
hung w =
    by_records hung_by 0 w.records
    ++ hung_in_lines hang.Lock 0 (map (λ s. s.waiting) w.objects.semaphores)
    ++ hung_in_lines hang.Queue 0 (map (λ q. q.waiting) w.objects.queues)
    ++ hung_at_calls w.objects.clock.calls
    ++ hung_at_loops 0 w.objects.loops
    ++ hung_in_lines hang.Task 0 (map (λ x. x.waiting) w.objects.cooperators.tasks)

-- which Deferreds the turns of loops wait for
abbrev pub turns_held : World → Links ℕ
turns_held w = by_records turn_held_by 0 w.records

-- which Deferreds hold tasks
abbrev pub tasks_held : World → Links ℕ
tasks_held w = by_records task_held_by 0 w.records
