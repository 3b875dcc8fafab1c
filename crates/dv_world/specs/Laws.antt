-- What holds of every task, and of the turns of every loop.
use Rattle.std.specs.Prelude.{◌≡◌, ℕ, List, [], Option, Some, None, slice_get}
use Rattle.std.specs.Option.{option_map_or}
use Rattle.dv_script.specs.declared.body.Body.{Body}
use Rattle.dv_world.specs.World.{World, new_task, new_task_in, take_step, pause_task, resume_task, hold_task}
use Rattle.dv_world.specs.World.{await_task, end_task}
use Rattle.dv_objects.specs.Looping.{after_turns, body_or_last}
use Rattle.dv_objects.specs.declared.looping_call.LoopingCall.{LoopingCall}
use Rattle.dv_objects.specs.declared.task.Task.{Task}
use Rattle.dv_objects.specs.declared.task.TaskEnd.{TaskEnd}

-- each turn of a loop has its body: turn k the k-th, from 0 on, and from the last one on that
abbrev pub TurnsHaveTheirBodies : Type 0
TurnsHaveTheirBodies = (turn : ℕ) (x : LoopingCall) → (after_turns turn x).body ≡ body_or_last turn x.body x.bodies

-- how task t has ended, if it has
abbrev pub end_in : ℕ → List Task → Option TaskEnd
end_in t tasks = option_map_or (λ x. x.end) (slice_get tasks t) None

abbrev pub end_of : ℕ → World → Option TaskEnd
end_of t w = end_in t w.objects.cooperators.tasks

-- what comes of a world, whatever is done with its tasks, and whatever is done that leaves them as they are
pub data Becomes (w : World) : World → Type 0 where
  Same : Becomes w w
  Elsewhere : (v u : World) → u.objects.cooperators.tasks ≡ v.objects.cooperators.tasks → Becomes w v → Becomes w u
  Makes : (v : World) (name : List ℕ) (bodies : List Body) → Becomes w v
      → Becomes w (new_task name bodies v)
  MakesIn : (v : World) (k : ℕ) (name of : List ℕ) (bodies : List Body) → Becomes w v
      → Becomes w (new_task_in k name of bodies v)
  Steps : (v : World) (k : ℕ) → Becomes w v → Becomes w (take_step k v).1
  Pauses : (v : World) (t : ℕ) → Becomes w v → Becomes w (pause_task t v)
  Resumes : (v : World) (t : ℕ) → Becomes w v → Becomes w (resume_task t v)
  Holds : (v : World) (t e : ℕ) → Becomes w v → Becomes w (hold_task t e v)
  Awaits : (v : World) (t d : ℕ) → Becomes w v → Becomes w (await_task t d v)
  Ends : (v : World) (t : ℕ) (end : TaskEnd) → Becomes w v → Becomes w (end_task t end v).1

-- a task that has ended stays as it has ended
abbrev pub TasksEndOnce : Type 0
TasksEndOnce = (w u : World) (t : ℕ) (end : TaskEnd) → end_of t w ≡ Some end → Becomes w u → end_of t u ≡ Some end

-- and where it is to end again, nothing is logged, and none is returned
abbrev pub EndedTasksAreLeftAlone : Type 0
EndedTasksAreLeftAlone =
    (w : World) (t : ℕ) (end again : TaskEnd) → end_of t w ≡ Some end → end_task t again w ≡ ([], w)
