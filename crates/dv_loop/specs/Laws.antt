-- Laws of whole runs.
use Rattle.std.specs.Prelude.{◌≡◌, ℕ, true, List, Option}
use Rattle.dv_script.specs.declared.action.Action.{Action, out-Action}
use Rattle.dv_script.specs.declared.script.Script.{Script}
use Rattle.dv_loop.specs.Acting.{begun}
use Rattle.dv_posts.specs.Batches.{Batch}
use Rattle.dv_loop.specs.Meaning.{Gives, Means}
use Rattle.dv_frames.specs.declared.frame.Frame.{Frame}
use Rattle.dv_world.specs.World.{World}
use Rattle.dv_objects.specs.declared.performed.Performed.{Performed}

-- frames end, whatever was given before them and in every world
abbrev pub FramesEnd : Type 0
FramesEnd =
    (frames : List Frame) (p : Performed) (w : World) → (q : Performed) × (after : World) × Gives frames p w q after

-- in one way
abbrev pub FramesHaveOneResult : Type 0
FramesHaveOneResult =
    (frames : List Frame) (p : Performed) (w : World) (q r : Performed) (u v : World) → Gives frames p w q u
    → Gives frames p w r v → (q ≡ r) × (u ≡ v)

-- nothing that is done changes a world that has stopped
abbrev pub StoppedWorldsStay : Type 0
StoppedWorldsStay =
    (frames : List Frame) (p : Performed) (w : World) (q : Performed) (u : World) → w.stopped ≡ true
    → Gives frames p w q u → u ≡ w

-- nor does an action
abbrev pub StoppedActionsStay : Type 0
StoppedActionsStay =
    (itself : Option ℕ) (action : Action) (w : World) (q : Performed) (u : World) → w.stopped ≡ true
    → (let t = begun itself (out-Action action) w in Gives t.0 t.1 t.2 q u) → u ≡ w

-- every script leads to a world, whatever batches of posts are taken
abbrev pub EveryScriptEnds : Type 0
EveryScriptEnds = (script : Script) (batches : List Batch) → (after : World) × Means script batches after

-- and to one only
abbrev pub EachScriptHasOneMeaning : Type 0
EachScriptHasOneMeaning =
    (script : Script) (batches : List Batch) (u v : World) → Means script batches u → Means script batches v → u ≡ v
