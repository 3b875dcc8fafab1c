-- Where a run leads, by what is still to be done: frames mean what is defined, each on what the one before it gave.
use Rattle.std.specs.Prelude.{ℕ, ◌≡◌, List, [], ◌∷◌, Some}
use Rattle.dv_definition.specs.Rule.{through}
use Rattle.dv_definition.specs.Scripts.{Occurrence, occurrences, within}
use Rattle.dv_frames.specs.declared.frame.Frame.{Frame}
use Rattle.dv_objects.specs.declared.performed.Performed.{Performed}
use Rattle.dv_loop.specs.Beginning.{happening}
use Rattle.dv_posts.specs.Batches.{Batch}
use Rattle.dv_script.specs.declared.script.Script.{Script}
use Rattle.dv_world.specs.World.{World, first_world}

-- frames, done in order on what was given and in a world, give this, and lead to this world
pub record Gives (frames : List Frame) (p : Performed) (w : World) (q : Performed) (after : World) : Type 0 where
  pub depth : ℕ
  pub ends : through (within depth) frames p w ≡ Some (q, after)

-- they lead to a world, whatever they give
abbrev pub Ends : List Frame → Performed → World → World → Type 0
Ends frames p w after = (q : Performed) × Gives frames p w q after

-- an event or a post happens, with all that follows
abbrev pub Happens : Occurrence → World → World → Type 0
Happens occurrence w after = let t = happening occurrence w in Ends t.0 t.1 t.2 after

-- one thing happens after the other
abbrev pub Runs : List Occurrence → World → World → Type 0
Runs [] w after = after ≡ w
Runs (occurrence ∷ occurrences) w after = (next : World) × Happens occurrence w next × Runs occurrences next after

-- a script leads, where these batches of posts are taken, from a world in which nothing is made to the world at its end
abbrev pub Means : Script → List Batch → World → Type 0
Means script batches after =
    Runs (occurrences script.callers script.events batches)
    (first_world script.classes script.bodies script.ends_throw script.limit script.cooperator script.cooperators) after
