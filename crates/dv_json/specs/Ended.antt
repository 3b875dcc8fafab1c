-- The end of a run.
use Rattle.std.specs.Prelude.{◌≡◌}
use Rattle.dv_definition.specs.Scripts.{Leads}
use Rattle.dv_jobs.specs.Jobs.{jobs_from}
use Rattle.dv_jobs.specs.Sources.{jobs_of}
use Rattle.dv_json.specs.declared.marked.Marked.{Marked}
use Rattle.dv_left.specs.Remains.{RemainsOf}
use Rattle.dv_posts.specs.Batches.{AreComplete, AreLawful}
use Rattle.dv_script.specs.declared.script.Script.{Script}
use Rattle.dv_world.specs.World.{World}

-- what a script leads to with the batches that were taken, which are lawful and hold all posts; and each job ran once,
-- with its work
pub record Ends (script : Script) (end : Marked) : Type 0 where
  pub world : World
  pub means : Leads script end.batches world
  pub lawful : AreLawful script end.batches
  pub complete : AreComplete script end.batches
  pub ran : jobs_of end.ran.dones ≡ jobs_from 0 world.works
  pub remains : RemainsOf world end.remains
