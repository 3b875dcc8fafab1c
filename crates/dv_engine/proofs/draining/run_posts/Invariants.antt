use Rattle.std.proofs.Common.{◌≡◌, drop}
use Rattle.dv_frames.specs.Bounds.{Bounded}
use Rattle.dv_loop.specs.Meaning.{Runs}
use Rattle.dv_definition.specs.Scripts.{postings}
use Rattle.dv_engine.proofs.draining.run_posts.Given as goal
use Rattle.dv_world.specs.World.{World}

-- what the posts that are left lead to from here, all of them led to at first; and the works of all jobs so far are
-- submitted
abbrev pub invariant-loop-posted : goal.invariant-loop-posted
invariant-loop-posted g l = record {
  leads : (v : World) → Runs (postings l.callers (drop l.posted-index l.batch)) l.turn.world v
      → Runs (postings l.callers l.batch) l.fn.turn.world v;
  bounded : Bounded l.turn.world;
  jobs : l.jobs ≡ l.turn.world.works;
}
