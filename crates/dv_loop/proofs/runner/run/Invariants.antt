use Rattle.std.proofs.Common.{◌≡◌}
use Rattle.dv_frames.specs.Bounds.{Bounded}
use Rattle.dv_loop.specs.Meaning.{Gives}
use Rattle.dv_loop.proofs.Halts.{turns_of}
use Rattle.dv_loop.proofs.runner.run.Given as goal
use Rattle.dv_world.specs.World.{World}
use Rattle.dv_objects.specs.declared.performed.Performed.{Performed}

-- what the stack leads to from here, it led to at first; and the works of all jobs so far are submitted
abbrev pub invariant-turns : goal.invariant-turns
invariant-turns g l = record {
  leads : (q : Performed) (v : World) → Gives l.turn.stack l.turn.performed l.turn.world q v
      → Gives l.fn.turn.stack l.fn.turn.performed l.fn.turn.world q v;
  bounded : Bounded l.turn.world;
  jobs : l.jobs ≡ l.turn.world.works;
}

abbrev pub decreases-turns : goal.decreases-turns
decreases-turns g l = turns_of l.turn.stack l.turn.performed l.turn.world
