-- What a world results in at its end.
use Rattle.std.specs.Prelude.{◌≡◌, map}
use Rattle.dv_store.specs.Outcome.{outcome_of}
use Rattle.dv_world.specs.World.{World}
use Rattle.dv_left.specs.Left.{left_of}
use Rattle.dv_left.specs.declared.end.Remains.{Remains}

-- its journal, whether it has stopped, what became of each Deferred, and what is left
pub record RemainsOf (w : World) (remains : Remains) : Type 0 where
  pub journal : remains.journal ≡ w.journal
  pub stopped : remains.stopped ≡ w.stopped
  pub outcomes : remains.outcomes ≡ map outcome_of w.records
  pub left : remains.left ≡ left_of w
