-- What every step of a world keeps.
use Rattle.std.proofs.Common.{◌≡◌, ℕ, List, Option}
use Rattle.dv_value.specs.declared.value.Value.{Value}
use Rattle.dv_journal.specs.declared.entry.Entry.{Entry}
use Rattle.dv_journal.specs.Told.{change_of, Aside}
use Rattle.dv_script.specs.declared.work.Work.{Work}
use Rattle.dv_objects.specs.declared.canceller.Canceller.{Canceller}
use Rattle.dv_objects.specs.Objects.{Objects}
use Rattle.dv_world.specs.World.{World, step, put, put_deferred, append, make, fire, fire_then_swallow, cancel, pause}
use Rattle.dv_world.specs.World.{unpause, aside, arrange, submit, with_stop}
use Rattle.dv_objects.specs.Pair.{Pair}

-- a relation of worlds that holds of each step, and of steps in turn
pub record Lasting (R : World → World → Type 0) : Type 0 where
  pub stays : (w : World) → R w w
  pub joins : (u v w : World) → R u v → R v w → R u w
  pub by_stop : (w : World) → R w (with_stop w)
  pub by_step : (d : ℕ) (w : World) → R w (step d w).1
  pub by_put : (d : ℕ) (value : Value) (w : World) → R w (put d value w)
  pub by_put_deferred : (d e : ℕ) (w : World) → R w (put_deferred d e w)
  pub by_append : (d : ℕ) (pair : Pair) (w : World) → R w (append d pair w)
  pub by_make : (name : Option (List ℕ)) (canceller : Option Canceller) (w : World) → R w (make name canceller w)
  pub by_fire : (d : ℕ) (value : Value) (w : World) → R w (fire d value w).1
  pub by_fire_then_swallow : (d : ℕ) (w : World) → R w (fire_then_swallow d w)
  pub by_cancel : (d : ℕ) (w : World) → R w (cancel d w).1
  pub by_pause : (d : ℕ) (w : World) → R w (pause d w)
  pub by_unpause : (d : ℕ) (w : World) → R w (unpause d w).1
  pub by_aside : (e : Entry) (change : Objects → Objects) (w : World) → change_of e ≡ Aside → R w (aside e change w)
  pub by_arrange : (change : Objects → Objects) (w : World) → R w (arrange change w)
  pub by_submit : (d : ℕ) (pool : Option (List ℕ)) (work : Work) (w : World) → R w (submit d pool work w)

-- u comes of w by steps: what every step keeps is kept
pub record Comes (w u : World) : Type 1 where
  pub keeps : (R : World → World → Type 0) → Lasting R → R w u
