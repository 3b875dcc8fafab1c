-- What is left to do in a world, and what a turn leaves of it and of each frame.
use Rattle.std.proofs.Common.{ℕ, ◌<◌, ◌≤◌}
use Rattle.dv_frames.specs.Turn.{Turned}
use Rattle.dv_loop.proofs.Budget.{budget, Spares, spares}
use Rattle.dv_loop.proofs.Lasting.{Comes}
use Rattle.dv_loop.proofs.Lighter.{Lighter}
use Rattle.dv_world.specs.World.{World, state_of}

-- what a world can still do
abbrev pub can : World → ℕ
can w = budget (state_of w)

pub pays : (w u : World) → Comes w u → can u ≤ can w
pays w u c = (c.keeps (λ v x. Spares (state_of v) (state_of x)) spares).pays

-- a turn leaves less to do, or less of each frame
pub data Falls (n m : ℕ) (t : Turned) : Type 0 where
  paid : can t.2 < n → Falls n m t
  lighter : Lighter m t.0 → Falls n m t

pub record Fair (w : World) (m : ℕ) (t : Turned) : Type 1 where
  pub comes : Comes w t.2
  pub falls : Falls (can w) m t
