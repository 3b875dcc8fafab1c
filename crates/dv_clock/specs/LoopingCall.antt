-- When a loop takes its turns (Twisted: `LoopingCall`).
use Rattle.std.specs.Prelude.{◌≡◌, ℕ, ◌+◌, ◌-◌, ◌*◌, ◌/◌, ◌<◌, ◌≤◌}

-- one interval more after the start than are past
abbrev pub loop_next : ℕ → ℕ → ℕ → ℕ
loop_next start interval now = start + ((now - start) / interval + 1) * interval

-- a time is a whole number of intervals after the start and later than now, and there is no earlier one that is
pub record IsNextTurn (start interval now time : ℕ) : Type 0 where
  pub intervals : ℕ
  pub on_time : time ≡ start + intervals * interval
  pub later : now < time
  pub least : (k : ℕ) → now < start + k * interval → time ≤ start + k * interval
