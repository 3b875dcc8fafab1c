-- The number of orders, counted up to a limit.
use Rattle.std.specs.Prelude.{◌≡◌, ◌-◌, ◌^◌, ◌<◌, ◌≤◌, ℕ, List, length, min, slice_index}
use Rattle.dv_script.specs.declared.script.Script.{Script}
use Rattle.dv_orders.specs.Orders.{orders}
use Rattle.dv_orders.specs.declared.number.Number.{Number}
use Rattle.dv_orders.specs.declared.number.Number.TheVariants.{Exactly, More}

-- up to how many are counted: as many as are asked for, where they fit below the last number of 64 bits
abbrev pub limit_of : ℕ → ℕ
limit_of most = min most (2 ^ 64 - 2)

-- so many are listed, which is no more than is counted; or more are listed than are counted
abbrev pub Counts : Number → Script → ℕ → Type 0
Counts (Exactly number) script most = (number ≡ length (orders script)) × (number ≤ limit_of most)
Counts More script most = limit_of most < length (orders script)

-- what a count up to a cap answers, which no greater number passes
abbrev pub CountsUpTo : Number → ℕ → ℕ → Type 0
CountsUpTo (Exactly number) count cap = (number ≡ count) × (number < cap)
CountsUpTo More count cap = cap ≤ count

-- the first so many numbers of a table are these, up to the cap
abbrev pub StartsWith : (ℕ → ℕ) → ℕ → List ℕ → ℕ → Type 0
StartsWith number cap line n = (k : ℕ) → k < n → slice_index line k ≡ min (number k) cap

-- a table holds these numbers, up to the cap
abbrev pub IsLine : (ℕ → ℕ) → ℕ → List ℕ → Type 0
IsLine number cap line = StartsWith number cap line (length line)
