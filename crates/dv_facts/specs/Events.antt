-- Which event an entry belongs to, by marks: how many entries there were before each event, and before the last batch.
use Rattle.std.specs.Prelude.{ℕ, ◌-◌, nat_eq, nat_le, if◌then◌else◌, ◌||◌, Option, None, Some, List, length}
use Rattle.std.specs.List.{prefix_len}

-- how many marks, from the first on, are passed at the entry of a number
abbrev pub passed_at : List ℕ → ℕ → ℕ
passed_at marks number = prefix_len (λ mark. nat_le mark number) marks

-- where so many of so many marks are passed: the place of the last one; none before the first event, and none where all
-- are passed
abbrev pub last_passed : ℕ → ℕ → Option ℕ
last_passed passed most = if (nat_eq passed 0 || nat_eq passed most) then None else Some (passed - 1)

-- the event of the entry of a number
abbrev pub event_at : List ℕ → ℕ → Option ℕ
event_at marks number = last_passed (passed_at marks number) (length marks)
