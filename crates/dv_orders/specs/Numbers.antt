-- How many orders there are, by the numbers of posts and the drains alone.
use Rattle.std.specs.Prelude.{ℕ, zero, suc, ◌+◌, ◌*◌, List, [], ◌∷◌}
use Rattle.dv_script.specs.declared.event.Event.{Event}
use Rattle.dv_script.specs.declared.event.Event.TheVariants as event
use Rattle.dv_script.specs.declared.script.Script.{Script}
use Rattle.dv_orders.specs.Orders.{counts_of, total}

-- a line of Pascal's triangle by the line above: each number is the one above and the one before, added
abbrev pub next_line : (ℕ → ℕ) → ℕ → ℕ
next_line above zero = above zero
next_line above (suc others) = above (suc others) + next_line above others

-- in how many ways so many posts of one caller come among so many of others
abbrev pub ways : ℕ → ℕ → ℕ
ways zero others = 1
ways (suc own) others = next_line (ways own) others

-- how many sequences there are of so many posts of each caller
abbrev pub number_of_sequences : List ℕ → ℕ
number_of_sequences [] = 1
number_of_sequences (count ∷ counts) = ways count (total counts) * number_of_sequences counts

-- the sum over what is left, where first ones of so many are taken, so many at most
abbrev pub sum_over_splits : (ℕ → ℕ) → ℕ → ℕ → ℕ
sum_over_splits number zero count = number count
sum_over_splits number (suc most) zero = number zero
sum_over_splits number (suc most) (suc count) = number (suc count) + sum_over_splits number most count

-- in how many ways a sequence of so many posts is cut
abbrev pub number_of_cuts : List Event → ℕ → ℕ
number_of_cuts [] count = 1
number_of_cuts (event.Action action ∷ events) count = number_of_cuts events count
number_of_cuts (event.Advance ticks ∷ events) count = number_of_cuts events count
number_of_cuts (event.Expect name expected ∷ events) count = number_of_cuts events count
number_of_cuts (event.Drain most ∷ events) count = sum_over_splits (number_of_cuts events) most count

-- how many orders a script has
abbrev pub number_of_orders : Script → ℕ
number_of_orders script =
    let counts = counts_of script.callers in number_of_sequences counts * number_of_cuts script.events (total counts)
