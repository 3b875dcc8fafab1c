use Rattle.std.proofs.Common.{◌≡◌, ◌+◌, ◌^◌, ◌<◌, ◌≤◌, drop, length, min}
use Rattle.dv_orders.specs.Numbers.{number_of_sequences}
use Rattle.dv_orders.specs.Orders.{total}
use Rattle.dv_orders.proofs.numbering.number_of_sequences.Given as goal

-- so many of the callers from here on, who have so many posts
abbrev pub invariant-loop-place : goal.invariant-loop-place
invariant-loop-place l = record {
  within : l.place ≤ length l.counts;
  number : l.number ≡ min (number_of_sequences (drop l.place l.counts)) l.cap;
  others : l.others ≡ total (drop l.place l.counts);
  fits : l.others + 1 < 2 ^ 64;
}

abbrev pub decreases-loop-place : goal.decreases-loop-place
decreases-loop-place l = l.place
