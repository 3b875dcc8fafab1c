use Rattle.std.proofs.Common.{◌≡◌, ◌+◌, ◌≤◌, drop, length}
use Rattle.dv_orders.specs.Counted.{IsLine}
use Rattle.dv_orders.specs.Numbers.{number_of_cuts}
use Rattle.dv_orders.proofs.numbering.line_of_cuts.Given as goal

-- the numbers of cuts at the events from here on
abbrev pub invariant-loop-place : goal.invariant-loop-place
invariant-loop-place l = record {
  within : l.place ≤ length l.events;
  len : length l.line.items ≡ l.posts + 1;
  cuts : IsLine (number_of_cuts (drop l.place l.events)) l.cap l.line.items;
}

abbrev pub decreases-loop-place : goal.decreases-loop-place
decreases-loop-place l = l.place
