use Rattle.std.proofs.Common.{◌≡◌, ◌+◌, ◌-◌, ◌≤◌, length}
use Rattle.dv_orders.specs.Counted.{IsLine}
use Rattle.dv_orders.specs.Numbers.{ways}
use Rattle.dv_orders.proofs.numbering.ways.Given as goal

-- the line of so many posts
abbrev pub invariant-loop-posts : goal.invariant-loop-posts
invariant-loop-posts l = record {
  within : l.posts ≤ l.own;
  len : length l.line.items ≡ l.others + 1;
  line : IsLine (ways l.posts) l.cap l.line.items;
}

abbrev pub decreases-loop-posts : goal.decreases-loop-posts
decreases-loop-posts l = l.own - l.posts
