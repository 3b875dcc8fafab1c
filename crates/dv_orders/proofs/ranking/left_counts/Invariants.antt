use Rattle.std.proofs.Common.{◌≡◌, take}
use Rattle.dv_orders.specs.Ranking.{left_counts}
use Rattle.dv_orders.proofs.ranking.left_counts.Given as goal

-- those of the callers so far
abbrev pub invariant-loop-caller : goal.invariant-loop-caller
invariant-loop-caller l = l.left.items ≡ left_counts (take l.caller l.counts) (take l.caller l.taken)
