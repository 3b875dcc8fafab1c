use Rattle.std.proofs.Common.{◌≡◌, ◌+◌, ◌^◌, ◌<◌, take}
use Rattle.dv_orders.specs.Orders.{counts_of, total}
use Rattle.dv_orders.proofs.numbering.number_of_posts.Given as goal

-- those of the callers so far
abbrev pub invariant-loop-caller : goal.invariant-loop-caller
invariant-loop-caller l = (l.posts ≡ total (counts_of (take l.caller-index l.callers))) × (l.posts + 1 < 2 ^ 64)
