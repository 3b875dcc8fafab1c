use Rattle.std.proofs.Common.{◌≡◌, ◌+◌, ◌*◌, ◌-◌, ◌^◌, ◌≤◌, min}
use Rattle.dv_document.specs.View.{items_view, items_left}
use Rattle.dv_reader.specs.Limits.{added_among, added_in}
use Rattle.dv_reader.proofs.limits.+added.Given as goal

abbrev pub decreases-added_in : goal.decreases-added_in
decreases-added_in l = 4 * l.levels

abbrev pub decreases-added_of : goal.decreases-added_of
decreases-added_of l = 4 * l.levels + 1

abbrev pub decreases-added_at : goal.decreases-added_at
decreases-added_at l = 4 * l.levels + 2

abbrev pub decreases-added_among : goal.decreases-added_among
decreases-added_among l = 4 * l.levels + 3

abbrev pub invariant-added_among-loop-item : goal.invariant-added_among-loop-item
invariant-added_among-loop-item l =
    (l.total ≤ 2 ^ 64 - 1)
    × (min (l.total + added_among (added_in l.levels) (items_view l.rest)) (2 ^ 64 - 1)
    ≡ min (added_among (added_in l.levels) (items_view l.fn.items)) (2 ^ 64 - 1))

abbrev pub decreases-added_among-loop-item : goal.decreases-added_among-loop-item
decreases-added_among-loop-item l = items_left l.rest
