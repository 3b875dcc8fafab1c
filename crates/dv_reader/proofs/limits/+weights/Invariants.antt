use Rattle.std.proofs.Common.{◌≡◌, ◌+◌, ◌*◌, ◌-◌, ◌^◌, ◌≤◌, min}
use Rattle.dv_document.specs.View.{items_view, items_left, json_left, members_view, members_left}
use Rattle.dv_reader.specs.Limits.{item_weights, member_weights}
use Rattle.dv_reader.proofs.limits.+weights.Given as goal

abbrev pub invariant-item_weights-loop-item : goal.invariant-item_weights-loop-item
invariant-item_weights-loop-item l =
    (l.total ≤ 2 ^ 64 - 1) × (min (l.total + item_weights (items_view l.rest)) (2 ^ 64 - 1)
    ≡ min (item_weights (items_view l.fn.items)) (2 ^ 64 - 1))
    × (items_left l.rest ≤ items_left l.fn.items)

abbrev pub invariant-member_weights-loop-json : goal.invariant-member_weights-loop-json
invariant-member_weights-loop-json l =
    (l.total ≤ 2 ^ 64 - 1) × (min (l.total + member_weights (members_view l.rest)) (2 ^ 64 - 1)
    ≡ min (member_weights (members_view l.fn.members)) (2 ^ 64 - 1))
    × (members_left l.rest ≤ members_left l.fn.members)

abbrev pub decreases-weight : goal.decreases-weight
decreases-weight l = 2 * json_left l.json

abbrev pub decreases-item_weights : goal.decreases-item_weights
decreases-item_weights l = 2 * items_left l.items + 1

abbrev pub decreases-member_weights : goal.decreases-member_weights
decreases-member_weights l = 2 * members_left l.members + 1

abbrev pub decreases-item_weights-loop-item : goal.decreases-item_weights-loop-item
decreases-item_weights-loop-item l = items_left l.rest

abbrev pub decreases-member_weights-loop-json : goal.decreases-member_weights-loop-json
decreases-member_weights-loop-json l = members_left l.rest
