use Rattle.std.proofs.Common.{◌≡◌, ◌+◌, ◌*◌, ◌≤◌}
use Rattle.dv_document.specs.View.{items_view, items_left, json_left}
use Rattle.dv_forms.specs.Answer.{with_front}
use Rattle.dv_forms.specs.Parts.{members_at}
use Rattle.dv_forms.proofs.value.+value.Given as goal

abbrev pub decreases-member : goal.decreases-member
decreases-member l = 2 * json_left l.json

abbrev pub decreases-members : goal.decreases-members
decreases-members l = 2 * items_left l.items + 1

abbrev pub invariant-members-loop-item : goal.invariant-members-loop-item
invariant-members-loop-item l =
    (with_front l.values (members_at l.classes (items_view l.rest)) ≡ members_at l.classes (items_view l.fn.items))
    × (items_left l.rest ≤ items_left l.fn.items)

abbrev pub decreases-members-loop-item : goal.decreases-members-loop-item
decreases-members-loop-item l = items_left l.rest
