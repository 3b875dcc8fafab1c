use Rattle.std.proofs.Common.{◌≡◌}
use Rattle.dv_document.specs.View.{items_view, items_left}
use Rattle.dv_forms.specs.Answer.{with_front}
use Rattle.dv_forms.specs.Parts.{each, declaration_at}
use Rattle.dv_forms.proofs.table.each_declaration.Given as goal

abbrev pub invariant-loop-item : goal.invariant-loop-item
invariant-loop-item l =
    with_front l.declarations (each declaration_at (items_view l.rest))
    ≡ each declaration_at (items_view l.fn.items)

abbrev pub decreases-loop-item : goal.decreases-loop-item
decreases-loop-item l = items_left l.rest
