use Rattle.std.proofs.Common.{◌≡◌}
use Rattle.dv_document.specs.View.{items_view, items_left}
use Rattle.dv_forms.specs.Answer.{with_front}
use Rattle.dv_forms.specs.Parts.{each, gather_flag_at}
use Rattle.dv_forms.proofs.leaf.gather_flags_in.Given as goal

abbrev pub invariant-loop-item : goal.invariant-loop-item
invariant-loop-item l =
    with_front l.flags (each gather_flag_at (items_view l.rest))
    ≡ each gather_flag_at (items_view l.initial.rest)

abbrev pub decreases-loop-item : goal.decreases-loop-item
decreases-loop-item l = items_left l.rest
