use Rattle.std.proofs.Common.{◌≡◌}
use Rattle.dv_document.specs.View.{items_view, items_left}
use Rattle.dv_forms.specs.Answer.{with_front}
use Rattle.dv_forms.specs.Parts.{each}
use Rattle.dv_grammar.specs.Shape.{caller_at}
use Rattle.dv_grammar.proofs.reading.script.each_caller.Given as goal

abbrev pub invariant-loop-item : goal.invariant-loop-item
invariant-loop-item l =
    with_front l.callers (each (caller_at l.classes) (items_view l.rest))
    ≡ each (caller_at l.classes) (items_view l.fn.items)

abbrev pub decreases-loop-item : goal.decreases-loop-item
decreases-loop-item l = items_left l.rest
