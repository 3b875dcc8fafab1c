use Rattle.std.proofs.Common.{◌≡◌, ◌+◌, ◌*◌, ◌-◌, List, Some, suc}
use Rattle.dv_document.specs.View.{items_view, items_left}
use Rattle.dv_script.specs.declared.event.Event.{Event}
use Rattle.dv_forms.specs.Answer.{with_front}
use Rattle.dv_grammar.specs.Grammar.{repeated}
use Rattle.dv_grammar.specs.Shape.{all_listed, events_at, listed_at}
use Rattle.dv_grammar.proofs.reading.event.+events.Given as goal

abbrev pub decreases-events : goal.decreases-events
decreases-events l = 3 * l.levels

abbrev pub decreases-repeated : goal.decreases-repeated
decreases-repeated l = 3 * l.levels + 1

abbrev pub decreases-row : goal.decreases-row
decreases-row l = 3 * l.levels + 2

-- the items so far are read, and those that are left
abbrev pub invariant-row-loop-item : goal.invariant-row-loop-item
invariant-row-loop-item l =
    with_front l.events (all_listed (listed_at (events_at l.expands l.classes l.levels) l.expands l.classes)
    (items_view l.rest))
    ≡ all_listed (listed_at (events_at l.expands l.classes l.levels) l.expands l.classes) (items_view l.fn.items)

-- the events stand there once, and once more for each time so far
abbrev pub invariant-repeated-loop : goal.invariant-repeated-loop
invariant-repeated-loop l =
    (es : List Event) × (events_at l.expands l.classes l.levels (items_view l.fn.items) ≡ Some es)
    × (l.all ≡ repeated (suc l.counter) es)

abbrev pub decreases-row-loop-item : goal.decreases-row-loop-item
decreases-row-loop-item l = items_left l.rest
