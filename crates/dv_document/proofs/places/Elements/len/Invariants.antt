use Rattle.std.proofs.Common.{◌≡◌, ◌≤◌, ◌+◌}
use Rattle.dv_document.specs.View.{items_view, count, items_left}
use Rattle.dv_document.proofs.places.Elements.len.Given as goal

-- those so far and those that are left are all
abbrev pub invariant-loop-rest : goal.invariant-loop-rest
invariant-loop-rest l =
    (l.count + count (items_view l.rest) ≡ count (items_view l.initial.self))
    × (l.count + items_left l.rest ≤ items_left l.initial.self)

abbrev pub decreases-loop-rest : goal.decreases-loop-rest
decreases-loop-rest l = items_left l.rest
