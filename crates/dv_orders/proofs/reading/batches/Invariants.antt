use Rattle.std.proofs.Common.{◌≡◌}
use Rattle.dv_document.specs.View.{items_view, items_left}
use Rattle.dv_forms.specs.Answer.{with_front}
use Rattle.dv_forms.specs.Parts.{each}
use Rattle.dv_orders.specs.Reading.{batch_at}
use Rattle.dv_orders.proofs.reading.batches.Given as goal

-- the batches so far are in front of what the others read as
abbrev pub invariant-loop-item : goal.invariant-loop-item
invariant-loop-item l =
    with_front l.batches (each batch_at (items_view l.rest)) ≡ each batch_at (items_view l.initial.rest)

abbrev pub decreases-loop-item : goal.decreases-loop-item
decreases-loop-item l = items_left l.rest
