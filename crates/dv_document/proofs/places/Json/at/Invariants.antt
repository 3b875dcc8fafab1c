use Rattle.std.proofs.Common.{◌≡◌, ◌-◌}
use Rattle.serde_json.specs.Find.{at, get_item}
use Rattle.dv_document.specs.View.{view, items_view}
use Rattle.dv_document.proofs.places.Json.at.Given as goal

-- the elements so far stand before the place
abbrev pub invariant-loop : goal.invariant-loop
invariant-loop l = get_item (l.place - l.counter) (items_view l.elements) ≡ at l.place (view l.self)
