use Rattle.std.proofs.Common.{◌≡◌, ◌<◌}
use Rattle.serde_json.specs.Find.{get, get_member}
use Rattle.dv_document.specs.View.{view, members_view, json_left, members_left}
use Rattle.dv_document.proofs.places.Json.get.Given as goal

-- no member so far has the key
abbrev pub invariant-loop-name : goal.invariant-loop-name
invariant-loop-name l =
    (get_member l.key (members_view l.members) ≡ get l.key (view l.initial.self))
    × (members_left l.members < json_left l.initial.self)

abbrev pub decreases-loop-name : goal.decreases-loop-name
decreases-loop-name l = members_left l.members
