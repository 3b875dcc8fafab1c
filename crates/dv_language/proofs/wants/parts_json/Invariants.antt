use Rattle.std.proofs.Common.{◌≡◌, map, take}
use Rattle.serde_json.specs.View.{view}
use Rattle.dv_language.specs.Wants.{flat_data}
use Rattle.dv_language.proofs.wants.parts_json.Given as goal

abbrev pub invariant-loop-want : goal.invariant-loop-want
invariant-loop-want l = map view l.parts.items ≡ map flat_data (take l.want-index l.wants)
