use Rattle.std.proofs.Common.{◌≡◌, map, take}
use Rattle.serde_json.specs.View.{view}
use Rattle.dv_language.specs.Lines.{part_data}
use Rattle.dv_language.proofs.lines.parts_json.Given as goal

abbrev pub invariant-loop-part : goal.invariant-loop-part
invariant-loop-part l = map view l.list.items ≡ map part_data (take l.part-index l.parts)
