use Rattle.std.proofs.Common.{◌≡◌, map, take}
use Rattle.serde_json.specs.View.{view}
use Rattle.dv_language.specs.Wants.{want_data}
use Rattle.dv_language.proofs.wants.wants_json.Given as goal

abbrev pub invariant-loop-want : goal.invariant-loop-want
invariant-loop-want l = map view l.list.items ≡ map want_data (take l.want-index l.wants)
