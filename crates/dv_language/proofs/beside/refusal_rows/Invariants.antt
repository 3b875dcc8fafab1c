use Rattle.std.proofs.Common.{◌≡◌, map, take}
use Rattle.serde_json.specs.View.{view}
use Rattle.dv_language.specs.Beside.{refusal_data}
use Rattle.dv_language.proofs.beside.refusal_rows.Given as goal

abbrev pub invariant-loop-refusal : goal.invariant-loop-refusal
invariant-loop-refusal l = map view l.rows.items ≡ map refusal_data (take l.refusal-index l.refusals)
