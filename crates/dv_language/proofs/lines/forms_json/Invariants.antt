use Rattle.std.proofs.Common.{◌≡◌, map, take}
use Rattle.serde_json.specs.View.{view}
use Rattle.dv_language.specs.Lines.{line_data}
use Rattle.dv_language.proofs.lines.forms_json.Given as goal

abbrev pub invariant-loop-form : goal.invariant-loop-form
invariant-loop-form l = map view l.rows.items ≡ map line_data (take l.form-index l.forms)
