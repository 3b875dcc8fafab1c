use Rattle.std.proofs.Common.{◌≡◌, ◌++◌, map, take}
use Rattle.serde_json.specs.View.{view}
use Rattle.dv_forms.specs.Words.{seen}
use Rattle.dv_language.specs.Words.{form_data}
use Rattle.dv_language.proofs.words.push_forms.Given as goal

abbrev pub invariant-loop-form : goal.invariant-loop-form
invariant-loop-form g l =
    map view l.rows.items ≡ map view l.fn.rows.items ++ map (form_data l.call) (map seen (take l.form-index l.forms))
