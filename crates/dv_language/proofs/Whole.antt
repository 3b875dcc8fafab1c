-- What has the lines of the journal, and with them all else of the language, is the language.
use Rattle.std.proofs.Common.{◌≡◌, Result, Ok, Err, IfOk}
use Rattle.std.specs.declared.alloc.AllocError.{AllocError}
use Rattle.serde_json.specs.Data.{Data}
use Rattle.serde_json.specs.View.{view}
use Rattle.serde_json.specs.declared.value.Value.{Value}
use Rattle.dv_language.specs.Language.{IsLanguage, language_with}
use Rattle.dv_language.specs.Lines.{AreLines}

pub with_lines : (lines : Data) (r : Result Value AllocError) → AreLines lines
    → IfOk r (λ json. view json ≡ language_with lines) → IfOk r (λ json. IsLanguage (view json))
with_lines lines (Ok json) are h = (lines, are, h)
with_lines lines (Err fault) are h = tt
