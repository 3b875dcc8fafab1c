-- What the passes of the reader find, by the functions that they compute.
use Rattle.std.specs.Prelude.{◌≡◌, ◌≤◌, ◌<◌, ℕ, Bool, true, false, ◌&&◌, if◌then◌else◌, List, length, Option, Some}
use Rattle.std.specs.Prelude.{None, option_and_then, nat_le, IsUtf8, codes, Result, Ok, Err, ⊤}
use Rattle.serde_json.specs.Data.{Data}
use Rattle.serde_json.specs.Find.{get, as_number, as_u64}
use Rattle.serde_json.specs.Read.{read}
use Rattle.dv_script.specs.declared.script.Script.{Script}
use Rattle.dv_script.specs.declared.limits.TheConstants.{MOST_BYTES}
use Rattle.dv_reader.specs.declared.error.ScriptFault.{ScriptFault}
use Rattle.dv_reader.specs.declared.error.ScriptFault.TheVariants.{TooLong, NotJson, BadVersion, BadShape, TooMany}
use Rattle.dv_reader.specs.declared.error.ScriptFault.TheVariants.{BadName, BadClass, OutOfMemory, BadPool, BadBody}
use Rattle.dv_reader.specs.declared.error.ScriptFault.TheVariants.{BadCooperator}
use Rattle.dv_forms.specs.declared.versions.TheConstants.{LAST_VERSION}
use Rattle.dv_forms.specs.declared.shape_fault.ShapeFault.{ShapeFault}
use Rattle.dv_forms.specs.declared.shape_fault.ShapeFault.TheVariants as shape_fault
use Rattle.dv_grammar.specs.declared.draft.Draft.{Draft}
use Rattle.dv_reader.specs.Limits.{is_small, most_bytes_of}
use Rattle.dv_reader.specs.Refusal.{IsTooLong, answers, keeps_version, are_named, are_known, are_pooled}
use Rattle.dv_reader.specs.Refusal.{have_bodies, have_cooperators}
use Rattle.dv_questions.specs.Questions.{words, names, classes, pools, bodies, cooperators}
use Rattle.dv_grammar.specs.Shape.{script_at}

-- the refusal of a reader that stops
abbrev pub script_fault_of : ShapeFault → ScriptFault
script_fault_of shape_fault.BadShape = BadShape
script_fault_of shape_fault.OutOfMemory = OutOfMemory

-- there is a number, and it is from 1 to the last version
abbrev pub is_of_language : Option ℕ → Bool
is_of_language None = false
is_of_language (Some n) = nat_le 1 n && nat_le n LAST_VERSION

-- the version is an integer from 1 to the last version
abbrev pub is_version : Data → Bool
is_version d = is_of_language (option_and_then as_u64 (option_and_then as_number (get (codes "version") d)))

-- the draft that a JSON value is, where it keeps to its version
abbrev pub shape_at : Data → Option Draft
shape_at d = option_and_then (λ draft. if keeps_version d draft then Some draft else None) (script_at d)

-- the document answers each of the six questions well
pub record IsSound (d : Data) (draft : Draft) : Type 0 where
  pub words_suit : answers (words draft.version) d draft ≡ true
  pub names_suit : answers (names draft.version) d draft ≡ true
  pub classes_suit : answers (classes draft.script.classes) d draft ≡ true
  pub pools_suit : answers (pools draft.script.pools) d draft ≡ true
  pub bodies_suit : answers (bodies draft.script.bodies) d draft ≡ true
  pub cooperators_suit : answers (cooperators draft.script.cooperators) d draft ≡ true

-- what the last passes find of a draft of a JSON value
abbrev pub Accepts : Data → Draft → Result ⊤ ScriptFault → Type 0
Accepts d draft (Ok t) =
    (keeps_version d draft ≡ true) × (is_small d draft ≡ true) × (are_named d draft ≡ true) × (are_known d draft ≡ true)
    × (are_pooled d draft ≡ true) × (have_bodies d draft ≡ true) × (have_cooperators d draft ≡ true)
Accepts d draft (Err TooLong) = ⊥
Accepts d draft (Err NotJson) = ⊥
Accepts d draft (Err BadVersion) = ⊥
Accepts d draft (Err BadShape) = keeps_version d draft ≡ false
Accepts d draft (Err TooMany) = (keeps_version d draft ≡ true) × (is_small d draft ≡ false)
Accepts d draft (Err BadName) = (keeps_version d draft ≡ true) × (is_small d draft ≡ true) × (are_named d draft ≡ false)
Accepts d draft (Err BadClass) =
    (keeps_version d draft ≡ true) × (is_small d draft ≡ true) × (are_named d draft ≡ true)
    × (are_known d draft ≡ false)
Accepts d draft (Err OutOfMemory) = ⊥
Accepts d draft (Err BadPool) =
    (keeps_version d draft ≡ true) × (is_small d draft ≡ true) × (are_named d draft ≡ true) × (are_known d draft ≡ true)
    × (are_pooled d draft ≡ false)
Accepts d draft (Err BadBody) =
    (keeps_version d draft ≡ true) × (is_small d draft ≡ true) × (are_named d draft ≡ true) × (are_known d draft ≡ true)
    × (are_pooled d draft ≡ true) × (have_bodies d draft ≡ false)
Accepts d draft (Err BadCooperator) =
    (keeps_version d draft ≡ true) × (is_small d draft ≡ true) × (are_named d draft ≡ true) × (are_known d draft ≡ true)
    × (are_pooled d draft ≡ true) × (have_bodies d draft ≡ true) × (have_cooperators d draft ≡ false)

-- what the passes find of a JSON value
abbrev pub Judged : Data → Result Script ScriptFault → Type 0
Judged d (Ok s) =
    (draft : Draft) × (is_version d ≡ true) × (shape_at d ≡ Some draft) × (draft.script ≡ s)
    × (is_small d draft ≡ true) × (are_named d draft ≡ true) × (are_known d draft ≡ true) × (are_pooled d draft ≡ true)
    × (have_bodies d draft ≡ true) × (have_cooperators d draft ≡ true)
Judged d (Err TooLong) = ⊥
Judged d (Err NotJson) = ⊥
Judged d (Err BadVersion) = is_version d ≡ false
Judged d (Err BadShape) = (is_version d ≡ true) × (shape_at d ≡ None)
Judged d (Err TooMany) =
    (draft : Draft) × (is_version d ≡ true) × (shape_at d ≡ Some draft) × (is_small d draft ≡ false)
Judged d (Err BadName) =
    (draft : Draft) × (is_version d ≡ true) × (shape_at d ≡ Some draft) × (is_small d draft ≡ true)
    × (are_named d draft ≡ false)
Judged d (Err BadClass) =
    (draft : Draft) × (is_version d ≡ true) × (shape_at d ≡ Some draft) × (is_small d draft ≡ true)
    × (are_named d draft ≡ true)
    × (are_known d draft ≡ false)
Judged d (Err OutOfMemory) = ⊤
Judged d (Err BadPool) =
    (draft : Draft) × (is_version d ≡ true) × (shape_at d ≡ Some draft) × (is_small d draft ≡ true)
    × (are_named d draft ≡ true)
    × (are_known d draft ≡ true) × (are_pooled d draft ≡ false)
Judged d (Err BadBody) =
    (draft : Draft) × (is_version d ≡ true) × (shape_at d ≡ Some draft) × (is_small d draft ≡ true)
    × (are_named d draft ≡ true)
    × (are_known d draft ≡ true) × (are_pooled d draft ≡ true) × (have_bodies d draft ≡ false)
Judged d (Err BadCooperator) =
    (draft : Draft) × (is_version d ≡ true) × (shape_at d ≡ Some draft) × (is_small d draft ≡ true)
    × (are_named d draft ≡ true)
    × (are_known d draft ≡ true) × (are_pooled d draft ≡ true) × (have_bodies d draft ≡ true)
    × (have_cooperators d draft ≡ false)

-- what they find of the value that the bytes are
abbrev pub JudgedIn : List ℕ → Result Script ScriptFault → Type 0
JudgedIn bytes answer =
    (d : Data) × (length bytes ≤ most_bytes_of d) × IsUtf8 bytes × (read bytes ≡ Some d) × Judged d answer

-- what they find of bytes
abbrev pub Passes : List ℕ → Result Script ScriptFault → Type 0
Passes bytes (Ok s) = JudgedIn bytes (Ok s)
Passes bytes (Err TooLong) = IsTooLong bytes
Passes bytes (Err NotJson) = (length bytes ≤ MOST_BYTES) × (IsUtf8 bytes → read bytes ≡ None)
Passes bytes (Err BadVersion) = JudgedIn bytes (Err BadVersion)
Passes bytes (Err BadShape) = JudgedIn bytes (Err BadShape)
Passes bytes (Err TooMany) = JudgedIn bytes (Err TooMany)
Passes bytes (Err BadName) = JudgedIn bytes (Err BadName)
Passes bytes (Err BadClass) = JudgedIn bytes (Err BadClass)
Passes bytes (Err OutOfMemory) = ⊤
Passes bytes (Err BadPool) = JudgedIn bytes (Err BadPool)
Passes bytes (Err BadBody) = JudgedIn bytes (Err BadBody)
Passes bytes (Err BadCooperator) = JudgedIn bytes (Err BadCooperator)
