-- What the bytes of a script say, and when they are refused: by the condition of the least number that holds.
use Rattle.std.specs.Prelude.{◌≡◌, ◌≤◌, ◌<◌, ℕ, suc, Bool, true, false, not, ◌&&◌, List, [], ◌∷◌, length, Some}
use Rattle.std.specs.Prelude.{None, IsUtf8, codes, ⊤}
use Rattle.serde_json.specs.Data.{Data, number, unsigned}
use Rattle.serde_json.specs.Find.{get}
use Rattle.serde_json.specs.Read.{read}
use Rattle.dv_script.specs.declared.script.NamedBody.{NamedBody}
use Rattle.dv_script.specs.declared.script.NamedCooperator.{NamedCooperator}
use Rattle.dv_script.specs.declared.script.NamedPool.{NamedPool}
use Rattle.dv_script.specs.declared.script.Script.{Script}
use Rattle.dv_script.specs.declared.limits.TheConstants.{MOST_BYTES, MOST_LEVELS}
use Rattle.dv_forms.specs.declared.versions.TheConstants.{LAST_VERSION}
use Rattle.dv_forms.specs.declared.want.Want.TheVariants as want
use Rattle.dv_forms.specs.declared.want.Keyed.TheVariants as keyed
use Rattle.dv_grammar.specs.declared.draft.Draft.{Draft}
use Rattle.dv_reader.specs.declared.error.ScriptFault.{ScriptFault}
use Rattle.dv_reader.specs.declared.error.ScriptFault.TheVariants.{TooLong, NotJson, BadVersion, BadShape, TooMany}
use Rattle.dv_reader.specs.declared.error.ScriptFault.TheVariants.{BadName, BadClass, OutOfMemory, BadPool, BadBody}
use Rattle.dv_reader.specs.declared.error.ScriptFault.TheVariants.{BadCooperator}
use Rattle.dv_grammar.specs.Grammar.{IsScript}
use Rattle.dv_questions.specs.Asking.{all_suit}
use Rattle.dv_questions.specs.Questions.{Asked, words, names, classes, pools, bodies, cooperators, is_among}
use Rattle.dv_questions.specs.Questions.{has_body, has_cooperator}
use Rattle.dv_reader.specs.Limits.{is_small, most_bytes_of}

-- the bytes are the JSON text of this value, and not too long for its version
pub record IsDocument (bytes : List ℕ) (d : Data) : Type 0 where
  pub fits : length bytes ≤ most_bytes_of d
  pub text : IsUtf8 bytes
  pub is : read bytes ≡ Some d

-- an object whose `version` is an integer from 1 to the last version
abbrev pub HasVersion : Data → Type 0
HasVersion d =
    (version : ℕ) × (get (codes "version") d ≡ Some (number (unsigned version))) × (1 ≤ version)
    × (version ≤ LAST_VERSION)

-- each text of the document answers the question well, as one of a script of its version
abbrev pub answers : Asked → Data → Draft → Bool
answers asked d draft = all_suit asked (suc MOST_LEVELS) (want.Keyed (keyed.Script draft.version)) d

-- each word of the document is one of its version, and so is each comment
abbrev pub keeps_version : Data → Draft → Bool
keeps_version d draft = answers (words draft.version) d draft

-- no script has this shape
abbrev pub IsMisshapen : Data → Type 0
IsMisshapen d = (draft : Draft) → IsScript d draft → keeps_version d draft ≡ true → ⊥

-- the bytes are a document of this value, which has its version and the shape of this script
pub record HasShape (bytes : List ℕ) (d : Data) (draft : Draft) : Type 0 where
  pub document : IsDocument bytes d
  pub version : HasVersion d
  pub shape : IsScript d draft
  pub plain : keeps_version d draft ≡ true

-- each name of the document has the form of one of its version
abbrev pub are_named : Data → Draft → Bool
are_named d draft = answers (names draft.version) d draft

-- each class of the script may be declared, and each that the document uses is in its table
abbrev pub are_known : Data → Draft → Bool
are_known d draft = draft.all_declared && answers (classes draft.script.classes) d draft

-- no pool has the name of a later one
abbrev pub are_distinct : List NamedPool → Bool
are_distinct [] = true
are_distinct (pool ∷ pools) = not (is_among pool.name pools) && are_distinct pools

-- no name of a pool is given twice, and each pool that the document uses is declared
abbrev pub are_pooled : Data → Draft → Bool
are_pooled d draft = are_distinct draft.script.pools && answers (pools draft.script.pools) d draft

-- no body has the name of a later one
abbrev pub have_own_names : List NamedBody → Bool
have_own_names [] = true
have_own_names (body ∷ bodies) = not (has_body body.name bodies) && have_own_names bodies

-- no name of a body is given twice, and each body that the document uses by its name is declared
abbrev pub have_bodies : Data → Draft → Bool
have_bodies d draft = have_own_names draft.script.bodies && answers (bodies draft.script.bodies) d draft

-- no Cooperator has the name of a later one
abbrev pub are_apart : List NamedCooperator → Bool
are_apart [] = true
are_apart (cooperator ∷ cooperators) = not (has_cooperator cooperator.name cooperators) && are_apart cooperators

-- no name of a Cooperator is given twice, and each Cooperator that the document uses by its name is declared
abbrev pub have_cooperators : Data → Draft → Bool
have_cooperators d draft =
    are_apart draft.script.cooperators && answers (cooperators draft.script.cooperators) d draft

-- the bytes say this script: they have its shape, it is small enough, its names are good and its classes, pools, bodies
-- and Cooperators are known
pub record Says (bytes : List ℕ) (script : Script) : Type 0 where
  pub json : Data
  pub draft : Draft
  pub same : draft.script ≡ script
  pub shape : HasShape bytes json draft
  pub small : is_small json draft ≡ true
  pub named : are_named json draft ≡ true
  pub known : are_known json draft ≡ true
  pub pooled : are_pooled json draft ≡ true
  pub bodied : have_bodies json draft ≡ true
  pub scheduled : have_cooperators json draft ≡ true

-- the bytes are more than a script of the first version may have, and more than that of their value may
abbrev pub IsTooLong : List ℕ → Type 0
IsTooLong bytes =
    (MOST_BYTES < length bytes) × ((d : Data) → IsUtf8 bytes → read bytes ≡ Some d → most_bytes_of d < length bytes)

-- why the bytes are refused, each reason where none before it holds; out of memory may occur at any time
abbrev pub Refuses : ScriptFault → List ℕ → Type 0
Refuses TooLong bytes = IsTooLong bytes
Refuses NotJson bytes = (length bytes ≤ MOST_BYTES) × (IsUtf8 bytes → read bytes ≡ None)
Refuses BadVersion bytes = (d : Data) × IsDocument bytes d × (HasVersion d → ⊥)
Refuses BadShape bytes = (d : Data) × IsDocument bytes d × HasVersion d × IsMisshapen d
Refuses TooMany bytes = (d : Data) × (draft : Draft) × HasShape bytes d draft × (is_small d draft ≡ false)
Refuses BadName bytes =
    (d : Data) × (draft : Draft) × HasShape bytes d draft × (is_small d draft ≡ true) × (are_named d draft ≡ false)
Refuses BadClass bytes =
    (d : Data) × (draft : Draft) × HasShape bytes d draft × (is_small d draft ≡ true) × (are_named d draft ≡ true)
    × (are_known d draft ≡ false)
Refuses OutOfMemory bytes = ⊤
Refuses BadPool bytes =
    (d : Data) × (draft : Draft) × HasShape bytes d draft × (is_small d draft ≡ true) × (are_named d draft ≡ true)
    × (are_known d draft ≡ true) × (are_pooled d draft ≡ false)
Refuses BadBody bytes =
    (d : Data) × (draft : Draft) × HasShape bytes d draft × (is_small d draft ≡ true) × (are_named d draft ≡ true)
    × (are_known d draft ≡ true) × (are_pooled d draft ≡ true) × (have_bodies d draft ≡ false)
Refuses BadCooperator bytes =
    (d : Data) × (draft : Draft) × HasShape bytes d draft × (is_small d draft ≡ true) × (are_named d draft ≡ true)
    × (are_known d draft ≡ true) × (are_pooled d draft ≡ true) × (have_bodies d draft ≡ true)
    × (have_cooperators d draft ≡ false)
