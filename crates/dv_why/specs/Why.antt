-- What is reported about a script.
use Rattle.std.specs.Prelude.{◌≡◌, ◌⊎◌, ℕ, true, List, [], take, encode_utf8_all, Option, Some, None, IsUtf8, codes}
use Rattle.std.specs.Str.{chars}
use Rattle.std.specs.Str.Lossy.{utf8_lossy}
use Rattle.serde_json.specs.Data.{Data, number, unsigned, boolean, string, object, member, no_members}
use Rattle.serde_json.specs.Find.{pointer}
use Rattle.serde_json.specs.Read.{read}
use Rattle.serde_json.specs.View.{view}
use Rattle.serde_json.specs.Written.{IsInOrder}
use Rattle.dv_script.specs.declared.script.Script.{Script}
use Rattle.dv_reader.specs.declared.error.ScriptFault.{ScriptFault}
use Rattle.dv_reader.specs.declared.error.ScriptFault.TheVariants.{TooLong, NotJson, BadVersion, BadShape, TooMany}
use Rattle.dv_reader.specs.declared.error.ScriptFault.TheVariants.{BadName, BadClass, OutOfMemory, BadPool, BadBody}
use Rattle.dv_reader.specs.declared.error.ScriptFault.TheVariants.{BadCooperator}
use Rattle.dv_reader.specs.Refusal.{Says, Refuses}
use Rattle.dv_reader.specs.Texts.{refusal_name, refusal_number}
use Rattle.dv_why.specs.declared.line.TheConstants.{MOST_SHOWN}
use Rattle.dv_why.specs.declared.misfit.Misfit.{Misfit}
use Rattle.dv_why.specs.Documents.{script_in}
use Rattle.dv_why.specs.Finds.{Leads}
use Rattle.dv_why.specs.Wrong.{IsWrong}
use Rattle.dv_why.specs.Pointers.{pointer_text}

-- what is reported about a script that is accepted
abbrev pub accepted : Data
accepted = object (member (codes "accepted") (boolean true) no_members)

-- what is reported about a refusal
abbrev pub refused : ScriptFault → List ℕ → List ℕ → List ℕ → Data
refused fault at expected found =
    object
    (member (codes "at") (string at) (member (codes "expected") (string expected) (member (codes "found") (string found)
    (member (codes "name") (string (refusal_name fault))
    (member (codes "refusal") (number (unsigned (refusal_number fault))) no_members)))))

-- what is reported about a text that is no JSON
abbrev pub refused_text : ScriptFault → ℕ → ℕ → List ℕ → List ℕ → Data
refused_text fault line column expected found =
    object (member (codes "at") (string [])
    (member (codes "column") (number (unsigned column)) (member (codes "expected") (string expected)
    (member (codes "found") (string found)
    (member (codes "line") (number (unsigned line)) (member (codes "name") (string (refusal_name fault))
    (member (codes "refusal") (number (unsigned (refusal_number fault))) no_members)))))))

-- as many characters of a text as are shown, from its front
unfoldable pub first_characters : List ℕ → List ℕ
first_characters text = encode_utf8_all (take MOST_SHOWN (chars text))

-- the front of a JSON text of the value
abbrev pub Shows : List ℕ → Data → Type 0
Shows shown d = (text : List ℕ) × IsInOrder text d × (shown ≡ first_characters text)

-- a misfit of a document that is refused so: its steps lead to it and to what its place asks for, and it is wrong
pub record Explains (fault : ScriptFault) (d : Data) (m : Misfit) : Type 0 where
  pub leads : Leads (script_in d) d m
  pub wrong : IsWrong fault d m

-- the report of a refusal of a JSON value: the text `at` leads where the steps of a misfit lead, and what stands there
-- is shown
pub record TellsOf (fault : ScriptFault) (d : Data) (told : Data) : Type 0 where
  pub misfit : Misfit
  pub at : List ℕ
  pub expected : List ℕ
  pub found : List ℕ
  pub whole : told ≡ refused fault at expected found
  pub explains : Explains fault d misfit
  pub text : at ≡ pointer_text misfit.steps.items
  pub place : pointer at d ≡ Some (view misfit.found.now)
  pub shows : Shows found (view misfit.found.now)

-- the same, of the bytes
abbrev pub TellsOfJson : ScriptFault → List ℕ → Data → Type 0
TellsOfJson fault bytes told = (d : Data) × IsUtf8 bytes × (read bytes ≡ Some d) × TellsOf fault d told

-- what is reported about a text that is too long: its own front is shown
abbrev pub TellsOfLong : List ℕ → Data → Type 0
TellsOfLong bytes told =
    (expected : List ℕ) × (told ≡ refused TooLong [] expected (first_characters (utf8_lossy bytes)))

-- what is reported about a text that is no JSON, with a line and a column where they are known
abbrev pub TellsOfText : List ℕ → Data → Type 0
TellsOfText bytes told =
    ((expected : List ℕ) × (told ≡ refused NotJson [] expected (first_characters (utf8_lossy bytes))))
    ⊎ ((line column : ℕ) × (expected : List ℕ)
    × (told ≡ refused_text NotJson line column expected (first_characters (utf8_lossy bytes))))

-- what is reported about bytes that are refused
abbrev pub IsToldOf : ScriptFault → List ℕ → Data → Type 0
IsToldOf TooLong bytes told = TellsOfLong bytes told
IsToldOf NotJson bytes told = TellsOfText bytes told
IsToldOf BadVersion bytes told = TellsOfJson BadVersion bytes told
IsToldOf BadShape bytes told = TellsOfJson BadShape bytes told
IsToldOf TooMany bytes told = TellsOfJson TooMany bytes told
IsToldOf BadName bytes told = TellsOfJson BadName bytes told
IsToldOf BadClass bytes told = TellsOfJson BadClass bytes told
IsToldOf OutOfMemory bytes told = TellsOfJson OutOfMemory bytes told
IsToldOf BadPool bytes told = TellsOfJson BadPool bytes told
IsToldOf BadBody bytes told = TellsOfJson BadBody bytes told
IsToldOf BadCooperator bytes told = TellsOfJson BadCooperator bytes told

-- the line is the JSON text of this
abbrev pub Reads : List ℕ → (Data → Type 0) → Type 0
Reads line Is = (told : Data) × (read line ≡ Some told) × Is told

-- a script is accepted and reported so, or it is refused for its reason and that is reported
abbrev pub Answers : List ℕ → Option ScriptFault → List ℕ → Type 0
Answers bytes None line = ((script : Script) × Says bytes script) × (read line ≡ Some accepted)
Answers bytes (Some fault) line = Refuses fault bytes × Reads line (IsToldOf fault bytes)
