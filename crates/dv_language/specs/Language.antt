-- The language as JSON, and how it is printed.
use Rattle.std.specs.Prelude.{◌≡◌, ℕ, List, [], ◌∷◌, ◌++◌, Option, Result, Ok, Err, ⊤, codes}
use Rattle.std.specs.Io.KnownBytes.{Appends, Keeps}
use Rattle.serde_json.specs.Data.{Data, array, item, no_items, object, member, no_members}
use Rattle.serde_json.specs.Written.{IsInOrder}
use Rattle.dv_journal.specs.Sink.{AppendsPrefix}
use Rattle.dv_language.specs.declared.language.LanguageFault.{LanguageFault}
use Rattle.dv_language.specs.declared.language.LanguageFault.TheVariants.{OutOfMemory, WriteFault}
use Rattle.dv_language.specs.declared.language.TheConstants.{FORM}
use Rattle.dv_language.specs.Words.{words_data}
use Rattle.dv_language.specs.Keys.{keys_data}
use Rattle.dv_language.specs.Lines.{AreLines}
use Rattle.dv_language.specs.Beside.{classes_data, limits_data, smaller_data, usual_data, refusals_data}
use Rattle.dv_language.specs.Beside.{statuses_data, count}

-- the versions of the language
abbrev pub versions_data : Data
versions_data = array (item (count 1) (item (count 2) (item (count 3) no_items)))

-- the language, with these lines of the journal
abbrev pub language_with : Data → Data
language_with lines =
    object (member (codes "classes") classes_data
    (member (codes "form") (count FORM) (member (codes "keys") keys_data (member (codes "limits") limits_data
    (member (codes "lines") lines
    (member (codes "refusals") refusals_data
    (member (codes "smaller") smaller_data (member (codes "statuses") statuses_data (member (codes "usual") usual_data
    (member (codes "versions") versions_data (member (codes "words") words_data no_members)))))))))))

-- the language
abbrev pub IsLanguage : Data → Type 0
IsLanguage d = (lines : Data) × AreLines lines × (d ≡ language_with lines)

-- the line that was written is a JSON text of the language
abbrev pub IsPrinted : Option (List ℕ) → Option (List ℕ) → Type 0
IsPrinted before after =
    (d : Data) × (line : List ℕ) × IsLanguage d × IsInOrder line d × Appends before after (line ++ 10 ∷ [])

-- what was written before each fault: nothing when out of memory, and a prefix of such a line if the writer failed
abbrev pub GivesUp : LanguageFault → Option (List ℕ) → Option (List ℕ) → Type 0
GivesUp OutOfMemory before after = Keeps before after
GivesUp WriteFault before after =
    (d : Data) × (line : List ℕ) × IsLanguage d × IsInOrder line d × AppendsPrefix before after (line ++ 10 ∷ [])

-- the exit status: 0 where it is printed, and otherwise that of the fault
abbrev pub ended_status : Result ⊤ LanguageFault → ℕ
ended_status (Ok printed) = 0
ended_status (Err OutOfMemory) = 3
ended_status (Err WriteFault) = 4

-- what goes to standard error, as a line where it isn't empty
abbrev pub ended_text : Result ⊤ LanguageFault → List ℕ
ended_text (Ok printed) = []
ended_text (Err OutOfMemory) = codes "out of memory"
ended_text (Err WriteFault) = codes "write failed"
