-- Laws of what documents say.
use Rattle.std.specs.Prelude.{◌≡◌, ◌≢◌, ◌⊎◌, ℕ, List}
use Rattle.serde_json.specs.Data.{Data}
use Rattle.dv_value.specs.Laws.{ParentsStandBefore, PathsGoUp}
use Rattle.dv_script.specs.declared.script.Script.{Script}
use Rattle.dv_reader.specs.declared.error.ScriptFault.{ScriptFault}
use Rattle.dv_reader.specs.declared.error.ScriptFault.TheVariants.{OutOfMemory}
use Rattle.dv_reader.specs.Refusal.{IsDocument, Says, Refuses}
use Rattle.dv_reader.specs.Times.{KeepsTimes}

-- a document says one script at most
abbrev pub SaysOneAtMost : Type 0
SaysOneAtMost = (bytes : List ℕ) (s t : Script) → Says bytes s → Says bytes t → s ≡ t

-- what is refused says no script
abbrev pub RefusedSaysNone : Type 0
RefusedSaysNone =
    (bytes : List ℕ) (fault : ScriptFault) (s : Script) → fault ≢ OutOfMemory → Refuses fault bytes → Says bytes s → ⊥

-- bytes are refused for one reason, out of memory aside
abbrev pub RefusedForOneReason : Type 0
RefusedForOneReason =
    (bytes : List ℕ) (a b : ScriptFault) → a ≢ OutOfMemory → b ≢ OutOfMemory → Refuses a bytes → Refuses b bytes → a ≡ b

-- a document is refused for a reason other than memory
abbrev pub IsRefused : List ℕ → Type 0
IsRefused bytes = (fault : ScriptFault) × (fault ≢ OutOfMemory) × Refuses fault bytes

-- each document says a script or is refused
abbrev pub SaysOrIsRefused : Type 0
SaysOrIsRefused = (bytes : List ℕ) (d : Data) → IsDocument bytes d → ((s : Script) × Says bytes s) ⊎ IsRefused bytes

-- in the table of a script each class's parent stands before it
abbrev pub ParentsOfScriptsStandBefore : Type 0
ParentsOfScriptsStandBefore = (bytes : List ℕ) (s : Script) → Says bytes s → ParentsStandBefore s.classes

-- and the path of each class is the class, then the path of its parent
abbrev pub PathsOfScriptsGoUp : Type 0
PathsOfScriptsGoUp = (bytes : List ℕ) (s : Script) → Says bytes s → PathsGoUp s.classes

-- no time of a script that is read is cut
abbrev pub TimesAreKept : Type 0
TimesAreKept = (bytes : List ℕ) (s : Script) → Says bytes s → KeepsTimes s
