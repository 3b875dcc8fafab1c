-- What a run reads and writes, where it writes JSON Lines.
use Rattle.std.specs.Prelude.{◌≡◌, ◌⊎◌}
use Rattle.std.specs.Io.KnownBytes.{Keeps}
use Rattle.dv_journal.specs.Ending.{ending_of}
use Rattle.dv_journal.specs.declared.ending.Ending.{Ending}
use Rattle.dv_json.specs.Ended.{Ends}
use Rattle.dv_json.specs.Text.{IsText, Writes, WritesPrefix}
use Rattle.dv_json.specs.declared.marked.Marked.{Marked}
use Rattle.dv_run.specs.declared.error.RunFault.{RunFault}
use Rattle.dv_run.specs.declared.error.RunFault.TheVariants.{ScriptRefused, OutOfMemory, ReadFault, WriteFault}
use Rattle.dv_run.specs.Headline.{Told}
use Rattle.dv_run.specs.Run.{RefusesInput, SaysScript}
use Rattle.dv_script.specs.declared.script.Script.{Script}

-- the input says a script, which was run to its end, and whose text was written; and how that run ended
pub record HasRun (input old new : Told) (ending : Ending) : Type 0 where
  pub script : Script
  pub end : Marked
  pub says : SaysScript input script
  pub ends : Ends script end
  pub same : ending ≡ ending_of end.remains.stopped end.remains.journal.entries
  pub written : Writes (IsText script.classes end) old new

-- the input says a script, which was run to its end, and a prefix of the text was written
pub record WasCut (input old new : Told) : Type 0 where
  pub script : Script
  pub end : Marked
  pub says : SaysScript input script
  pub ends : Ends script end
  pub written : WritesPrefix (IsText script.classes end) old new

-- what was written before each fault: nothing where there is no script
abbrev pub GivesUp : RunFault → Told → Told → Told → Type 0
GivesUp (ScriptRefused fault) input old new = RefusesInput input old new fault
GivesUp OutOfMemory input old new = Keeps old new ⊎ WasCut input old new
GivesUp ReadFault input old new = Keeps old new
GivesUp WriteFault input old new = WasCut input old new
