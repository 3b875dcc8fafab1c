-- What a run in given batches reads and writes, where it writes JSON Lines.
use Rattle.std.specs.Prelude.{◌≡◌, ◌⊎◌, List}
use Rattle.std.specs.Io.KnownBytes.{Keeps}
use Rattle.dv_journal.specs.Ending.{ending_of}
use Rattle.dv_journal.specs.declared.ending.Ending.{Ending}
use Rattle.dv_json.specs.Ended.{Ends}
use Rattle.dv_json.specs.Text.{IsText, Writes, WritesPrefix}
use Rattle.dv_json.specs.declared.marked.Marked.{Marked}
use Rattle.dv_run.specs.declared.error.RunFault.{RunFault}
use Rattle.dv_run.specs.declared.error.RunFault.TheVariants.{ScriptRefused, OutOfMemory, ReadFault, WriteFault}
use Rattle.dv_posts.specs.Batches.{Batch}
use Rattle.dv_replay.specs.Replay.{RefusesBatches}
use Rattle.dv_replay.specs.declared.error.ReplayFault.{ReplayFault}
use Rattle.dv_replay.specs.declared.error.ReplayFault.TheVariants.{Run, BatchesRefused}
use Rattle.dv_run.specs.Headline.{Told}
use Rattle.dv_run.specs.Run.{RefusesInput, SaysScript}
use Rattle.dv_script.specs.declared.script.Script.{Script}

-- the script was run to its end in these batches
pub record EndsIn (batches : List Batch) (script : Script) (end : Marked) : Type 0 where
  pub ends : Ends script end
  pub took : end.batches ≡ batches

-- the input says a script, which was run to its end in these batches, and whose text was written; and how that run ended
pub record HasRunIn (batches : List Batch) (input old new : Told) (ending : Ending) : Type 0 where
  pub script : Script
  pub end : Marked
  pub says : SaysScript input script
  pub ends : EndsIn batches script end
  pub same : ending ≡ ending_of end.remains.stopped end.remains.journal.entries
  pub written : Writes (IsText script.classes end) old new

-- the input says a script, which was run to its end in these batches, and a prefix of the text was written
pub record WasCutIn (batches : List Batch) (input old new : Told) : Type 0 where
  pub script : Script
  pub end : Marked
  pub says : SaysScript input script
  pub ends : EndsIn batches script end
  pub written : WritesPrefix (IsText script.classes end) old new

-- what was written before each fault of a run: nothing where there is no script
abbrev pub RunGivesUpIn : RunFault → List Batch → Told → Told → Told → Type 0
RunGivesUpIn (ScriptRefused fault) batches input old new = RefusesInput input old new fault
RunGivesUpIn OutOfMemory batches input old new = Keeps old new ⊎ WasCutIn batches input old new
RunGivesUpIn ReadFault batches input old new = Keeps old new
RunGivesUpIn WriteFault batches input old new = WasCutIn batches input old new

-- where the batches are refused, nothing was written
abbrev pub GivesUpIn : ReplayFault → List Batch → Told → Told → Told → Type 0
GivesUpIn (Run fault) batches input old new = RunGivesUpIn fault batches input old new
GivesUpIn (BatchesRefused fault) batches input old new = RefusesBatches fault batches input × Keeps old new
