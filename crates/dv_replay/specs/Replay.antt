-- A run in batches that are given.
use Rattle.std.specs.Prelude.{◌≡◌, ◌⊎◌, ◌+◌, ℕ, List, take, Result, Ok, Err}
use Rattle.std.specs.Io.KnownBytes.{Appends, Keeps}
use Rattle.dv_engine.specs.Engine.{Engine, phase_after}
use Rattle.dv_engine.specs.declared.engine.Phase.TheVariants.{Over}
use Rattle.dv_engine.specs.declared.report.Report.{Report}
use Rattle.dv_journal.specs.Sink.{AppendsPrefix}
use Rattle.dv_orders.specs.Faults.{Refuses}
use Rattle.dv_orders.specs.declared.fault.OrderFault.{OrderFault}
use Rattle.dv_run.specs.Output.{report_text}
use Rattle.dv_run.specs.declared.error.RunFault.{RunFault}
use Rattle.dv_run.specs.declared.error.RunFault.TheVariants.{ScriptRefused, OutOfMemory, ReadFault, WriteFault}
use Rattle.dv_posts.specs.Batches.{Batch}
use Rattle.dv_replay.specs.declared.error.ReplayFault.{ReplayFault}
use Rattle.dv_replay.specs.declared.error.ReplayFault.TheVariants.{Run, BatchesRefused}
use Rattle.dv_run.specs.Headline.{SaysReport, Told}
use Rattle.dv_run.specs.Run as run
use Rattle.dv_run.specs.Run.{GivesNoScript, HasRead, RefusesInput, SaysScript}
use Rattle.dv_script.specs.declared.script.Script.{Script}

-- the input says a script, and this is the report of the run of it in these batches
pub record SaysReportIn (batches : List Batch) (input : Told) (script : Script) (report : Report) : Type 0 where
  pub says : SaysReport input script report
  pub took : report.batches ≡ batches

-- the input says a script, and the text of the report of the run of it in these batches was written
pub record PrintsIn (batches : List Batch) (input old new : Told) (report : Report) : Type 0 where
  pub script : Script
  pub says : SaysReportIn batches input script report
  pub written : Appends old new (report_text script.classes report)

-- the input says a script, and a prefix of that text was written
pub record PrintsPrefixIn (batches : List Batch) (input old new : Told) : Type 0 where
  pub script : Script
  pub report : Report
  pub says : SaysReportIn batches input script report
  pub written : AppendsPrefix old new (report_text script.classes report)

-- the input says a script, of which the batches aren't an order
pub record RefusesBatches (fault : OrderFault) (batches : List Batch) (input : Told) : Type 0 where
  pub script : Script
  pub says : SaysScript input script
  pub refused : Refuses fault script batches

-- what was written before each fault of a run
abbrev pub RunGivesUp : RunFault → List Batch → Told → Told → Told → Type 0
RunGivesUp (ScriptRefused fault) batches input old new = RefusesInput input old new fault
RunGivesUp OutOfMemory batches input old new = Keeps old new ⊎ PrintsPrefixIn batches input old new
RunGivesUp ReadFault batches input old new = Keeps old new
RunGivesUp WriteFault batches input old new = PrintsPrefixIn batches input old new

-- where the batches are refused, nothing was written
abbrev pub GivesUp : ReplayFault → List Batch → Told → Told → Told → Type 0
GivesUp (Run fault) batches input old new = RunGivesUp fault batches input old new
GivesUp (BatchesRefused fault) batches input old new = RefusesBatches fault batches input × Keeps old new

-- after a read fault the reader has failed meanwhile, and after any other it hasn't
abbrev pub ReaderFailedBy : ReplayFault → ℕ → ℕ → Type 0
ReaderFailedBy (Run fault) old new = run.ReaderFailedBy fault old new
ReaderFailedBy (BatchesRefused fault) old new = new ≡ old

abbrev pub ReaderFailed : {A : Type 0} → Result A ReplayFault → ℕ → ℕ → Type 0
ReaderFailed (Ok answer) old new = new ≡ old
ReaderFailed (Err fault) old new = ReaderFailedBy fault old new

-- after a write fault the writer has failed meanwhile, and after any other it hasn't
abbrev pub WriterFailedBy : ReplayFault → ℕ → ℕ → Type 0
WriterFailedBy (Run fault) old new = run.WriterFailedBy fault old new
WriterFailedBy (BatchesRefused fault) old new = new ≡ old

abbrev pub WriterFailed : {A : Type 0} → Result A ReplayFault → ℕ → ℕ → Type 0
WriterFailed (Ok answer) old new = new ≡ old
WriterFailed (Err fault) old new = WriterFailedBy fault old new

-- what a reader has left after a fault
abbrev pub LeavesAfter : ReplayFault → Told → Told → Type 0
LeavesAfter (Run fault) input rest = run.LeavesAfter fault input rest
LeavesAfter (BatchesRefused fault) input rest = HasRead input rest

abbrev pub Leaves : {A : Type 0} → Result A ReplayFault → Told → Told → Type 0
Leaves (Ok answer) input rest = HasRead input rest
Leaves (Err fault) input rest = LeavesAfter fault input rest

-- the batches are refused, the reader hasn't failed, and it was read to its end
pub record GivesNoOrder (fault : OrderFault) (batches : List Batch) (input rest : Told) (old new : ℕ) : Type 0 where
  pub refuses : RefusesBatches fault batches input
  pub kept : new ≡ old
  pub left : HasRead input rest

-- why nothing is performed: there is no script, or the batches aren't an order of it
abbrev pub GivesNoRun : ReplayFault → List Batch → Told → Told → ℕ → ℕ → Type 0
GivesNoRun (Run fault) batches input rest old new = GivesNoScript fault input rest old new
GivesNoRun (BatchesRefused fault) batches input rest old new = GivesNoOrder fault batches input rest old new

-- an engine has taken the batch of this number
pub record HasTakenOne (before after : Engine) (batches : List Batch) (number : ℕ) : Type 0 where
  pub script : after.script ≡ before.script
  pub left : after.left ≡ before.left
  pub phase : after.phase ≡ phase_after before.phase
  pub taken : after.batches ≡ take (number + 1) batches

-- an engine has taken all batches
pub record HasTakenAll (before after : Engine) (batches : List Batch) : Type 0 where
  pub script : after.script ≡ before.script
  pub over : after.phase ≡ Over
  pub taken : after.batches ≡ batches
