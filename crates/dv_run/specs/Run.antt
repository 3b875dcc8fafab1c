-- What a run reads and writes.
use Rattle.std.specs.Prelude.{◌≡◌, ◌≢◌, ◌⊎◌, ℕ, List, Result, Ok, Err}
use Rattle.std.specs.Io.KnownBytes.{Consumes, Keeps}
use Rattle.dv_engine.specs.declared.report.Report.{Report}
use Rattle.dv_journal.specs.Sink.{AppendsPrefix, HasFailed}
use Rattle.dv_reader.specs.Refusal.{Says, Refuses}
use Rattle.dv_reader.specs.declared.error.ScriptFault.{ScriptFault}
use Rattle.dv_reader.specs.declared.error.ScriptFault.TheVariants as script
use Rattle.dv_script.specs.declared.script.Script.{Script}
use Rattle.dv_run.specs.Headline.{SaysReport, Told, most_read}
use Rattle.dv_run.specs.Output.{report_text}
use Rattle.dv_source.specs.Source.{ConsumesSome, IsFrontOf}
use Rattle.dv_run.specs.declared.error.RunFault.{RunFault}
use Rattle.dv_run.specs.declared.error.RunFault.TheVariants.{ScriptRefused, OutOfMemory, ReadFault, WriteFault}

-- the input says a script
pub record SaysScript (input : Told) (script : Script) : Type 0 where
  pub bytes : List ℕ
  pub read : IsFrontOf input most_read bytes
  pub says : Says bytes script

-- the input says a script, and a prefix of the text of its report was written
pub record PrintsPrefix (input old new : Told) : Type 0 where
  pub script : Script
  pub report : Report
  pub says : SaysReport input script report
  pub written : AppendsPrefix old new (report_text script.classes report)

-- the input says no script, for the least reason that holds, and nothing was written
pub record RefusesInput (input old new : Told) (fault : ScriptFault) : Type 0 where
  pub bytes : List ℕ
  pub read : IsFrontOf input most_read bytes
  pub refused : Refuses fault bytes
  pub reason : fault ≢ script.OutOfMemory
  pub written : Keeps old new

-- what was written before each fault
abbrev pub GivesUp : RunFault → Told → Told → Told → Type 0
GivesUp (ScriptRefused fault) input old new = RefusesInput input old new fault
GivesUp OutOfMemory input old new = Keeps old new ⊎ PrintsPrefix input old new
GivesUp ReadFault input old new = Keeps old new
GivesUp WriteFault input old new = PrintsPrefix input old new

-- after a read fault the reader has failed meanwhile, and after any other it hasn't
unfoldable pub ReaderFailedBy : RunFault → ℕ → ℕ → Type 0
ReaderFailedBy (ScriptRefused fault) old new = new ≡ old
ReaderFailedBy OutOfMemory old new = new ≡ old
ReaderFailedBy ReadFault old new = HasFailed old new
ReaderFailedBy WriteFault old new = new ≡ old

-- by what a run answers: nor has it where the run gave no fault
abbrev pub ReaderFailed : {A : Type 0} → Result A RunFault → ℕ → ℕ → Type 0
ReaderFailed (Ok answer) old new = new ≡ old
ReaderFailed (Err fault) old new = ReaderFailedBy fault old new

-- after a write fault the writer has failed meanwhile, and after any other it hasn't
unfoldable pub WriterFailedBy : RunFault → ℕ → ℕ → Type 0
WriterFailedBy (ScriptRefused fault) old new = new ≡ old
WriterFailedBy OutOfMemory old new = new ≡ old
WriterFailedBy ReadFault old new = new ≡ old
WriterFailedBy WriteFault old new = HasFailed old new

-- by what a run answers: nor has it where the run gave no fault
abbrev pub WriterFailed : {A : Type 0} → Result A RunFault → ℕ → ℕ → Type 0
WriterFailed (Ok answer) old new = new ≡ old
WriterFailed (Err fault) old new = WriterFailedBy fault old new

-- the reader was read to its end, or to one byte more than a script may have, and has what comes after that
pub record HasRead (input rest : Told) : Type 0 where
  pub bytes : List ℕ
  pub front : IsFrontOf input most_read bytes
  pub taken : Consumes input rest bytes

-- what a reader has left after a fault: where it failed, or an allocation failed, only some of that may have been read
unfoldable pub LeavesAfter : RunFault → Told → Told → Type 0
LeavesAfter (ScriptRefused fault) input rest = HasRead input rest
LeavesAfter OutOfMemory input rest = ConsumesSome input rest
LeavesAfter ReadFault input rest = ConsumesSome input rest
LeavesAfter WriteFault input rest = HasRead input rest

-- what a reader has left, by what a run answers
abbrev pub Leaves : {A : Type 0} → Result A RunFault → Told → Told → Type 0
Leaves (Ok answer) input rest = HasRead input rest
Leaves (Err fault) input rest = LeavesAfter fault input rest

-- there is no script: why, while nothing is written, and the writer is left as it is
pub record GivesNoScript (fault : RunFault) (input rest : Told) (old new : ℕ) : Type 0 where
  pub untouched : (told : Told) → GivesUp fault input told told
  pub reader : ReaderFailedBy fault old new
  pub writer : (count : ℕ) → WriterFailedBy fault count count
  pub left : LeavesAfter fault input rest
