-- How a run in given batches ends, by how its parts do.
use Rattle.std.proofs.Common.{arith, ◌≡◌, ℕ, List, inl, inr, refl}
use Rattle.std.proofs.KnownBytes.{Keeps-refl}
use Rattle.std.specs.Io.KnownBytes.{Appends}
use Rattle.dv_engine.specs.declared.report.Report.{Report}
use Rattle.dv_journal.specs.Sink.{AppendsPrefix}
use Rattle.dv_journal.specs.declared.error.PrintFault.{PrintFault}
use Rattle.dv_journal.specs.declared.error.PrintFault.TheVariants as printing
use Rattle.dv_orders.specs.Faults.{Refuses}
use Rattle.dv_orders.specs.declared.fault.OrderFault.{OrderFault}
use Rattle.dv_run.specs.Faults.{of_print}
use Rattle.dv_run.specs.Output.{report_text}
use Rattle.dv_run.specs.declared.error.RunFault.{RunFault}
use Rattle.dv_run.specs.declared.error.RunFault.TheVariants.{ScriptRefused, OutOfMemory, ReadFault, WriteFault}
use Rattle.dv_posts.specs.Batches.{Batch}
use Rattle.dv_replay.specs.Replay as replay
use Rattle.dv_replay.specs.Replay.{GivesNoOrder, GivesNoRun, GivesUp, PrintsIn, RunGivesUp, SaysReportIn}
use Rattle.dv_replay.specs.declared.error.ReplayFault.{ReplayFault}
use Rattle.dv_replay.specs.declared.error.ReplayFault.TheVariants.{Run, BatchesRefused}
use Rattle.dv_run.proofs.RunLemmas.{left_after_perform, left_after_print, reader_after_perform, reader_after_print}
use Rattle.dv_run.proofs.RunLemmas.{writer_after_perform, writer_after_print}
use Rattle.dv_run.specs.Headline.{IsRun, Told}
use Rattle.dv_run.specs.Run.{GivesNoScript, HasRead, SaysScript, WriterFailedBy}
use Rattle.dv_script.specs.declared.script.Script.{Script}

-- memory was refused to the check of the batches
pub check_fails : (input rest : Told) (old new : ℕ) → HasRead input rest → new ≡ old
    → GivesNoScript OutOfMemory input rest old new
check_fails input rest old new read kept = record {
  untouched = λ told. inl (Keeps-refl told);
  reader = reader_after_perform old new kept;
  writer = λ count. writer_after_perform count;
  left = left_after_perform input rest read;
}

-- the batches are refused
pub check_refuses : (fault : OrderFault) (batches : List Batch) (input rest : Told) (old new : ℕ) (script : Script)
    → SaysScript input script → Refuses fault script batches → new ≡ old → HasRead input rest
    → GivesNoOrder fault batches input rest old new
check_refuses fault batches input rest old new script says refused kept left =
    record { refuses = record { script = script; says = says; refused = refused }; kept = kept; left = left }

-- where there is no script, nothing is written
after_none : (fault : RunFault) (batches : List Batch) (input rest told : Told) (old new : ℕ)
    → GivesNoScript fault input rest old new → RunGivesUp fault batches input told told
unfolding WriterFailedBy
after_none (ScriptRefused fault) batches input rest told old new none = none.untouched told
after_none OutOfMemory batches input rest told old new none = inl (Keeps-refl told)
after_none ReadFault batches input rest told old new none = none.untouched told
after_none WriteFault batches input rest told old new none =
    elim (none.writer 0) [ inl fewer ↦ absurd (omega (arith, fewer)) | inr most ↦ absurd (omega (arith, most)) ]

-- where nothing is performed, nothing is written, and the writer is left as it is
pub no_run : (fault : ReplayFault) (batches : List Batch) (input rest told : Told) (old new : ℕ)
    → GivesNoRun fault batches input rest old new → GivesUp fault batches input told told
no_run (Run fault) batches input rest told old new none = after_none fault batches input rest told old new none
no_run (BatchesRefused fault) batches input rest told old new none = (none.refuses, Keeps-refl told)

pub no_run_reader : (fault : ReplayFault) (batches : List Batch) (input rest : Told) (old new : ℕ)
    → GivesNoRun fault batches input rest old new → replay.ReaderFailedBy fault old new
no_run_reader (Run fault) batches input rest old new none = none.reader
no_run_reader (BatchesRefused fault) batches input rest old new none = none.kept

pub no_run_writer : (fault : ReplayFault) (batches : List Batch) (input rest : Told) (old new count : ℕ)
    → GivesNoRun fault batches input rest old new → replay.WriterFailedBy fault count count
no_run_writer (Run fault) batches input rest old new count none = none.writer count
no_run_writer (BatchesRefused fault) batches input rest old new count none = refl

pub no_run_left : (fault : ReplayFault) (batches : List Batch) (input rest : Told) (old new : ℕ)
    → GivesNoRun fault batches input rest old new → replay.LeavesAfter fault input rest
no_run_left (Run fault) batches input rest old new none = none.left
no_run_left (BatchesRefused fault) batches input rest old new none = none.left

-- nothing is performed where memory is refused: nothing was written
pub after_perform : (batches : List Batch) (input told : Told) → RunGivesUp OutOfMemory batches input told told
after_perform batches input told = inl (Keeps-refl told)

-- the report of the script that the input says, in these batches
says_in : (batches : List Batch) (input : Told) (script : Script) (report : Report) → SaysScript input script
    → IsRun script report → report.batches ≡ batches → SaysReportIn batches input script report
says_in batches input script report says runs took =
    record { says = record { bytes = says.bytes; read = says.read; says = says.says; runs = runs }; took = took }

-- a print that gave up: a prefix was written
pub after_print : (batches : List Batch) (input old new : Told) (script : Script) (report : Report) (fault : PrintFault)
    → SaysScript input script → IsRun script report → report.batches ≡ batches
    → AppendsPrefix old new (report_text script.classes report) → RunGivesUp (of_print fault) batches input old new
after_print batches input old new script report printing.WriteFault says runs took written = record {
  script = script;
  report = report;
  says = says_in batches input script report says runs took;
  written = written;
}
after_print batches input old new script report printing.OutOfMemory says runs took written = inr (record {
  script = script;
  report = report;
  says = says_in batches input script report says runs took;
  written = written;
})

-- all was written
pub after_all : (batches : List Batch) (input old new : Told) (script : Script) (report : Report)
    → SaysScript input script → IsRun script report → report.batches ≡ batches
    → Appends old new (report_text script.classes report) → PrintsIn batches input old new report
after_all batches input old new script report says runs took written =
    record { script = script; says = says_in batches input script report says runs took; written = written }

pub ruleset script_rules = (check_fails, check_refuses)

pub ruleset replay_rules = (
  no_run,
  no_run_reader,
  no_run_writer,
  no_run_left,
  after_perform,
  after_print,
  after_all,
  reader_after_perform,
  writer_after_perform,
  reader_after_print,
  writer_after_print,
  left_after_perform,
  left_after_print,
)
