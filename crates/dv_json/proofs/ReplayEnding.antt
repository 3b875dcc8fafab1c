-- How a run in given batches ends, by how its parts do.
use Rattle.std.proofs.Common.{arith, ◌≡◌, ℕ, List, inl, inr}
use Rattle.std.proofs.KnownBytes.{Keeps-refl}
use Rattle.dv_journal.specs.declared.error.PrintFault.{PrintFault}
use Rattle.dv_journal.specs.declared.error.PrintFault.TheVariants as printing
use Rattle.dv_journal.specs.Ending.{ending_of}
use Rattle.dv_journal.specs.declared.ending.Ending.{Ending}
use Rattle.dv_json.specs.Ended.{Ends}
use Rattle.dv_json.specs.Replayed.{GivesUpIn, HasRunIn, RunGivesUpIn}
use Rattle.dv_json.specs.Text.{IsText, Writes, WritesPrefix}
use Rattle.dv_json.specs.declared.marked.Marked.{Marked}
use Rattle.dv_run.specs.Faults.{of_print}
use Rattle.dv_run.specs.declared.error.RunFault.{RunFault}
use Rattle.dv_run.specs.declared.error.RunFault.TheVariants.{ScriptRefused, OutOfMemory, ReadFault, WriteFault}
use Rattle.dv_posts.specs.Batches.{Batch}
use Rattle.dv_replay.proofs.ReplayLemmas.{no_run_left, no_run_reader, no_run_writer}
use Rattle.dv_replay.specs.Replay.{GivesNoRun}
use Rattle.dv_replay.specs.declared.error.ReplayFault.{ReplayFault}
use Rattle.dv_replay.specs.declared.error.ReplayFault.TheVariants.{Run, BatchesRefused}
use Rattle.dv_run.proofs.RunLemmas.{left_after_perform, left_after_print, reader_after_perform, reader_after_print}
use Rattle.dv_run.proofs.RunLemmas.{writer_after_perform, writer_after_print}
use Rattle.dv_run.specs.Headline.{Told}
use Rattle.dv_run.specs.Run.{GivesNoScript, SaysScript, WriterFailedBy}
use Rattle.dv_script.specs.declared.script.Script.{Script}

-- where there is no script, nothing is written
after_no_script : (fault : RunFault) (batches : List Batch) (input rest told : Told) (old new : ℕ)
    → GivesNoScript fault input rest old new → RunGivesUpIn fault batches input told told
unfolding WriterFailedBy
after_no_script (ScriptRefused fault) batches input rest told old new none = none.untouched told
after_no_script OutOfMemory batches input rest told old new none = inl (Keeps-refl told)
after_no_script ReadFault batches input rest told old new none = none.untouched told
after_no_script WriteFault batches input rest told old new none =
    elim (none.writer 0) [ inl fewer ↦ absurd (omega (arith, fewer)) | inr most ↦ absurd (omega (arith, most)) ]

-- nor where nothing is performed
pub after_none : (fault : ReplayFault) (batches : List Batch) (input rest told : Told) (old new : ℕ)
    → GivesNoRun fault batches input rest old new → GivesUpIn fault batches input told told
after_none (Run fault) batches input rest told old new none = after_no_script fault batches input rest told old new none
after_none (BatchesRefused fault) batches input rest told old new none = (none.refuses, Keeps-refl told)

pub after_perform : (batches : List Batch) (input told : Told) → RunGivesUpIn OutOfMemory batches input told told
after_perform batches input told = inl (Keeps-refl told)

-- a print that failed: a prefix was written
pub after_print : (fault : PrintFault) (batches : List Batch) (input old new : Told) (script : Script) (end : Marked)
    → SaysScript input script → Ends script end → end.batches ≡ batches
    → WritesPrefix (IsText script.classes end) old new → RunGivesUpIn (of_print fault) batches input old new
after_print printing.WriteFault batches input old new script end says ends took written =
    record { script = script; end = end; says = says; ends = record { ends = ends; took = took }; written = written }
after_print printing.OutOfMemory batches input old new script end says ends took written =
    inr
    (record { script = script; end = end; says = says; ends = record { ends = ends; took = took }; written = written })

pub has_run : (batches : List Batch) (input old new : Told) (script : Script) (end : Marked) (ending : Ending)
    → SaysScript input script → Ends script end → end.batches ≡ batches
    → ending ≡ ending_of end.remains.stopped end.remains.journal.entries
    → Writes (IsText script.classes end) old new → HasRunIn batches input old new ending
has_run batches input old new script end ending says ends took same written = record {
  script = script;
  end = end;
  says = says;
  ends = record { ends = ends; took = took };
  same = same;
  written = written;
}

pub ruleset endings = (
  after_none,
  after_perform,
  after_print,
  has_run,
  no_run_left,
  no_run_reader,
  no_run_writer,
  left_after_perform,
  left_after_print,
  reader_after_perform,
  reader_after_print,
  writer_after_perform,
  writer_after_print,
)
