-- How a run ends, by how its parts do.
use Rattle.std.proofs.Common.{◌≡◌, ℕ, inl, inr, arith}
use Rattle.std.proofs.KnownBytes.{Keeps-refl}
use Rattle.dv_journal.specs.declared.error.PrintFault.{PrintFault}
use Rattle.dv_journal.specs.declared.error.PrintFault.TheVariants as printing
use Rattle.dv_journal.specs.Ending.{ending_of}
use Rattle.dv_journal.specs.declared.ending.Ending.{Ending}
use Rattle.dv_json.specs.Ended.{Ends}
use Rattle.dv_json.specs.Lines.{GivesUp, HasRun}
use Rattle.dv_json.specs.Text.{IsText, Writes, WritesPrefix}
use Rattle.dv_json.specs.declared.marked.Marked.{Marked}
use Rattle.dv_run.specs.Faults.{of_print}
use Rattle.dv_run.specs.declared.error.RunFault.{RunFault}
use Rattle.dv_run.specs.declared.error.RunFault.TheVariants.{ScriptRefused, OutOfMemory, ReadFault, WriteFault}
use Rattle.dv_run.proofs.RunLemmas.{left_after_perform, left_after_print, reader_after_perform, reader_after_print}
use Rattle.dv_run.proofs.RunLemmas.{writer_after_perform, writer_after_print}
use Rattle.dv_run.specs.Headline.{Told}
use Rattle.dv_run.specs.Run.{GivesNoScript, SaysScript, WriterFailedBy}
use Rattle.dv_script.specs.declared.script.Script.{Script}

-- where there is no script, nothing is written
pub after_none : (fault : RunFault) (input rest told : Told) (old new : ℕ) → GivesNoScript fault input rest old new
    → GivesUp fault input told told
unfolding WriterFailedBy
after_none (ScriptRefused fault) input rest told old new none = none.untouched told
after_none OutOfMemory input rest told old new none = inl (Keeps-refl told)
after_none ReadFault input rest told old new none = none.untouched told
after_none WriteFault input rest told old new none =
    elim (none.writer 0) [ inl fewer ↦ absurd (omega (arith, fewer)) | inr most ↦ absurd (omega (arith, most)) ]

pub after_perform : (input told : Told) → GivesUp OutOfMemory input told told
after_perform input told = inl (Keeps-refl told)

-- a print that failed: a prefix was written
pub after_print : (fault : PrintFault) (input old new : Told) (script : Script) (end : Marked) → SaysScript input script
    → Ends script end → WritesPrefix (IsText script.classes end) old new
    → GivesUp (of_print fault) input old new
after_print printing.WriteFault input old new script end says ends written =
    record { script = script; end = end; says = says; ends = ends; written = written }
after_print printing.OutOfMemory input old new script end says ends written =
    inr (record { script = script; end = end; says = says; ends = ends; written = written })

pub has_run : (input old new : Told) (script : Script) (end : Marked) (ending : Ending) → SaysScript input script
    → Ends script end → ending ≡ ending_of end.remains.stopped end.remains.journal.entries
    → Writes (IsText script.classes end) old new → HasRun input old new ending
has_run input old new script end ending says ends same written =
    record { script = script; end = end; says = says; ends = ends; same = same; written = written }

pub ruleset endings = (
  after_none,
  after_perform,
  after_print,
  has_run,
  left_after_perform,
  left_after_print,
  reader_after_perform,
  reader_after_print,
  writer_after_perform,
  writer_after_print,
)
