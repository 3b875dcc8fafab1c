-- The headline: what a run over threads reports and prints.
use Rattle.std.specs.Prelude.{ℕ, ◌+◌, List, Option}
use Rattle.std.specs.Io.KnownBytes.{Appends}
use Rattle.dv_posts.specs.Batches.{AreComplete}
use Rattle.dv_engine.specs.Report.{Reports}
use Rattle.dv_engine.specs.declared.report.Report.{Report}
use Rattle.dv_reader.specs.Refusal.{Says}
use Rattle.dv_forms.specs.declared.limits.TheConstants.{WIDEST_BYTES}
use Rattle.dv_script.specs.declared.script.Script.{Script}
use Rattle.dv_run.specs.Output.{report_text}
use Rattle.dv_source.specs.Source.{IsFrontOf}

-- the journal and the outcomes are those of the one-thread definition for the script and the batches in which posts
-- were taken, which are lawful; each job that was submitted ran once, with its work; and each caller's posts were taken
-- once each, in order
pub record IsRun (script : Script) (report : Report) : Type 0 where
  pub reports : Reports script report
  pub complete : AreComplete script report.batches

-- the bytes that a reader has left, or a writer has taken, where they are reported
abbrev pub Told : Type 0
Told = Option (List ℕ)

-- how many bytes are read at most: one more than a script of any version may have
abbrev pub most_read : ℕ
most_read = WIDEST_BYTES + 1

-- the input says a script, and this is the report of a run of it
pub record SaysReport (input : Told) (script : Script) (report : Report) : Type 0 where
  pub bytes : List ℕ
  pub read : IsFrontOf input most_read bytes
  pub says : Says bytes script
  pub runs : IsRun script report

-- the input says a script, and the text of the report of a run of it was written
pub record Prints (input old new : Told) (report : Report) : Type 0 where
  pub script : Script
  pub says : SaysReport input script report
  pub written : Appends old new (report_text script.classes report)
