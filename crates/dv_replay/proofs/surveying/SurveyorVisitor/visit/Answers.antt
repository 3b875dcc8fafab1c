use Rattle.std.proofs.Common.{ap, sym, ◌∙◌}
use Rattle.dv_journal.specs.Ending.{ending_of}
use Rattle.dv_replay.proofs.SurveyingLemmas.{on_ok, visited}
use Rattle.dv_replay.specs.Surveying.{format_of}
use Rattle.dv_survey.specs.Survey.{run_of}
use Rattle.dv_replay.proofs.surveying.SurveyorVisitor.visit.Goals as goal

pub returns-clause-ok : goal.returns-clause-ok
returns-clause-ok g c =
    let report = c.in-Ok.report in
    let batches = c.args.batches.now in
    let outcomes = c.as_slice.result.now in
    on_ok c.add-added.result c.add-added.ensures
    (λ added mark. visited (format_of mark) c.args.script.now c.args.self.now.script.now c.args.self.now.survey
    c.add-added.new.self batches report (run_of batches outcomes c.ending.result)
    c.requires.known c.in-Ok.ensures.ends c.in-Ok.ensures.took
    (ap (λ e. run_of batches outcomes e) c.ending.ensures
    ∙ ap (λ l. run_of batches l (ending_of report.stopped report.journal.entries)) c.as_slice.ensures
    ∙ ap (λ b. run_of b report.outcomes (ending_of report.stopped report.journal.entries)) (sym c.in-Ok.ensures.took))
    added)
