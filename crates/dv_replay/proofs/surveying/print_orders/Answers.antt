use Rattle.std.proofs.Common.{Err, ap, subst, sym}
use Rattle.std.specs.Io.KnownBytes.{Appends}
use Rattle.dv_journal.specs.Sink.{AppendsPrefix}
use Rattle.dv_run.specs.Faults.{of_print}
use Rattle.dv_replay.proofs.SurveyingLemmas.{all_written, count_fails, count_writer, memory_writer, number_fails}
use Rattle.dv_replay.proofs.SurveyingLemmas.{runs_fail, survey_fails}
use Rattle.dv_replay.specs.Surveying.{OrdersGiveUp}
use Rattle.dv_replay.specs.declared.error.SurveyFault.TheVariants.{Run}
use Rattle.dv_survey.specs.Text.{survey_text}
use Rattle.dv_run.proofs.RunLemmas.{writer_after_print}
use Rattle.dv_run.specs.Run.{WriterFailedBy}
use Rattle.dv_replay.proofs.surveying.print_orders.Goals as goal

pub returns-in-Err-clause-err : goal.returns-in-Err-clause-err
returns-in-Err-clause-err g c =
    count_fails c.args.format c.in-Err.fault c.args.chosen
    (g.W.Sink.taken c.args.writer.now) c.args.script.now c.in-Err.ensures.err

pub returns-in-Err-clause-writer : goal.returns-in-Err-clause-writer
returns-in-Err-clause-writer g c =
    count_writer c.in-Err.fault c.args.chosen
    (g.W.Sink.failures c.args.writer.now) c.args.script.now c.in-Err.ensures.err

pub returns-in-Err-print_number-clause-err : goal.returns-in-Err-print_number-clause-err
returns-in-Err-print_number-clause-err g c =
    let fault = c.in-Err-print_number.fault in
    let old = g.W.Sink.taken c.args.writer.now in
    let new = g.W.Sink.taken c.print_number.new.writer in
    subst (λ f. OrdersGiveUp c.args.format (Run f) c.args.chosen old new c.args.script.now) (sym c.into.ensures)
    (number_fails c.args.format fault c.args.chosen c.in-Ok.orders old new c.args.script.now c.in-Ok.ensures.number
    c.in-Err-print_number.ensures.err)

pub returns-in-Err-print_number-clause-writer : goal.returns-in-Err-print_number-clause-writer
returns-in-Err-print_number-clause-writer g c =
    let old = g.W.Sink.failures c.args.writer.now in
    let new = g.W.Sink.failures c.print_number.new.writer in
    let printed = c.in-Err-print_number in
    subst (λ f. WriterFailedBy f old new) (sym c.into.ensures) (writer_after_print printed.fault old new
    (λ is. printed.ensures.cause (ap Err is)) (λ is. printed.ensures.memory (ap Err is)))

pub returns-in_default-survey_of-clause-err : goal.returns-in_default-survey_of-clause-err
returns-in_default-survey_of-clause-err g c =
    runs_fail c.args.format c.args.chosen c.in-Ok.orders (g.W.Sink.taken c.args.writer.now)
    (g.W.Sink.taken c.print_number.new.writer) c.args.script.now c.in-Ok.ensures.number c.in_default.ensures.ok

pub returns-in_default-survey_of-clause-writer : goal.returns-in_default-survey_of-clause-writer
returns-in_default-survey_of-clause-writer g c =
    memory_writer (g.W.Sink.failures c.args.writer.now)
    (g.W.Sink.failures c.print_number.new.writer) c.in_default.ensures.kept

pub returns-in-Ok-print_survey-clause-ok : goal.returns-in-Ok-print_survey-clause-ok
returns-in-Ok-print_survey-clause-ok g c =
    let old = g.W.Sink.taken c.args.writer.now in
    let mid = g.W.Sink.taken c.print_number.new.writer in
    let new = g.W.Sink.taken c.print_survey.new.writer in
    all_written c.args.format c.args.chosen c.in-Ok.orders
    (record { outcomes = c.outcomes_len.result; unmet = c.unmet.result }) old mid new c.args.script.now
    c.in-Ok-survey_of.survey
    c.in-Ok.ensures.number c.in-Ok.ensures.few c.in-Ok-survey_of.ensures c.in_default.ensures.ok
    (subst
    (λ m. Appends mid new (survey_text c.in-Ok-survey_of.survey m)) c.ran.ensures c.in-Ok-print_survey.ensures.ok)
    c.outcomes_len.ensures c.unmet.ensures

pub returns-clause-err : goal.returns-clause-err
returns-clause-err g c =
    let old = g.W.Sink.taken c.args.writer.now in
    let mid = g.W.Sink.taken c.print_number.new.writer in
    let new = g.W.Sink.taken c.print_survey.new.writer in
    let printed = c.in-Err-print_survey in
    subst (λ f. OrdersGiveUp c.args.format (Run f) c.args.chosen old new c.args.script.now)
    (sym c.into-in-Err-print_survey.ensures)
    (survey_fails c.args.format printed.fault c.args.chosen c.in-Ok.orders old mid new c.args.script.now
    c.in-Ok-survey_of.survey
    c.in-Ok.ensures.number c.in-Ok-survey_of.ensures c.in_default.ensures.ok
    (subst (λ m. AppendsPrefix mid new (survey_text c.in-Ok-survey_of.survey m)) c.ran.ensures printed.ensures.err))

pub returns-clause-writer : goal.returns-clause-writer
returns-clause-writer g c =
    let old = g.W.Sink.failures c.args.writer.now in
    let mid = g.W.Sink.failures c.print_number.new.writer in
    let new = g.W.Sink.failures c.print_survey.new.writer in
    let printed = c.in-Err-print_survey in
    subst (λ f. WriterFailedBy f old new) (sym c.into-in-Err-print_survey.ensures)
    (subst (λ count. WriterFailedBy (of_print printed.fault) count new) c.in_default.ensures.kept (writer_after_print
    printed.fault mid new (λ is. printed.ensures.cause (ap Err is)) (λ is. printed.ensures.memory (ap Err is))))
