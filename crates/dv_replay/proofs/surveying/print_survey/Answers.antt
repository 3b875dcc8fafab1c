use Rattle.dv_journal.proofs.Taken.{but_all}
use Rattle.dv_survey.specs.Text.{survey_text}
use Rattle.dv_replay.proofs.surveying.print_survey.Goals as goal

pub returns-in_default-clause-err : goal.returns-in_default-clause-err
returns-in_default-clause-err g c =
    let text = survey_text c.args.survey.now c.args.orders in (text, but_all (g.W.Sink.taken c.args.writer.now) text)
