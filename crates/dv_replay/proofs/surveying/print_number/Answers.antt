use Rattle.dv_journal.proofs.Taken.{but_all}
use Rattle.dv_survey.specs.Text.{number_text}
use Rattle.dv_replay.proofs.surveying.print_number.Goals as goal

pub returns-in_default-clause-err : goal.returns-in_default-clause-err
returns-in_default-clause-err g c =
    let line = number_text c.args.format c.args.orders in (line, but_all (g.W.Sink.taken c.args.writer.now) line)
