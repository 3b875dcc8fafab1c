use Rattle.dv_replay.proofs.SurveyingLemmas.{fault_left, fault_reader, no_script}
use Rattle.dv_replay.proofs.surveying.survey.Goals as goal

pub returns-in-Err-clause-err : goal.returns-in-Err-clause-err
returns-in-Err-clause-err g c =
    no_script c.args.format c.in-Err.fault c.args.chosen (g.R.Source.left c.args.reader.now)
    (g.R.Source.left c.script_of.new.reader) (g.W.Sink.taken c.args.writer.now)
    (g.R.Source.failures c.args.reader.now) (g.R.Source.failures c.script_of.new.reader) c.in-Err.ensures.err

pub returns-in-Err-print_orders-clause-reader : goal.returns-in-Err-print_orders-clause-reader
returns-in-Err-print_orders-clause-reader g c =
    let failed = c.in-Err-print_orders in
    fault_reader c.args.format failed.fault c.args.chosen (g.W.Sink.taken c.args.writer.now)
    (g.W.Sink.taken c.print_orders.new.writer) c.in-Ok.script
    (g.R.Source.failures c.args.reader.now)
    (g.R.Source.failures c.script_of.new.reader) failed.ensures.err c.in-Ok.ensures.kept

pub returns-in-Err-print_orders-clause-left : goal.returns-in-Err-print_orders-clause-left
returns-in-Err-print_orders-clause-left g c =
    let failed = c.in-Err-print_orders in
    fault_left c.args.format failed.fault c.args.chosen (g.W.Sink.taken c.args.writer.now)
    (g.W.Sink.taken c.print_orders.new.writer) c.in-Ok.script
    (g.R.Source.left c.args.reader.now) (g.R.Source.left c.script_of.new.reader) failed.ensures.err c.in-Ok.ensures.left
