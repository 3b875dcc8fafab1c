use Rattle.std.proofs.Common.{rules, ◌++◌}
use Rattle.dv_journal.specs.Line.{text_of}
use Rattle.dv_journal.specs.Sink.{AppendsPrefix}
use Rattle.dv_run.specs.Output.{output}
use Rattle.dv_run.proofs.OutputLemmas.{first_then_prefix}
use Rattle.dv_run.proofs.output.print_report.Goals as goal

pub returns-in_err-print_outcomes-clause-err : goal.returns-in_err-print_outcomes-clause-err
returns-in_err-print_outcomes-clause-err g c =
    let cut : AppendsPrefix (g.W.Sink.taken c.args.sink.now) (g.W.Sink.taken c.print_outcomes.new.sink)
    (text_of c.args.classes.now c.args.report.now.journal.entries ++ output c.args.classes.now c.as_slice.result.now) =
    first_then_prefix _ _ _ _ _ c.in_ok-print.ensures.ok c.in_err-print_outcomes.ensures.err in
    search rules
