use Rattle.std.proofs.Common.{rules, ap, Err}
use Rattle.dv_run.specs.Faults.{of_read}
use Rattle.dv_run.specs.Run.{GivesNoScript}
use Rattle.dv_run.proofs.RunLemmas.{read_gives_none}
use Rattle.dv_run.proofs.running.script_of.Goals as goal

pub returns-in_err-bytes-clause-err : goal.returns-in_err-bytes-clause-err
returns-in_err-bytes-clause-err g c =
    let given : GivesNoScript (of_read c.in_err-bytes.field-0.0) (g.R.Source.left c.args.reader.now) (g.R.Source.left
    c.read_up_to.new.source) (g.R.Source.failures c.args.reader.now) (g.R.Source.failures c.read_up_to.new.source) =
    read_gives_none _ _ _ _ _ (λ is. c.in_err-bytes.ensures.cause (ap Err is))
    (λ is. c.in_err-bytes.ensures.memory (ap Err is)) c.in_err-bytes.ensures.err in
    search rules
