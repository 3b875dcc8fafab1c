use Rattle.std.proofs.Common.{rules}
use Rattle.dv_json.proofs.Ending.{after_none}
use Rattle.dv_json.specs.Lines.{GivesUp}
use Rattle.dv_json.proofs.running.run.Goals as goal

pub returns-in_err-script-clause-err : goal.returns-in_err-script-clause-err
returns-in_err-script-clause-err g c =
    let gives : GivesUp c.in_err-script.field-0.0 (g.R.Source.left c.args.reader.now) (g.W.Sink.taken c.args.writer.now)
    (g.W.Sink.taken c.args.writer.now) =
    after_none _ _ _ _ _ _ c.in_err-script.ensures.err in
    search rules
