use Rattle.dv_replay.proofs.ReplayLemmas.{check_fails}
use Rattle.dv_replay.proofs.running.script_in.Goals as goal

pub returns-in-Err-clause-err : goal.returns-in-Err-clause-err
returns-in-Err-clause-err g c =
    let source = g.R.Source in
    check_fails (source.left c.args.reader.now) (source.left c.script_of.new.reader) (source.failures c.args.reader.now)
    (source.failures c.script_of.new.reader) c.in_ok-script.ensures.left c.in_ok-script.ensures.kept
