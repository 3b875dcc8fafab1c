use Rattle.dv_json.proofs.Parts.{end_added}
use Rattle.dv_json.proofs.printing.write_end.Goals as goal

pub returns : goal.returns
returns c =
    end_added c.write_totals.result c.args.run.batches.now c.args.run.journal.now c.args.run.stopped c.args.time _ _ _ c.write_totals.ensures
    c.in_ok-write_work.ensures
