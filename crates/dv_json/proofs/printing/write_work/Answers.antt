use Rattle.dv_json.proofs.Parts.{work_added}
use Rattle.dv_json.proofs.printing.write_work.Goals as goal

pub returns : goal.returns
returns c =
    work_added c.write_jobs.result c.args.run.batches.now _ _ _ _ _ c.write_jobs.ensures c.in_ok-write_text.ensures
    c.in_ok-write_batches.ensures c.in_ok-write_text-2.ensures
