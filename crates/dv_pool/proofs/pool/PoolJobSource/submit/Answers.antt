use Rattle.std.proofs.Common.{rules, ◌≡◌, length}
use Rattle.dv_pool.proofs.Kept.{row_below}
use Rattle.dv_pool.proofs.pool.PoolJobSource.submit.Goals as goal

pub submit_numbered-requires-clause-above : goal.submit_numbered-requires-clause-above
submit_numbered-requires-clause-above g c =
    let count : c.self.inside.count ≡ length c.args.self.now.jobs = search rules in
    row_below c.args.self.now.jobs c.self.inside.count c.requires.row count
