use Rattle.std.proofs.Common.{rules, ◌≡◌, ◌<◌, ◌≤◌, length}
use Rattle.dv_script.specs.declared.work.TheConstants.{MOST_JOBS}
use Rattle.dv_jobs.specs.Jobs.{jobs_from}
use Rattle.dv_pool.proofs.Routed.{room_there, full_there}
use Rattle.dv_pool.proofs.pools.PoolsJobSource.may_submit.Goals as goal

pub returns-then-len-lt-MOST_JOBS : goal.returns-then-len-lt-MOST_JOBS
returns-then-len-lt-MOST_JOBS g c =
    let seen : c.args.self.now.jobs ≡ jobs_from 0 c.self.inside.works.items = search rules in
    let low : length c.self.inside.works.items < MOST_JOBS = search rules in
    room_there c.self.inside.works.items c.args.self.now.jobs seen low

pub returns-else-len-lt-MOST_JOBS : goal.returns-else-len-lt-MOST_JOBS
returns-else-len-lt-MOST_JOBS g c =
    let seen : c.args.self.now.jobs ≡ jobs_from 0 c.self.inside.works.items = search rules in
    let low : MOST_JOBS ≤ length c.self.inside.works.items = search rules in
    full_there c.self.inside.works.items c.args.self.now.jobs seen low
