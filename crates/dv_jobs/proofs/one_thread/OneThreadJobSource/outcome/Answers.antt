use Rattle.std.proofs.Common.{rules, ◌≡◌, map}
use Rattle.dv_jobs.specs.Jobs.{job_of}
use Rattle.dv_jobs.proofs.JobLemmas.{value_at, low_known}
use Rattle.dv_jobs.proofs.one_thread.OneThreadJobSource.outcome.Goals as goal

pub index-requires : goal.index-requires
index-requires g c =
    let seen : c.args.self.now.jobs ≡ map job_of c.self.inside.answers.items = search rules in
    let low =
    low_known c.args.self.now.jobs c.self.inside.answers.items c.args.number seen c.self.invariant.0 c.requires in
    search (rules, low)

pub returns-clause-value : goal.returns-clause-value
returns-clause-value g c =
    let seen : c.args.self.now.jobs ≡ map job_of c.self.inside.answers.items = search rules in
    let low =
    low_known c.args.self.now.jobs c.self.inside.answers.items c.args.number seen c.self.invariant.0 c.requires in
    value_at c.args.self.now.jobs c.self.inside.answers.items c.index.result.now c.args.number _ seen c.self.invariant.0
    low (search rules) c.value_in.ensures
