use Rattle.std.proofs.Common.{ap, ◌∙◌}
use Rattle.dv_threads.specs.Threading.{job_result}
use Rattle.dv_threads.proofs.JobLemmas.{low_submitted, result_at}
use Rattle.dv_threads.proofs.submissions.Submissions.outcome.Goals as goal

pub outcome-requires : goal.outcome-requires
outcome-requires g c =
    low_submitted _ c.self.inside.count c.args.job c.self.invariant.0 c.self.invariant.1 c.if-job-self.false

pub returns-clause-value : goal.returns-clause-value
returns-clause-value g c =
    result_at c.args.job _ c.in_ok-outcome.field-0 c.self.invariant.1 c.in_ok-outcome.ensures.value
    ∙ ap (job_result c.args.job) c.self.view_is
