use Rattle.std.proofs.Common.{arith}
use Rattle.dv_threads.proofs.JobLemmas.{one_more_row}
use Rattle.dv_threads.proofs.submissions.Submissions.submit.Goals as goal

pub invariant_of-self : goal.invariant_of-self
invariant_of-self g c =
    let row =
    one_more_row _ _ c.self.inside.count c.in_ok-work.work c.self.invariant.0 c.self.invariant.1 c.in-Ok.ensures.ok in
    (row.0, row.1, omega (arith, c.self.invariant.2, c.in-Ok.ensures.same.0))
