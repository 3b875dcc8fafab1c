use Rattle.std.proofs.Common.{List, subst, sym}
use Rattle.dv_posts.specs.Batches.{AreNext, Batch, joined}
use Rattle.dv_engine.proofs.engine.report.Goals as goal

pub returns-clause-next : goal.returns-clause-next
returns-clause-next g c =
    subst (λ (batches : List Batch). AreNext c.args.batches.callers (joined batches))
    (sym c.into_items-batches.ensures.same) c.into_items-batches.ensures.next
