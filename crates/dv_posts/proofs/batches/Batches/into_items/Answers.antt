use Rattle.std.proofs.Common.{subst}
use Rattle.dv_posts.proofs.CountLemmas.{counted_next}
use Rattle.dv_posts.specs.Batches.{AreNext, joined}
use Rattle.dv_posts.specs.Taking.{Taken}
use Rattle.dv_posts.proofs.batches.Batches.into_items.Goals as goal

pub returns-clause-next : goal.returns-clause-next
returns-clause-next c =
    subst (λ (t : Taken). AreNext t.callers (joined t.batches)) c.self.view_is (counted_next c.self.inside.callers.now
    c.self.inside.counts.items (joined c.self.inside.batches) c.self.invariant.0)
