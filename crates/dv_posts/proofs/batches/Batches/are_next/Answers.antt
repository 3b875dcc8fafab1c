use Rattle.std.proofs.Common.{◌++◌, List, ℕ, subst, sym}
use Rattle.dv_posts.proofs.CountLemmas.{counted_next}
use Rattle.dv_posts.specs.Batches.{AreNext, joined}
use Rattle.dv_posts.specs.Taking.{Counted, Taken}
use Rattle.dv_posts.proofs.batches.Batches.are_next.Goals as goal

pub returns-clause-yes : goal.returns-clause-yes
returns-clause-yes c t =
    let counted : Counted c.self.inside.callers.now c.as_slice.result.now (joined c.self.inside.batches) =
    subst (λ (counts : List ℕ). Counted c.self.inside.callers.now counts (joined c.self.inside.batches))
    (sym c.as_slice.ensures.value) c.self.invariant.0 in
    subst (λ (taken : Taken). AreNext taken.callers (joined taken.batches ++ c.args.batch.now)) c.self.view_is
    (counted_next c.self.inside.callers.now c.count_with.new.more.items
    (joined c.self.inside.batches ++ c.args.batch.now)
    (c.count_with.ensures.yes t (joined c.self.inside.batches) counted))

pub returns-clause-no : goal.returns-clause-no
returns-clause-no c t next =
    let counted : Counted c.self.inside.callers.now c.as_slice.result.now (joined c.self.inside.batches) =
    subst (λ (counts : List ℕ). Counted c.self.inside.callers.now counts (joined c.self.inside.batches))
    (sym c.as_slice.ensures.value) c.self.invariant.0 in
    c.count_with.ensures.no t (joined c.self.inside.batches) counted
    (subst (λ (taken : Taken). AreNext taken.callers (joined taken.batches ++ c.args.batch.now))
    (sym c.self.view_is) next)
