use Rattle.std.proofs.Common.{List, ℕ, subst, sym}
use Rattle.dv_posts.specs.Taking.{Counted}
use Rattle.dv_posts.proofs.batches.count_with.Goals as goal

pub returns-clause-yes : goal.returns-clause-yes
returns-clause-yes c t before was =
    c.count_all.ensures.yes t before
    (subst (λ (counts : List ℕ). Counted c.args.callers.now counts before) (sym c.copy_from_slice.ensures.items) was)
