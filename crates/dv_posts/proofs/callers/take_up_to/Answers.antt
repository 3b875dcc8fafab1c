use Rattle.std.proofs.Common.{arith, ◌≡◌, ◌++◌, ◌∷◌, [], ◌∙◌, length, sym, ap, subst, append_assoc, length-append}
use Rattle.dv_posts.specs.Batches.{Batch}
use Rattle.dv_posts.specs.Callers.{TookBatches}
use Rattle.dv_posts.proofs.CallerLemmas.{took_more}
use Rattle.dv_posts.proofs.callers.take_up_to.Goals as goal

pub loop-preserved : goal.loop-preserved
loop-preserved c =
    let i = c.loop.invariant in
    let posted = c.in-Some.posted in
    let pushed : c.push.new.self ≡ c.loop.batch ++ posted ∷ [] = c.in_ok-push-in-Some.ensures.ok in
    record {
      same = c.take.ensures.same ∙ i.same;
      count = ap length pushed ∙ (let n = i.count in omega (arith, n, length-append c.loop.batch (posted ∷ [])));
      took = λ before took.
          subst (λ (posts : Batch). TookBatches c.take.new.self posts)
          (append_assoc before c.loop.batch (posted ∷ []) ∙ ap (λ (l : Batch). before ++ l) (sym pushed))
          (took_more c.loop.inbox c.take.new.self posted (before ++ c.loop.batch) c.in-Some.ensures.some
          (i.took before took));
    }
