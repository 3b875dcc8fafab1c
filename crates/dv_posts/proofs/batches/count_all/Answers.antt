use Rattle.std.proofs.Common.{◌++◌, ◌∙◌, refl, slice_index_or, subst}
use Rattle.std.proofs.lemmas.List.{get_or_default, take_all}
use Rattle.dv_posts.proofs.CountLemmas.{counted_at, length-after, strange_at}
use Rattle.dv_posts.specs.Taking.{Counted}
use Rattle.dv_posts.specs.declared.posted.Posted.{Posted}
use Rattle.dv_posts.proofs.batches.count_all.Goals as goal

pub returns-then-not-count_one-clause-no : goal.returns-then-not-count_one-clause-no
returns-then-not-count_one-clause-no c f before was next =
    let none : Posted = record { caller = 0; index = 0 } in
    let batch = c.args.batch.now in
    let i = c.loop-posted.posted-index in
    let p = slice_index_or batch i none in
    strange_at c.args.callers.now c.loop-posted.counts.items before batch i p c.loop-posted-test.true
    (get_or_default batch i none p c.loop-posted-test.true)
    (c.if-not-count_one.ensures.strange refl) (c.loop-posted.invariant.1 before was) next

pub loop-posted-preserved : goal.loop-posted-preserved
loop-posted-preserved c =
    let none : Posted = record { caller = 0; index = 0 } in
    let batch = c.args.batch.now in
    let i = c.loop-posted.posted-index in
    let p = slice_index_or batch i none in
    let set = c.if-not-count_one.ensures.counted refl in (
      length-after c.loop-posted.counts.items c.count_one.new.counts.items p set ∙ c.loop-posted.invariant.0,
      λ before was. counted_at c.args.callers.now c.loop-posted.counts.items c.count_one.new.counts.items before batch i
          p c.loop-posted-test.true (get_or_default batch i none p c.loop-posted-test.true)
          (c.if-not-count_one.ensures.next refl) set (c.loop-posted.invariant.1 before was),
    )

pub returns-clause-yes : goal.returns-clause-yes
returns-clause-yes c t before was =
    subst (λ l. Counted c.args.callers.now c.loop-posted.counts.items (before ++ l)) (take_all
    c.loop-posted.posted-index c.args.batch.now c.loop-posted-test.false) (c.loop-posted.invariant.1 before was)
