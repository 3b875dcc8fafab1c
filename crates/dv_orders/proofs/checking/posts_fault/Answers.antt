use Rattle.std.proofs.Common.{◌≡◌, ◌∙◌, ◌++◌, List, [], sym, subst, slice_index_or, take}
use Rattle.std.proofs.lemmas.List.{get_or_default}
use Rattle.dv_orders.proofs.CheckLemmas.{is_strange, joined_at}
use Rattle.dv_posts.specs.Batches.{Batch, joined}
use Rattle.dv_posts.specs.Taking.{Counted}
use Rattle.dv_orders.proofs.checking.posts_fault.Goals as goal

pub returns-in-Some : goal.returns-in-Some
returns-in-Some c =
    let batches : List Batch = c.args.batches.now in
    let n = c.loop-number.number in
    let is : c.as_slice.result.now ≡ slice_index_or batches n [] = c.as_slice.ensures ∙ c.index-batches-number.is
    ∙ get_or_default batches n c.index-batches-number.result [] c.loop-number-test.true in
    is_strange c.args.callers.now c.loop-number.counts.items batches c.as_slice.result.now n c.in-Some.place
    c.loop-number-test.true is c.loop-number.invariant.counted c.in-Some.ensures.strange

pub loop-number-preserved : goal.loop-number-preserved
loop-number-preserved c =
    let batches : List Batch = c.args.batches.now in
    let n = c.loop-number.number in
    let is : c.as_slice.result.now ≡ slice_index_or batches n [] = c.as_slice.ensures ∙ c.index-batches-number.is
    ∙ get_or_default batches n c.index-batches-number.result [] c.loop-number-test.true in
    record {
      len = c.in-None.ensures.len;
      counted =
          subst (Counted c.args.callers.now c.first_strange.new.counts.items)
          (sym (joined_at batches n c.loop-number-test.true))
          (subst (λ l. Counted c.args.callers.now c.first_strange.new.counts.items (joined (take n batches) ++ l)) is
          (c.in-None.ensures.strange (joined (take n batches)) c.loop-number.invariant.counted));
    }
