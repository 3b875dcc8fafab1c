use Rattle.std.proofs.Common.{◌++◌, ◌∙◌, ◌+◌, length, slice_index_or, subst, ap, sym, length-set}
use Rattle.std.proofs.lemmas.List.{get_or_default, take_all}
use Rattle.dv_orders.proofs.CheckLemmas.{counted_here, strange_here}
use Rattle.dv_posts.specs.Taking.{Counted}
use Rattle.dv_posts.specs.declared.posted.Posted.{Posted}
use Rattle.dv_orders.proofs.checking.first_strange.Goals as goal

pub returns-then-not-count_one-clause-strange : goal.returns-then-not-count_one-clause-strange
returns-then-not-count_one-clause-strange c =
    let none : Posted = record { caller = 0; index = 0 } in
    let batch = c.args.batch.now in
    let i = c.loop-place.place in
    let p = slice_index_or batch i none in (
      c.loop-place-test.true,
      λ before was. strange_here c.args.callers.now c.args.counts.now.items c.loop-place.counts.items before batch i p
          c.loop-place-test.true (get_or_default batch i none p c.loop-place-test.true)
          (sym c.if-not-count_one.ensures.next) (c.loop-place.invariant.counted before was),
    )

pub loop-place-preserved : goal.loop-place-preserved
loop-place-preserved c =
    let none : Posted = record { caller = 0; index = 0 } in
    let batch = c.args.batch.now in
    let i = c.loop-place.place in
    let p = slice_index_or batch i none in
    let set = c.if-not-count_one.ensures.counted in
    record {
      len = ap length set ∙ length-set c.loop-place.counts.items p.caller (p.index + 1) ∙ c.loop-place.invariant.len;
      counted =
          λ before was. counted_here c.args.callers.now c.loop-place.counts.items c.count_one.new.counts.items before
          batch i p c.loop-place-test.true (get_or_default batch i none p c.loop-place-test.true)
          (sym c.if-not-count_one.ensures.next) set (c.loop-place.invariant.counted before was);
    }

pub returns-clause-strange : goal.returns-clause-strange
returns-clause-strange c before was =
    subst (λ l. Counted c.args.callers.now c.loop-place.counts.items (before ++ l))
    (take_all c.loop-place.place c.args.batch.now c.loop-place-test.false) (c.loop-place.invariant.counted before was)
