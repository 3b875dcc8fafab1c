use Rattle.std.proofs.Common.{arith, ◌≡◌, ◌+◌, ◌-◌, ◌≤◌, ◌∙◌, ℕ, min, slice_index, ap, subst}
use Rattle.std.proofs.lemmas.Grind.{get_or_default_zero}
use Rattle.dv_orders.specs.Numbers.{ways}
use Rattle.dv_orders.proofs.NumberLemmas.{at_cap, ways_grow}
use Rattle.dv_orders.proofs.numbering.ways.Goals as goal
use Rattle.dv_orders.proofs.numbering.ways.Goals.{then-loop-posts-test+else-index-cap, else-loop-posts-test}

pub returns : goal.returns
returns c =
    let own = c.args.own in
    let others = c.args.others in
    let cap = c.args.cap in
    let posts = c.loop-posts.posts in
    let line = c.loop-posts.line.items in
    let invariant = c.loop-posts.invariant in
    let len = invariant.len in
    let so_far : slice_index line others ≡ min (ways posts others) cap = invariant.line others (omega (arith, len)) in
    let result : c.index-2.result.now ≡ min (ways posts others) cap =
    c.index-2.ensures ∙ get_or_default_zero line others c.index-2.result.now (omega (arith, len)) ∙ so_far in
    elim c.loop-posts-test.branch [
      | then-loop-posts-test+else-index-cap w ↦
          let tested : w.index.result.now ≡ min (ways posts others) cap =
          w.index.ensures ∙ get_or_default_zero line others w.index.result.now (omega (arith, len)) ∙ so_far in
          let all : posts + (own - posts) ≡ own = omega (arith, invariant.within) in
          let grows : ways posts others ≤ ways own others =
          subst (λ (n : ℕ). ways posts others ≤ ways n others) all (ways_grow posts (own - posts) others) in
          at_cap c.index-2.result.now (ways posts others) (ways own others) cap result
          (omega (arith, w.if-index-cap.false, tested, result)) grows
      | else-loop-posts-test w ↦
          let all : posts ≡ own = omega (arith, invariant.within, w.loop-posts-test.false) in
          result ∙ ap (λ (n : ℕ). min (ways n others) cap) all
    ]
