use Rattle.std.proofs.Common.{◌-◌, ◌++◌, ◌∷◌, [], ◌∙◌, List, ℕ, slice_index, take, ap, sym, add-one}
use Rattle.dv_orders.specs.Ranking.{left_counts}
use Rattle.dv_orders.proofs.RankingLemmas.{left_more}
use Rattle.dv_orders.proofs.ranking.left_counts.Goals as goal

pub loop-caller-preserved : goal.loop-caller-preserved
loop-caller-preserved c =
    let counts = c.args.counts.now in
    let taken = c.args.taken.now in
    let i = c.loop-caller.caller in
    c.in_ok-push.ensures.items
    ∙ ap (λ (l : List ℕ). l ++ (slice_index counts i - slice_index taken i) ∷ []) c.loop-caller.invariant
    ∙ sym (left_more counts taken i c.loop-caller-test.true c.requires.len)
    ∙ ap (λ n. left_counts (take n counts) (take n taken)) (sym (add-one i))
