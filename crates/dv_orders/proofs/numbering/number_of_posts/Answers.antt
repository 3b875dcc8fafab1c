use Rattle.std.proofs.Common.{arith, ◌≡◌, ◌+◌, ◌++◌, ◌∷◌, [], ◌∙◌, List, length, take, sym, ap}
use Rattle.std.proofs.lemmas.List.{take_more}
use Rattle.dv_script.specs.declared.body.Body.{Body}
use Rattle.dv_orders.specs.Orders.{counts_of, total}
use Rattle.dv_orders.proofs.NumberLemmas.{total_more}
use Rattle.dv_orders.proofs.numbering.number_of_posts.Goals as goal

pub loop-caller-preserved : goal.loop-caller-preserved
loop-caller-preserved c =
    let callers = c.args.callers.now in
    let i = c.loop-caller.caller-index in
    let own = c.caller-item.result in
    let next : take (i + 1) callers ≡ take i callers ++ own ∷ [] = take_more callers i own c.loop-caller-test.true
    ∙ ap (λ (l : List Body). take i callers ++ l ∷ []) (sym c.caller-item.is) in
    let more = ap (λ (l : List (List Body)). total (counts_of l)) next ∙ total_more (take i callers) own in
    let same = ap (λ (l : List Body). length l) c.as_slice-count.ensures in (
      omega (arith, c.loop-caller.invariant.0, more, same),
      omega (arith, c.loop-caller.invariant.1, c.if-count-posts.false),
    )
