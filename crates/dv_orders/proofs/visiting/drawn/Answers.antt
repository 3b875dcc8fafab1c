use Rattle.std.proofs.Common.{arith, ◌≡◌, ◌<◌, ◌%◌, ◌∙◌, [], Some, None, length, slice_get, slice_index_or, ap, subst}
use Rattle.std.proofs.Common.{sym}
use Rattle.std.proofs.lemmas.Option.{get_or_from_slice_get}
use Rattle.dv_orders.specs.Listed.{AreOrder}
use Rattle.dv_orders.specs.Orders.{orders}
use Rattle.dv_orders.specs.Sampling.{number_of}
use Rattle.dv_orders.proofs.NumberLemmas.{there_is_one}
use Rattle.dv_orders.proofs.SampledLemmas.{order_there, some_there}
use Rattle.dv_orders.proofs.visiting.drawn.Goals as goal

pub below-number-requires : goal.below-number-requires
below-number-requires c = let some = there_is_one c.args.script.now in omega (arith, c.requires.number, some)

pub unreachable-requires : goal.unreachable-requires
unreachable-requires c =
    let script = c.args.script.now in
    let n = c.below-number.result in
    let low : n < length (orders script) = omega (arith, c.below-number.ensures.below, c.requires.number) in
    let both : None ≡ Some (slice_index_or (orders script) n []) =
    sym c.in-Ok-None.field-0-is ∙ c.in-Ok-None.ensures ∙ some_there (orders script) n [] low in
    grind (arith, both)

pub returns-in-Ok-Some-clause-drawn : goal.returns-in-Ok-Some-clause-drawn
returns-in-Ok-Some-clause-drawn c =
    let script = c.args.script.now in
    let n = c.below-number.result in
    let batches = c.in-Ok-Some.batches in
    sym (get_or_from_slice_get (orders script) n batches [] (sym c.in-Ok-Some.ensures ∙ c.in-Ok-Some.field-0-is))
    ∙ ap (λ k. slice_index_or (orders script) k [])
    (c.below-number.ensures.number ∙ ap (λ count. number_of c.below-number.new.self % count) c.requires.number)

pub returns-in-Ok-Some-clause-order : goal.returns-in-Ok-Some-clause-order
returns-in-Ok-Some-clause-order c =
    let script = c.args.script.now in
    let n = c.below-number.result in
    let batches = c.in-Ok-Some.batches in
    let low : n < length (orders script) = omega (arith, c.below-number.ensures.below, c.requires.number) in
    subst (λ b. AreOrder script b) (get_or_from_slice_get (orders script) n batches []
    (sym c.in-Ok-Some.ensures ∙ c.in-Ok-Some.field-0-is)) (order_there script n low)
