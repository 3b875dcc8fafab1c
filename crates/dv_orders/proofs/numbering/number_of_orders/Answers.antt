use Rattle.std.proofs.Common.{rules, arith, ◌+◌}
use Rattle.dv_orders.proofs.NumberLemmas.{counts_all, sequences_past}
use Rattle.dv_orders.proofs.numbering.number_of_orders.Goals as goal

pub returns : goal.returns
returns c =
    counts_all c.args.script.now c.args.most c.number_up_to.result c.in_ok-sequences.sequences c.in_ok-cuts.cuts
    c.capped_product.result (c.min-cap.result + 1)
    (omega (arith, c.min-cap.ensures)) (search rules) (search rules) c.capped_product.ensures c.number_up_to.ensures

pub returns-then-sequences-cap : goal.returns-then-sequences-cap
returns-then-sequences-cap c =
    sequences_past c.args.script.now c.args.most c.in_ok-sequences.sequences (c.min-cap.result + 1)
    (omega (arith, c.min-cap.ensures)) (search rules) c.if-sequences-cap.true
