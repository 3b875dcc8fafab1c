use Rattle.std.proofs.Common.{arith, ◌+◌, ◌-◌, ◌∙◌, min, slice_index, sym, ap}
use Rattle.dv_orders.proofs.NumberLemmas.{others_more, sum_of_others, sum_step}
use Rattle.dv_orders.proofs.numbering.sum_over_splits.Goals as goal

pub loop-left-preserved : goal.loop-left-preserved
loop-left-preserved c =
    let most = c.loop-left.most in
    let left = c.loop-left.left in
    let total = c.loop-left.total in
    let cap = c.args.cap in
    record {
      within = omega arith;
      whole = λ number line.
          let value = line (left - 1) (omega arith) in
          let more = others_more number most left c.if-most-gt0.true c.loop-left-test.true in (
            omega (arith, c.capped_sum-total.ensures),
            ap (λ n. min (n + sum_of_others number (most - 1) (left - 1)) cap) c.capped_sum-total.ensures
                ∙ sum_step total (slice_index c.args.line.now (left - 1)) (number (left - 1))
                (sum_of_others number (most - 1) (left - 1)) _ cap value
                (ap (λ n. min (total + n) cap) (sym more) ∙ (c.loop-left.invariant.whole number line).1),
          );
    }
