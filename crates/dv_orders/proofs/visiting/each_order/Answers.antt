use Rattle.std.proofs.Common.{[], ◌∷◌, ◌++◌, ◌∙◌, sym, ap, subst, append_assoc}
use Rattle.dv_orders.specs.Ordering.{batches_of, later_orders}
use Rattle.dv_orders.proofs.OrderLemmas.{listed}
use Rattle.dv_orders.proofs.visiting.each_order.Goals as goal

pub visit-requires-clause-order : goal.visit-requires-clause-order
visit-requires-clause-order g c =
    let seen = c.loop-order.invariant.seen in
    listed c.args.script.now seen.0 (later_orders c.loop-order.order) (batches_of c.loop-order.order) seen.1

pub loop-order-preserved : goal.loop-order-preserved
loop-order-preserved g c =
    let seen = c.loop-order.invariant.seen in
    let batches = batches_of c.loop-order.order in
    let next = rw c.if-not-branch.false at c.in_ok-advance.ensures.next in
    record {
      whole = c.in_ok-advance.ensures.whole c.if-not-branch.false;
      same = c.in_ok-visit.ensures.same ∙ c.loop-order.invariant.same;
      seen = (
        seen.0 ++ batches ∷ [],
        seen.1 ∙ ap (λ l. seen.0 ++ batches ∷ l) next ∙ sym (append_assoc seen.0 (batches ∷ [])
            (batches_of c.advance.new.self ∷ later_orders c.advance.new.self)),
        λ mark before has. subst (g.V.Visitor.has_seen c.visit.new.visitor mark)
            (append_assoc before seen.0 (batches ∷ []))
            (c.in_ok-visit.ensures.ok mark (before ++ seen.0) (seen.2 mark before has)),
      );
    }
