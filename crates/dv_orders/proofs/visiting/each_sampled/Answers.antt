use Rattle.std.proofs.Common.{◌-◌, ◌∙◌, [], ◌∷◌, ◌++◌, ap, append_assoc, subst, sym}
use Rattle.dv_orders.specs.Sampled.{drawn_at, sampled}
use Rattle.dv_orders.proofs.SampledLemmas.{sampled_next}
use Rattle.dv_orders.proofs.visiting.each_sampled.Goals as goal

pub loop-left-preserved : goal.loop-left-preserved
loop-left-preserved g c =
    let script = c.args.script.now in
    let left = c.loop-left.left in
    let seen = c.loop-left.invariant.seen in
    let visited = c.in_ok-visit_drawn.ensures in
    let next = c.visit_drawn.new.generator in
    let drawn = drawn_at script next in
    let rest = sampled script (left - 1) next in
    record {
      same = visited.same ∙ c.loop-left.invariant.same;
      seen = (
        seen.0 ++ drawn ∷ [],
        append_assoc seen.0 (drawn ∷ []) rest
            ∙ ap (λ l. seen.0 ++ l) (sym (sampled_next script left c.loop-left.generator c.args.count next
            c.loop-left-test.true c.requires.number visited.state))
            ∙ seen.1,
        λ mark before has. subst (g.V.Visitor.has_seen c.visit_drawn.new.visitor mark)
            (append_assoc before seen.0 (drawn ∷ [])) (visited.ok mark (before ++ seen.0) (seen.2 mark before has)),
      );
    }
