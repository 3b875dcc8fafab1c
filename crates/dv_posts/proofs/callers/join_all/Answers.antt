use Rattle.std.proofs.Common.{arith, ◌++◌, ◌∷◌, [], ◌∙◌, sym, ap, subst, append_assoc}
use Rattle.std.specs.Vec.Iter.{into_iter_items}
use Rattle.dv_posts.proofs.CallerLemmas.{Ended, Made, made_more}
use Rattle.dv_posts.proofs.callers.join_all.Goals as goal

pub loop-caller-preserved : goal.loop-caller-preserved
loop-caller-preserved g c =
    let i = c.loop-caller.invariant in
    let done = c.loop-caller.yielded in
    let rest = into_iter_items c.next.new.self in
    let made = c.loop-caller.posters.items in
    record {
      made = subst (Made Ended (done ++ c.in-Some.caller ∷ [])) (sym c.push_reserved.ensures.items)
          (made_more Ended done made c.in-Some.caller c.finish.result c.finish.ensures i.made);
      all =
          append_assoc done (c.in-Some.caller ∷ []) rest ∙ ap (λ l. done ++ l) (sym c.in-Some.ensures.steps.0) ∙ i.all;
      room = let r = i.room in let k = c.push_reserved.ensures.capacity in omega (arith, r, k);
    }
