use Rattle.std.proofs.Common.{arith, ℕ, ◌≡◌, ◌<◌, ◌++◌, ◌∷◌, [], ◌∙◌, List, length, sym, ap, subst, append_assoc}
use Rattle.std.proofs.Common.{length-append, slice_index_or}
use Rattle.std.proofs.lemmas.List.{get_or_default}
use Rattle.std.specs.Vec.Iter.{into_iter_items}
use Rattle.dv_script.specs.declared.body.Body.{Body}
use Rattle.dv_posts.specs.Batches.{Callers, bodies_of}
use Rattle.dv_posts.specs.Callers.{Serves}
use Rattle.dv_posts.proofs.CallerLemmas.{Made, Started, made_more}
use Rattle.dv_posts.proofs.callers.start_all.Goals as goal

bodies_at : (bodies : Callers) (c n : ℕ) (own slice : List Body) → c < length bodies → n ≡ c
    → own ≡ slice_index_or bodies n own → slice ≡ own → slice ≡ bodies_of bodies c
bodies_at bodies c n own slice low at is same =
    same ∙ is ∙ ap (λ k. slice_index_or bodies k own) at ∙ get_or_default bodies c own [] low

pub loop-poster-preserved : goal.loop-poster-preserved
loop-poster-preserved g c =
    let i = c.loop-poster.invariant in
    let done = c.loop-poster.yielded in
    let rest = into_iter_items c.next.new.self in
    let made = c.loop-poster.callers.items in
    let x = c.in-Some.poster in
    let all : done ++ (x ∷ rest) ≡ c.args.posters.items = ap (λ l. done ++ l) (sym c.in-Some.ensures.steps.0) ∙ i.all in
    let low : length made < length c.args.bodies.now =
    (let n = i.made.len in let m = ap length all in let k = c.requires.len in
    omega (arith, n, m, k, length-append done (x ∷ rest))) in
    let count : c.len-in-loop-poster.result ≡ length made =
    (let l = c.len-in-loop-poster.ensures in let o = c.loop-poster.callers.ok in omega (arith, l, o)) in
    let own : c.as_slice.result.now ≡ bodies_of c.args.bodies.now (length made) =
    bodies_at c.args.bodies.now (length made) c.len-in-loop-poster.result c.index-bodies-len.result
    c.as_slice.result.now low count c.index-bodies-len.is c.as_slice.ensures in
    let serves : Started c.args.bodies.now (length made) x c.start.result =
    subst (λ (bodies : List Body). Serves x.ring x.caller (length bodies) c.start.result) own c.start.ensures in
    record {
      made =
          subst (Made (Started c.args.bodies.now) (done ++ c.in-Some.poster ∷ [])) (sym c.push_reserved.ensures.items)
          (made_more (Started c.args.bodies.now) done made c.in-Some.poster c.start.result serves i.made);
      all =
          append_assoc done (c.in-Some.poster ∷ []) rest ∙ ap (λ l. done ++ l) (sym c.in-Some.ensures.steps.0) ∙ i.all;
      room = let r = i.room in let k = c.push_reserved.ensures.capacity in omega (arith, r, k);
    }
