use Rattle.std.proofs.Common.{arith, ◌≡◌, ◌+◌, ◌-◌, ◌∙◌, ◌++◌, ◌∷◌, [], suc, Option, Some, None, List, drop, length}
use Rattle.std.proofs.Common.{min, option_map, slice_get, take, ap, sym, subst, length-drop}
use Rattle.std.proofs.lemmas.List.{drop_more}
use Rattle.std.proofs.lemmas.Grind.{common_steps}
use Rattle.dv_script.specs.declared.event.Event.{Event}
use Rattle.dv_script.specs.declared.event.Event.TheVariants as event
use Rattle.dv_posts.specs.Batches.{Batch}
use Rattle.dv_orders.specs.Numbers.{number_of_cuts}
use Rattle.dv_orders.specs.Orders.{cuts}
use Rattle.dv_orders.specs.Ranking.{FallsIn}
use Rattle.dv_orders.specs.declared.ranking.Place.{Place}
use Rattle.dv_orders.proofs.RankingLemmas.{added, drain_none, drain_some}
use Rattle.dv_orders.proofs.ranking.cut_of.Goals as goal
use Rattle.dv_orders.proofs.ranking.cut_of.Goals.{in-Drain+in_ok-taken-in-Drain+in-Some+in_ok-batch_of-in-Some+in_ok-push-in-Some}
use Rattle.dv_orders.proofs.ranking.cut_of.Goals.{in-Action-1, in-Advance-1, in-Expect-1}

pub returns-in-None : goal.returns-in-None
returns-in-None c =
    let events = c.args.events.now in
    let place = c.loop-place.place in
    let rest = c.loop-place.rest.now in
    let number = c.loop-place.number in
    let batches = c.loop-place.batches in
    let most = c.in-Drain.most in
    let later = drop (place + 1) events in
    let at : drop place events ≡ event.Drain most ∷ later =
    drop_more events place c.index-events-place.result c.loop-place-test.true
    ∙ ap (λ (e : Event). e ∷ later) (sym c.index-events-place.is ∙ c.in-Drain.is) in
    let told : FallsIn None (λ taken. number_of_cuts c.split_at.result.1.now (length rest - taken))
    (suc (min most (length rest))) number =
    subst (λ (p : Option Place). FallsIn p (λ taken. number_of_cuts c.split_at.result.1.now (length rest - taken))
    (suc (min most (length rest))) number) c.in-None.is c.in_ok-taken-in-Drain.ensures in
    let falls :
    FallsIn None (λ taken. number_of_cuts later (length rest - taken)) (suc (min most (length rest))) number =
    subst (λ (l : List Event). FallsIn None (λ taken. number_of_cuts l (length rest - taken))
    (suc (min most (length rest))) number) c.split_at.ensures.back told in
    sym (c.loop-place.invariant.same
    ∙ ap (λ (l : List Event). option_map (λ (cut : List Batch). batches ++ cut) (slice_get (cuts l rest) number)) at
    ∙ ap (option_map (λ (cut : List Batch). batches ++ cut)) (drain_none later most rest number falls))

pub loop-place-preserved : goal.loop-place-preserved
loop-place-preserved c =
    let events = c.args.events.now in
    let place = c.loop-place.place in
    let rest = c.loop-place.rest.now in
    let number = c.loop-place.number in
    let batches = c.loop-place.batches in
    let later = drop (place + 1) events in
    let next : drop place events ≡ c.index-events-place.result ∷ later =
    drop_more events place c.index-events-place.result c.loop-place-test.true
    ∙ ap (λ (e : Event). e ∷ later) (sym c.index-events-place.is) in
    let passes : cuts (c.index-events-place.result ∷ later) rest ≡ cuts later rest
    → slice_get (cuts events c.args.sequence.now) c.args.number
    ≡ option_map (λ (cut : List Batch). batches ++ cut) (slice_get (cuts later rest) number) =
    λ passed.
    c.loop-place.invariant.same
    ∙ ap (λ (l : List Event). option_map (λ (cut : List Batch). batches ++ cut) (slice_get (cuts l rest) number)) next
    ∙ ap (λ (l : List (List Batch)). option_map (λ (cut : List Batch). batches ++ cut) (slice_get l number)) passed in
    elim c.match-events-place.branch [
      | in-Drain+in_ok-taken-in-Drain+in-Some+in_ok-batch_of-in-Some+in_ok-push-in-Some w ↦
          let most = w.in-Drain.most in
          let taken = w.in-Some.taken in
          let at : drop place events ≡ event.Drain most ∷ later = next ∙ ap (λ (e : Event). e ∷ later) w.in-Drain.is in
          let told : FallsIn (Some taken) (λ taken. number_of_cuts w.split_at.result.1.now (length rest - taken))
          (suc (min most (length rest))) number =
          subst (λ (p : Option Place). FallsIn p (λ taken. number_of_cuts w.split_at.result.1.now (length rest - taken))
          (suc (min most (length rest))) number) w.in-Some.is w.in_ok-taken-in-Drain.ensures in
          let falls : FallsIn (Some taken) (λ taken. number_of_cuts later (length rest - taken))
          (suc (min most (length rest))) number =
          subst (λ (l : List Event). FallsIn (Some taken) (λ taken. number_of_cuts l (length rest - taken))
          (suc (min most (length rest))) number) w.split_at.ensures.back told in
          let first = take taken.piece rest in
          let left = drop taken.piece rest in
          let done : slice_get (cuts events c.args.sequence.now) c.args.number ≡ option_map
          (λ (cut : List Batch). (batches ++ first ∷ []) ++ cut) (slice_get (cuts later left) taken.number) =
          c.loop-place.invariant.same
          ∙ ap
          (λ (l : List Event). option_map (λ (cut : List Batch). batches ++ cut) (slice_get (cuts l rest) number)) at
          ∙ ap (option_map (λ (cut : List Batch). batches ++ cut)) (drain_some later most rest number taken falls)
          ∙ added batches first (slice_get (cuts later left) taken.number) in
          let new_batches : c.match-events-place.batches ≡ batches ++ first ∷ [] =
          w.batches-is ∙ w.in_ok-push-in-Some.ensures.ok ∙ ap (λ (b : Batch). batches ++ b ∷ [])
          (w.in_ok-batch_of-in-Some.ensures ∙ w.split_at-in-Some.ensures.front) in
          let new_rest : c.match-events-place.rest.now ≡ left = rw w.rest-is w.split_at-in-Some.ensures.back in
          let same : slice_get (cuts events c.args.sequence.now) c.args.number
          ≡ option_map (λ (cut : List Batch). c.match-events-place.batches ++ cut)
          (slice_get (cuts later c.match-events-place.rest.now) c.match-events-place.number) =
          rw (new_batches, new_rest, w.number-is) done in
          let fewer = length-drop taken.piece rest in
          record {
            fits = rw new_rest (omega (arith, fewer, c.loop-place.invariant.fits));
            small = rw w.number-is (omega (arith, falls.2, c.loop-place.invariant.small));
            same = same;
          }
      | in-Action-1 w ↦
          let passed : cuts (c.index-events-place.result ∷ later) rest ≡ cuts later rest =
          grind (arith, common_steps) in
          let done = passes passed in
          let same : slice_get (cuts events c.args.sequence.now) c.args.number
          ≡ option_map (λ (cut : List Batch). c.match-events-place.batches ++ cut)
          (slice_get (cuts later c.match-events-place.rest.now) c.match-events-place.number) =
          rw (w.batches-is, w.rest-is, w.number-is) done in
          record {
            fits = rw w.rest-is c.loop-place.invariant.fits;
            small = rw w.number-is c.loop-place.invariant.small;
            same = same;
          }
      | in-Advance-1 w ↦
          let passed : cuts (c.index-events-place.result ∷ later) rest ≡ cuts later rest =
          grind (arith, common_steps) in
          let done = passes passed in
          let same : slice_get (cuts events c.args.sequence.now) c.args.number
          ≡ option_map (λ (cut : List Batch). c.match-events-place.batches ++ cut)
          (slice_get (cuts later c.match-events-place.rest.now) c.match-events-place.number) =
          rw (w.batches-is, w.rest-is, w.number-is) done in
          record {
            fits = rw w.rest-is c.loop-place.invariant.fits;
            small = rw w.number-is c.loop-place.invariant.small;
            same = same;
          }
      | in-Expect-1 w ↦
          let passed : cuts (c.index-events-place.result ∷ later) rest ≡ cuts later rest =
          grind (arith, common_steps) in
          let done = passes passed in
          let same : slice_get (cuts events c.args.sequence.now) c.args.number
          ≡ option_map (λ (cut : List Batch). c.match-events-place.batches ++ cut)
          (slice_get (cuts later c.match-events-place.rest.now) c.match-events-place.number) =
          rw (w.batches-is, w.rest-is, w.number-is) done in
          record {
            fits = rw w.rest-is c.loop-place.invariant.fits;
            small = rw w.number-is c.loop-place.invariant.small;
            same = same;
          }
    ]
