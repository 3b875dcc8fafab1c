use Rattle.std.proofs.Common.{arith, ◌≡◌, ◌+◌, ◌-◌, ◌<◌, ◌≤◌, ◌∙◌, ℕ, length, min, slice_index, take, ap}
use Rattle.std.proofs.lemmas.List.{length-set}
use Rattle.std.proofs.lemmas.Grind.{get_or_default_zero}
use Rattle.std.proofs.lemmas.List.Sums.{sum_by-set}
use Rattle.dv_orders.specs.Batching.{later_lengths}
use Rattle.dv_orders.proofs.CutLemmas.{later_none, way_found, way_passed, zeros_more}
use Rattle.dv_orders.proofs.batching.Cut.advance.Goals as goal
use Rattle.dv_orders.proofs.batching.Cut.advance.Goals.{else-self-gt0-via-then-self-gt0+else-length-drains}
use Rattle.dv_orders.proofs.batching.Cut.advance.Goals.{else-self-gt0-via-else-self-gt0}

pub returns-then-length-drains-clause-next : goal.returns-then-length-drains-clause-next
returns-then-length-drains-clause-next c =
    let place = c.loop-place.place in
    let at : place ≡ place - 1 + 1 = omega arith in
    let low : place - 1 < length c.args.drains.now = omega arith in
    c.loop-place.invariant.later
    ∙ way_found c.args.drains.now c.loop-place.self.lengths.items c.loop-place.self.left place
    (place - 1) c.index-length.result.now at low c.loop-place.invariant.len (c.index-length.ensures
    ∙ get_or_default_zero c.loop-place.self.lengths.items (place - 1) c.index-length.result.now (omega arith))
    c.if-length-drains.true c.if-self-gt0.true c.loop-place.invariant.zeros

pub loop-place-preserved : goal.loop-place-preserved
loop-place-preserved c =
    let place = c.loop-place.place in
    let lengths = c.loop-place.self.lengths.items in
    let k = c.index-length.result.now in
    let at : place ≡ place - 1 + 1 = omega arith in
    let low : place - 1 < length c.args.drains.now = omega arith in
    let low' : place - 1 < length lengths = omega arith in
    let is : k ≡ slice_index lengths (place - 1) =
    c.index-length.ensures ∙ get_or_default_zero lengths (place - 1) k low' in
    let none : min (slice_index c.args.drains.now (place - 1)) (c.loop-place.self.left + k) ≤ k =
    elim c.else-self-gt0.branch [
      | else-self-gt0-via-then-self-gt0+else-length-drains w ↦ omega arith
      | else-self-gt0-via-else-self-gt0 w ↦ omega arith
    ] in
    record {
      within = omega arith;
      len = length-set lengths (place - 1) 0 ∙ c.loop-place.invariant.len;
      same = omega (arith, sum_by-set (λ (n : ℕ). n) lengths (place - 1) 0 0 low', c.loop-place.invariant.same);
      zeros =
          zeros_more lengths (length c.args.drains.now) place
          (place - 1) at low' c.loop-place.invariant.within c.loop-place.invariant.zeros;
      later =
          c.loop-place.invariant.later ∙ way_passed c.args.drains.now lengths c.loop-place.self.left place
          (place - 1) k at low c.loop-place.invariant.len is none;
    }

pub returns-clause-next : goal.returns-clause-next
returns-clause-next c =
    let place = c.loop-place.place in
    let zero : place ≡ 0 = omega arith in
    c.loop-place.invariant.later
    ∙ ap (λ n. later_lengths c.args.drains.now c.loop-place.self.left (take n c.loop-place.self.lengths.items)) zero
    ∙ later_none c.args.drains.now c.loop-place.self.left
