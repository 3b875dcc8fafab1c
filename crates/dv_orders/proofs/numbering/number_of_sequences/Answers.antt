use Rattle.std.proofs.Common.{arith, ◌≡◌, ◌+◌, ◌-◌, ◌<◌, drop, length, slice_index, refl}
use Rattle.dv_orders.specs.Numbers.{number_of_sequences}
use Rattle.dv_orders.proofs.NumberLemmas.{at_cap, sequences_grow, sequences_more}
use Rattle.dv_orders.proofs.numbering.number_of_sequences.Goals as goal

pub loop-place-preserved : goal.loop-place-preserved
loop-place-preserved c =
    let counts = c.args.counts.now in
    let place = c.loop-place.place in
    let own = slice_index counts (place - 1) in
    let invariant = c.loop-place.invariant in
    let at : place ≡ place - 1 + 1 = omega arith in
    let low : place - 1 < length counts = omega arith in
    let more = sequences_more counts place (place - 1) own c.loop-place.number c.loop-place.others c.in_ok-ways.field-0
    c.capped_product-number.result c.args.cap at low refl c.requires
    invariant.others invariant.number c.in_ok-ways.ensures c.capped_product-number.ensures in
    record {
      within = omega arith;
      number = more.0;
      others = more.1;
      fits = omega (arith, invariant.fits, c.if-own-others.false);
    }

pub returns-else-number-cap : goal.returns-else-number-cap
returns-else-number-cap c =
    let counts = c.args.counts.now in
    let place = c.loop-place.place in
    at_cap c.loop-place.number (number_of_sequences (drop place counts)) (number_of_sequences counts) c.args.cap
    c.loop-place.invariant.number c.if-number-cap.false (sequences_grow counts place)
