-- A run makes no more than it has logged.
use Rattle.std.proofs.Common.{◌≡◌, ℕ, ◌+◌, ◌-◌, ◌≤◌, ◌<◌, ◌^◌, true, false, [], ◌∷◌, length, slice_set, arith}
use Rattle.std.proofs.Common.{length-append}
use Rattle.std.proofs.lemmas.Bool.{leb-true}
use Rattle.std.proofs.lemmas.List.{length-set}
use Rattle.std.proofs.lemmas.List.Sums.{sum_by-append}
use Rattle.dv_value.specs.declared.value.Value.{Null}
use Rattle.dv_journal.specs.Entry.{weight_of}
use Rattle.dv_journal.specs.Journal.{total_weight, fits}
use Rattle.dv_journal.specs.declared.entry.Entry.{Entry}
use Rattle.dv_journal.specs.declared.entry.Entry.TheVariants as entry
use Rattle.dv_journal.proofs.WeightLemmas.{total_weight_push}
use Rattle.dv_store.specs.Callbacks.{with_handed, with_result}
use Rattle.dv_store.specs.Chaining.{with_wait, without_value}
use Rattle.dv_store.specs.Fire as firing
use Rattle.dv_store.specs.Pausing.{with_pauses}
use Rattle.dv_store.specs.Record.{with_item, new_record, changing}
use Rattle.dv_store.specs.declared.record.Item.TheVariants as item
use Rattle.dv_frames.specs.Bounds.{all_pauses, Bounded}
use Rattle.dv_loop.proofs.Kept.{Both, Kind, telling_of, Kept, every_step}
use Rattle.dv_loop.proofs.Lasting.{Lasting}
use Rattle.dv_loop.proofs.Tally.{tally_set, tally_changing, length_changing}
use Rattle.dv_loop.proofs.Weights.{weighs_one}
use Rattle.dv_world.specs.World.{World, Records, state_of}
use Rattle.dv_objects.specs.Refusals.{cancelled}

-- each Deferred and each pause was logged
record Fine (s : Both) : Type 0 where
  told : length s.0 + all_pauses s.0 ≤ total_weight s.1.entries
  within : total_weight s.1.entries ≤ s.1.limit
  limited : s.1.limit < 2 ^ 32 - 1

record StaysFine (s t : Both) : Type 0 where
  goes_on : Fine s → Fine t

abbrev made : Records → ℕ
made rs = length rs + all_pauses rs

abbrev pauses_in : Kind → ℕ
pauses_in r = r.pauses

told_fine : (e : Entry) (rs : Records) (s : Both) → fits s.1 e ≡ true → 1 ≤ weight_of e → made rs ≤ made s.0 + 1
    → StaysFine s (telling_of e rs s)
told_fine e rs s h p q = record {
  goes_on = λ b. record {
    told = omega (arith, total_weight_push s.1.entries e, p, q, b.told);
    within =
        omega (arith, total_weight_push s.1.entries e, leb-true (total_weight s.1.entries + weight_of e) s.1.limit h);
    limited = b.limited;
  };
}

fine : Kept StaysFine
fine = record {
  stays = λ s. record { goes_on = λ b. b };
  joins = λ s t u p q. record { goes_on = λ b. q.goes_on (p.goes_on b) };
  drops = λ d r pair rest s g e. record {
    goes_on = λ b. record {
      told = omega (
        arith,
        b.told,
        length-set s.0 d (record r { items = rest }),
        tally_set pauses_in s.0 d r (record r { items = rest }) g,
      );
      within = b.within;
      limited = b.limited;
    };
  };
  news = λ name canceller s h.
      let more : Records = new_record name canceller ∷ [] in
      told_fine (entry.New (length s.0) name) _ s h (omega arith)
      (omega (arith, length-append s.0 more, sum_by-append pauses_in s.0 more));
  asides = λ e s a h. told_fine e s.0 s h (weighs_one e) (omega arith);
  refuses = λ d r s h g f. told_fine (entry.Refuse d) s.0 s h (omega arith) (omega arith);
  swallows =
      λ d r s h g f. let changed = firing.with_swallows false r in told_fine (entry.Swallow d) _ s h (omega arith)
      (omega (arith, length-set s.0 d changed, tally_set pauses_in s.0 d r changed g));
  cancels = λ d s h. told_fine (entry.Cancel d) s.0 s h (omega arith) (omega arith);
  sets_swallows = λ d r s h g f.
      let fired = firing.with_firing cancelled r in
      told_fine (entry.Fire d cancelled) _ s h (omega arith)
      (omega (
        arith,
        length_changing (slice_set s.0 d fired) d (firing.with_swallows true),
        length-set s.0 d fired,
        tally_changing pauses_in 0 (slice_set s.0 d fired) d (firing.with_swallows true) (λ x. omega arith),
        tally_set pauses_in s.0 d r fired g,
      ));
  fires =
      λ d value r s h g f. let changed = firing.with_firing value r in told_fine (entry.Fire d value) _ s h
      (omega arith) (omega (arith, length-set s.0 d changed, tally_set pauses_in s.0 d r changed g));
  adds =
      λ d pair r s h g. let changed = with_item (item.Pair pair) r in told_fine (entry.Add d) _ s h (omega arith)
      (omega (arith, length-set s.0 d changed, tally_set pauses_in s.0 d r changed g));
  runs =
      λ d pair r rest s h g e. let changed : Kind = record r { items = rest; running = true } in told_fine (entry.Run d)
      _ s h (omega arith) (omega (arith, length-set s.0 d changed, tally_set pauses_in s.0 d r changed g));
  hands = λ d c r rest s h g e.
      let left : Kind = record r { items = rest; value = Null } in
      told_fine (entry.Hand d c r.value) _ s h (omega arith)
      (omega (
        arith,
        length_changing (slice_set s.0 d left) c (with_handed r.value),
        length-set s.0 d left,
        tally_changing pauses_in 0 (slice_set s.0 d left) c (with_handed r.value) (λ x. omega arith),
        tally_set pauses_in s.0 d r left g,
      ));
  sets =
      λ d value r s h g. let changed = with_result value r in told_fine (entry.Set d value) _ s h (omega arith)
      (omega (arith, length-set s.0 d changed, tally_set pauses_in s.0 d r changed g));
  waits = λ d e r given s h g k.
      let first = changing e (with_item (item.HandOver d)) s.0 in
      told_fine (entry.Wait d e) _ s h (omega arith)
      (omega (
        arith,
        length_changing first d (with_wait e),
        length_changing s.0 e (with_item (item.HandOver d)),
        tally_changing pauses_in 0 first d (with_wait e) (λ x. omega arith),
        tally_changing pauses_in 0 s.0 e (with_item (item.HandOver d)) (λ x. omega arith),
      ));
  takes = λ d e r given s h g k p.
      let first = changing e without_value s.0 in
      told_fine (entry.Take d e given.value) _ s h (omega arith)
      (omega (
        arith,
        length_changing first d (with_result given.value),
        length_changing s.0 e without_value,
        tally_changing pauses_in 0 first d (with_result given.value) (λ x. omega arith),
        tally_changing pauses_in 0 s.0 e without_value (λ x. omega arith),
      ));
  pauses =
      λ d r s h g. let changed = with_pauses (r.pauses + 1) r in told_fine (entry.Pause d) _ s h (omega arith)
      (omega (arith, length-set s.0 d changed, tally_set pauses_in s.0 d r changed g));
  unpauses =
      λ d r s h g p. let changed = with_pauses (r.pauses - 1) r in told_fine (entry.Unpause d) _ s h (omega arith)
      (omega (arith, length-set s.0 d changed, tally_set pauses_in s.0 d r changed g));
}

pub record StaysBounded (w u : World) : Type 0 where
  pub goes_on : Bounded w → Bounded u

bounded : (w u : World) → StaysFine (state_of w) (state_of u) → StaysBounded w u
bounded w u h = record {
  goes_on =
      λ b. let f = h.goes_on (record { told = b.told; within = b.within; limited = b.limited }) in
      record { told = f.told; within = f.within; limited = f.limited };
}

pub stays_bounded : Lasting StaysBounded
stays_bounded = let l = every_step StaysFine fine in record {
  stays = λ w. record { goes_on = λ b. b };
  joins = λ u v w p q. record { goes_on = λ b. q.goes_on (p.goes_on b) };
  by_stop = λ w. bounded w _ (l.by_stop w);
  by_step = λ d w. bounded w _ (l.by_step d w);
  by_put = λ d value w. bounded w _ (l.by_put d value w);
  by_put_deferred = λ d e w. bounded w _ (l.by_put_deferred d e w);
  by_append = λ d pair w. bounded w _ (l.by_append d pair w);
  by_make = λ name canceller w. bounded w _ (l.by_make name canceller w);
  by_fire = λ d value w. bounded w _ (l.by_fire d value w);
  by_fire_then_swallow = λ d w. bounded w _ (l.by_fire_then_swallow d w);
  by_cancel = λ d w. bounded w _ (l.by_cancel d w);
  by_pause = λ d w. bounded w _ (l.by_pause d w);
  by_unpause = λ d w. bounded w _ (l.by_unpause d w);
  by_aside = λ e change w a. bounded w _ (l.by_aside e change w a);
  by_arrange = λ change w. bounded w _ (l.by_arrange change w);
  by_submit = λ d pool work w. bounded w _ (l.by_submit d pool work w);
}
