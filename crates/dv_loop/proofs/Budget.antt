-- What a run can still do: no step adds to it, and a move that uses an item takes from it.
use Rattle.std.proofs.Common.{◌≡◌, ℕ, ◌+◌, ◌-◌, ◌*◌, ◌≤◌, Bool, true, false, cond, [], ◌∷◌, Result, Ok, Err, length}
use Rattle.std.proofs.Common.{slice_set, refl, ap, ◌∙◌, arith, length-append}
use Rattle.std.proofs.lemmas.Bool.{leb-true}
use Rattle.std.proofs.lemmas.List.Sums.{sum_by-append}
use Rattle.dv_value.specs.declared.value.Value.{Null}
use Rattle.dv_journal.specs.Entry.{weight_of}
use Rattle.dv_journal.specs.Journal.{total_weight, fits, with_entry}
use Rattle.dv_journal.specs.declared.entry.Entry.{Entry}
use Rattle.dv_journal.specs.declared.entry.Entry.TheVariants as entry
use Rattle.dv_journal.specs.declared.error.Stop.{Stop}
use Rattle.dv_journal.proofs.WeightLemmas.{total_weight_push}
use Rattle.dv_store.proofs.CallbacksLemmas.{step-uses_one}
use Rattle.dv_store.specs.Callbacks as callbacks
use Rattle.dv_store.specs.Callbacks.{with_handed, with_result}
use Rattle.dv_store.specs.Chaining.{with_wait, without_value}
use Rattle.dv_store.specs.Fire as firing
use Rattle.dv_store.specs.Laws.{unused_items, used, items_used}
use Rattle.dv_store.specs.Pausing.{with_pauses}
use Rattle.dv_store.specs.Record.{with_item, new_record, changing}
use Rattle.dv_store.specs.declared.record.Item.TheVariants as item
use Rattle.dv_store.specs.declared.store.Step.{Step}
use Rattle.dv_store.specs.declared.store.Step.TheVariants.{Nothing}
use Rattle.dv_loop.proofs.Kept.{Both, Kind, telling_of, Kept, every_step}
use Rattle.dv_loop.proofs.Lasting.{Lasting}
use Rattle.dv_loop.proofs.Tally.{tally_set, tally_changing}
use Rattle.dv_loop.proofs.Weights.{weighs_one}
use Rattle.dv_objects.specs.Pair.{passes}
use Rattle.dv_objects.specs.Objects.{Objects}
use Rattle.dv_world.specs.World.{World, Records, aside, state_of, moved, step, cancel, reached_from}
use Rattle.dv_objects.specs.Refusals.{cancelled}
use Rattle.dv_objects.specs.Pair.{Pair}
use Rattle.dv_objects.specs.declared.reached.Reached.{Reached}
use Rattle.dv_objects.specs.declared.reached.Reached.TheVariants as reached

-- the items of a Deferred that aren't used yet
abbrev items_of : Kind → ℕ
items_of r = length r.items

-- the entries that may still be written, twice, and the items that may still be used
unfoldable pub budget : Both → ℕ
budget s = 2 * (s.1.limit - total_weight s.1.entries) + unused_items s.0

pub record Spares (s t : Both) : Type 0 where
  pub pays : budget t ≤ budget s

-- an entry pays for an item
told_pays : (e : Entry) (rs : Records) (s : Both) → fits s.1 e ≡ true → 1 ≤ weight_of e
    → unused_items rs ≤ unused_items s.0 + 1 → Spares s (telling_of e rs s)
unfolding budget
told_pays e rs s h p q = record {
  pays = omega
      (arith, total_weight_push s.1.entries e, leb-true (total_weight s.1.entries + weight_of e) s.1.limit h, p, q);
}

kept : Kept Spares
unfolding budget
kept = record {
  stays = λ s. record { pays = omega arith };
  joins = λ s t u p q. record { pays = omega (arith, p.pays, q.pays) };
  drops = λ d r pair rest s g e. record {
    pays = omega (arith, tally_set items_of s.0 d r (record r { items = rest }) g, ap length e);
  };
  news =
      λ name canceller s h. told_pays (entry.New (length s.0) name) _ s h (omega arith)
      (omega (arith, sum_by-append items_of s.0 (new_record name canceller ∷ [])));
  asides = λ e s a h. told_pays e s.0 s h (weighs_one e) (omega arith);
  refuses = λ d r s h g f. told_pays (entry.Refuse d) s.0 s h (omega arith) (omega arith);
  swallows =
      λ d r s h g f. told_pays (entry.Swallow d) _ s h (omega arith)
      (omega (arith, tally_set items_of s.0 d r (firing.with_swallows false r) g));
  cancels = λ d s h. told_pays (entry.Cancel d) s.0 s h (omega arith) (omega arith);
  sets_swallows = λ d r s h g f.
      let fired = firing.with_firing cancelled r in
      told_pays (entry.Fire d cancelled) _ s h (omega arith)
      (omega (
        arith,
        tally_changing items_of 0 (slice_set s.0 d fired) d (firing.with_swallows true) (λ x. omega arith),
        tally_set items_of s.0 d r fired g,
      ));
  fires =
      λ d value r s h g f. told_pays (entry.Fire d value) _ s h (omega arith)
      (omega (arith, tally_set items_of s.0 d r (firing.with_firing value r) g));
  adds = λ d pair r s h g. told_pays (entry.Add d) _ s h (omega arith) (omega (
    arith,
    tally_set items_of s.0 d r (with_item (item.Pair pair) r) g,
    length-append r.items (item.Pair pair ∷ []),
  ));
  runs =
      λ d pair r rest s h g e. told_pays (entry.Run d) _ s h (omega arith)
      (omega (arith, tally_set items_of s.0 d r (record r { items = rest; running = true }) g, ap length e));
  hands = λ d c r rest s h g e.
      let left : Kind = record r { items = rest; value = Null } in
      told_pays (entry.Hand d c r.value) _ s h (omega arith)
      (omega (
        arith,
        tally_changing items_of 0 (slice_set s.0 d left) c (with_handed r.value) (λ x. omega arith),
        tally_set items_of s.0 d r left g,
        ap length e,
      ));
  sets =
      λ d value r s h g. told_pays (entry.Set d value) _ s h (omega arith)
      (omega (arith, tally_set items_of s.0 d r (with_result value r) g));
  waits = λ d e r given s h g k.
      told_pays (entry.Wait d e) _ s h (omega arith)
      (omega (
        arith,
        tally_changing items_of 0 (changing e (with_item (item.HandOver d)) s.0) d (with_wait e) (λ x. omega arith),
        tally_changing items_of 1 s.0 e (with_item (item.HandOver d))
            (λ x. omega (arith, length-append x.items (item.HandOver d ∷ []))),
      ));
  takes = λ d e r given s h g k p.
      told_pays (entry.Take d e given.value) _ s h (omega arith)
      (omega (
        arith,
        tally_changing items_of 0 (changing e without_value s.0) d (with_result given.value) (λ x. omega arith),
        tally_changing items_of 0 s.0 e without_value (λ x. omega arith),
      ));
  pauses =
      λ d r s h g. told_pays (entry.Pause d) _ s h (omega arith)
      (omega (arith, tally_set items_of s.0 d r (with_pauses (r.pauses + 1) r) g));
  unpauses =
      λ d r s h g p. told_pays (entry.Unpause d) _ s h (omega arith)
      (omega (arith, tally_set items_of s.0 d r (with_pauses (r.pauses - 1) r) g));
}

pub spares : Lasting (λ w u. Spares (state_of w) (state_of u))
spares = every_step Spares kept

-- what is logged is not taken back, and the limit stays
record Grows (s t : Both) : Type 0 where
  heavier : total_weight s.1.entries ≤ total_weight t.1.entries
  same : t.1.limit ≡ s.1.limit

told_grows : (e : Entry) (rs : Records) (s : Both) → Grows s (telling_of e rs s)
told_grows e rs s = record { heavier = omega (arith, total_weight_push s.1.entries e); same = refl }

growing : Kept Grows
growing = record {
  stays = λ s. record { heavier = omega arith; same = refl };
  joins = λ s t u p q. record { heavier = omega (arith, p.heavier, q.heavier); same = q.same ∙ p.same };
  drops = λ d r pair rest s g e. record { heavier = omega arith; same = refl };
  news = λ name canceller s h. told_grows _ _ s;
  asides = λ e s a h. told_grows _ _ s;
  refuses = λ d r s h g f. told_grows _ _ s;
  swallows = λ d r s h g f. told_grows _ _ s;
  cancels = λ d s h. told_grows _ _ s;
  sets_swallows = λ d r s h g f. told_grows _ _ s;
  fires = λ d value r s h g f. told_grows _ _ s;
  adds = λ d pair r s h g. told_grows _ _ s;
  runs = λ d pair r rest s h g e. told_grows _ _ s;
  hands = λ d c r rest s h g e. told_grows _ _ s;
  sets = λ d value r s h g. told_grows _ _ s;
  waits = λ d e r given s h g k. told_grows _ _ s;
  takes = λ d e r given s h g k p. told_grows _ _ s;
  pauses = λ d r s h g. told_grows _ _ s;
  unpauses = λ d r s h g p. told_grows _ _ s;
}

moved_took : (told : Result (Step Pair) Stop) (s : Both) (w : World)
    → unused_items s.0 + items_used told ≡ unused_items w.records →
    unused_items (moved told s w).1.records + used (moved told s w).0 ≡ unused_items w.records
moved_took (Ok move) s w h = h
moved_took (Err stop) s w h = h

step_uses : (d : ℕ) (w : World) → unused_items (step d w).1.records + used (step d w).0 ≡ unused_items w.records
unfolding step
step_uses d w =
    let told = callbacks.step passes d (state_of w) in
    elim w.stopped as (λ b. unused_items (cond {A = Step Pair × World} b (Nothing, w) (moved told.0 told.1 w)).1.records
    + used (cond {A = Step Pair × World} b (Nothing, w) (moved told.0 told.1 w)).0 ≡ unused_items w.records)
    [ true ↦ omega arith | false ↦ moved_took told.0 told.1 w (step-uses_one passes d (state_of w)) ]

-- a move takes what it uses
pub step_took : (d : ℕ) (w : World) → budget (state_of (step d w).1) + used (step d w).0 ≤ budget (state_of w)
unfolding budget
step_took d w =
    let grown = (every_step Grows growing).by_step d w in
    omega (arith, step_uses d w, grown.heavier, grown.same)

-- whom a cancel reaches was logged
abbrev pub reaches : Reached → ℕ
reaches reached.Nothing = 0
reaches (reached.Fire d) = 1
reaches (reached.Run d canceller) = 1
reaches (reached.ForToken d l) = 1
reaches (reached.ForItem d k) = 1
reaches (reached.Children children) = 1
reaches (reached.Inline i) = 1

reaches_one : (o : Reached) → reaches o ≤ 1
reaches_one reached.Nothing = omega arith
reaches_one (reached.Fire d) = omega arith
reaches_one (reached.Run d canceller) = omega arith
reaches_one (reached.ForToken d l) = omega arith
reaches_one (reached.ForItem d k) = omega arith
reaches_one (reached.Children children) = omega arith
reaches_one (reached.Inline i) = omega arith

told_took : (d : ℕ) (w : World) (b : Bool) → fits w.journal (entry.Cancel d) ≡ b
    → (let t = cond {A = Reached × World} b (
      reached_from d w.records,
      record w { journal = with_entry w.journal (entry.Cancel d) },
    ) (reached.Nothing, record w { stopped = true }) in
    budget (state_of t.1) + reaches t.0 ≤ budget (state_of w))
unfolding budget
told_took d w true x =
    omega (
      arith,
      total_weight_push w.journal.entries (entry.Cancel d),
      leb-true (total_weight w.journal.entries + weight_of (entry.Cancel d)) w.journal.limit x,
      reaches_one (reached_from d w.records),
    )
told_took d w false x = omega arith

-- a cancel takes the entry that logs it
pub cancel_took : (d : ℕ) (w : World) → budget (state_of (cancel d w).1) + reaches (cancel d w).0 ≤ budget (state_of w)
unfolding cancel
cancel_took d w =
    let told : Reached × World = cond (fits w.journal (entry.Cancel d)) (
      reached_from d w.records,
      record w { journal = with_entry w.journal (entry.Cancel d) },
    ) (reached.Nothing, record w { stopped = true }) in
    elim w.stopped as (λ b. let t = cond {A = Reached × World} b (reached.Nothing, w) told in
    budget (state_of t.1) + reaches t.0 ≤ budget (state_of w))
    [ true ↦ omega arith | false ↦ told_took d w _ refl ]

-- an entry aside pays for more to be begun, unless the run stops
paid_where_told : (e : Entry) (change : Objects → Objects) (w : World) (b : Bool) → fits w.journal e ≡ b
    → (let t =
    cond b (record w { objects = change w.objects; journal = with_entry w.journal e }) (record w { stopped = true }) in
    t.stopped ≡ false → budget (state_of t) + 1 ≤ budget (state_of w))
unfolding budget
paid_where_told e change w true x h = omega (
  arith,
  total_weight_push w.journal.entries e,
  leb-true (total_weight w.journal.entries + weight_of e) w.journal.limit x,
  weighs_one e,
)
paid_where_told e change w false x h = absurd cc

paid_where_going : (e : Entry) (change : Objects → Objects) (w : World) (b : Bool) → w.stopped ≡ b
    → (let t = cond b w (cond (fits w.journal e)
    (record w { objects = change w.objects; journal = with_entry w.journal e }) (record w { stopped = true })) in
    t.stopped ≡ false → budget (state_of t) + 1 ≤ budget (state_of w))
paid_where_going e change w true x h = absurd cc
paid_where_going e change w false x h = paid_where_told e change w _ refl h

pub aside_took : (e : Entry) (change : Objects → Objects) (w : World) → (aside e change w).stopped ≡ false
    → budget (state_of (aside e change w)) + 1 ≤ budget (state_of w)
unfolding aside
aside_took e change w h = paid_where_going e change w _ refl h
