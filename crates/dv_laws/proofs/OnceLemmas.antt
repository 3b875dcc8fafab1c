-- A Deferred is fired as often as its record says: once or never.
use Rattle.std.proofs.Common.{◌≡◌, ◌⊎◌, inl, inr, ⊎_elim, append_assoc, ℕ, ◌+◌, ◌-◌, ◌≤◌, ◌++◌, Bool, true, false}
use Rattle.std.proofs.Common.{nat_eq, List, [], ◌∷◌, Option, None, Some, refl, sym, ap, subst, ◌∙◌, arith, slice_get}
use Rattle.std.proofs.Common.{slice_set, cond, length}
use Rattle.std.proofs.lemmas.Bool.{eqb-true}
use Rattle.std.proofs.lemmas.List.Sums.{sum_by_push}
use Rattle.dv_value.specs.declared.value.Value.{Null}
use Rattle.dv_journal.specs.Told.{change_of, Aside, Refuses, Swallows}
use Rattle.dv_journal.specs.declared.entry.Entry.{Entry}
use Rattle.dv_journal.specs.declared.entry.Entry.TheVariants as entry
use Rattle.dv_journal.specs.Journal.{Written}
use Rattle.dv_script.specs.declared.script.Script.{Script}
use Rattle.dv_store.specs.Callbacks.{with_handed, with_result}
use Rattle.dv_store.specs.Chaining as chaining
use Rattle.dv_store.specs.Cancelling.{swallow_next}
use Rattle.dv_store.specs.Fire.{with_firing, with_swallows}
use Rattle.dv_store.specs.Pausing.{with_pauses}
use Rattle.dv_store.specs.Record.{with_item, new_record, changing}
use Rattle.dv_store.specs.declared.record.Item.TheVariants as item
use Rattle.dv_laws.specs.Once.{firing, firings, swallowing, swallowings, ComesFired, Stands, SwallowsTheCancelled}
use Rattle.dv_laws.specs.Once.{FiredOnce, EachDeferredIsFiredOnce}
use Rattle.dv_posts.specs.Batches.{Batch}
use Rattle.dv_loop.specs.Meaning.{Means}
use Rattle.dv_loop.proofs.Kept.{Both, Kind, Kept, telling_of, every_step}
use Rattle.dv_laws.proofs.At.{counted_of, at, set_at, changing_at, first_at, last_at, more_at, push_at, split_last}
use Rattle.dv_loop.proofs.Leading.{scripts_mean_what_is_defined}
use Rattle.dv_loop.proofs.Total.{means_keeps}
use Rattle.dv_world.specs.World.{World, Records, state_of}
use Rattle.dv_objects.specs.Refusals.{cancelled}

-- what counts of a Deferred: that it is fired, and that its next firing is swallowed
abbrev pub fired_of : Kind → ℕ
fired_of r = cond r.fired 1 0

abbrev pub marks_of : Kind → ℕ
marks_of r = cond r.swallows 1 0

-- how often n should have been fired, and how many of its firings are to be swallowed
abbrev pub due_at : ℕ → Records → ℕ
due_at n rs = at fired_of n rs

abbrev pub marked_at : ℕ → Records → ℕ
marked_at n rs = at marks_of n rs

-- at most one counts
fired_once_at : (o : Option Kind) → counted_of fired_of o ≤ 1
fired_once_at None = omega arith
fired_once_at (Some r) = elim r.fired as (λ b. ◌≤◌ (cond b 1 0) 1) [ true ↦ omega arith | false ↦ omega arith ]

marked_once_at : (o : Option Kind) → counted_of marks_of o ≤ 1
marked_once_at None = omega arith
marked_once_at (Some r) = elim r.swallows as (λ b. ◌≤◌ (cond b 1 0) 1) [ true ↦ omega arith | false ↦ omega arith ]

-- a mark that is set counts one at most
marks_more : (r : Kind) → marks_of (with_swallows true r) ≤ marks_of r + 1
marks_more r = omega arith

-- one more entry, before which n was fired if it is a further firing
comes_on : (n : ℕ) (again e : Entry) (entries : List Entry) → ComesFired n again entries
    → (again ≡ e → firings n entries ≡ 1) → ComesFired n again (entries ++ e ∷ [])
comes_on n again e entries h k =
    record { fired = λ before later q. split_last (λ l. firings n l ≡ 1) again e entries before later h.fired k q }

-- no entry stands in an empty journal
nothing_comes : (n : ℕ) (again : Entry) (before later : List Entry) → [] ≡ before ++ again ∷ later
    → firings n before ≡ 1
nothing_comes n again [] later q = absurd cc
nothing_comes n again (b ∷ bs) later q = absurd cc

-- an entry that stands among some stands among more
stands_on : (e x : Entry) (entries : List Entry) → Stands e entries → Stands e (entries ++ x ∷ [])
stands_on e x entries s = record {
  before = s.before;
  later = s.later ++ x ∷ [];
  among = ap (λ l. l ++ x ∷ []) s.among ∙ append_assoc s.before (e ∷ s.later) (x ∷ []);
}

stands_last : (e : Entry) (entries : List Entry) → Stands e (entries ++ e ∷ [])
stands_last e entries = record { before = entries; later = []; among = refl }

-- one more entry, before which n was fired by a cancel if it logs that a firing of n is swallowed
swallows_on : (n : ℕ) (e : Entry) (entries : List Entry) → SwallowsTheCancelled n entries
    → (entry.Swallow n ≡ e → Stands (entry.Fire n cancelled) entries) → SwallowsTheCancelled n (entries ++ e ∷ [])
swallows_on n e entries h k = record {
  cancelled_before =
      λ before later q. split_last (λ l. Stands (entry.Fire n cancelled) l)
      (entry.Swallow n) e entries before later h.cancelled_before k q;
}

nothing_swallowed : (n : ℕ) (before later : List Entry) → [] ≡ before ++ entry.Swallow n ∷ later
    → Stands (entry.Fire n cancelled) before
nothing_swallowed n [] later q = absurd cc
nothing_swallowed n (b ∷ bs) later q = absurd cc

-- n was fired as often as its record says, and before each further firing; where one is or was to be swallowed, a
-- cancel has fired it
record Counted (n : ℕ) (s : Both) : Type 0 where
  counted : firings n s.1.entries ≡ due_at n s.0
  held : swallowings n s.1.entries + marked_at n s.0 ≤ due_at n s.0
  refused : ComesFired n (entry.Refuse n) s.1.entries
  swallowed : ComesFired n (entry.Swallow n) s.1.entries
  source : marked_at n s.0 ≡ 1 → Stands (entry.Fire n cancelled) s.1.entries
  cancelled : SwallowsTheCancelled n s.1.entries

-- if it was so before, it is so after
record Counts (n : ℕ) (s t : Both) : Type 0 where
  goes_on : Counted n s → Counted n t

-- how an entry logs what the records then count
pub record Tells (n : ℕ) (e : Entry) (rs : Records) (s : Both) : Type 0 where
  due : due_at n rs ≡ due_at n s.0 + firing n e
  marked : swallowing n e + marked_at n rs ≤ marked_at n s.0 + firing n e
  refused : entry.Refuse n ≡ e → due_at n s.0 ≡ 1
  pub swallowed : entry.Swallow n ≡ e → marked_at n s.0 ≡ 1
  pub source : marked_at n rs ≡ 1 → (marked_at n s.0 ≡ 1) ⊎ (entry.Fire n cancelled ≡ e)

source_on : (n : ℕ) (e : Entry) (s : Both) → Counted n s → (marked_at n s.0 ≡ 1) ⊎ (entry.Fire n cancelled ≡ e)
    → Stands (entry.Fire n cancelled) (s.1.entries ++ e ∷ [])
source_on n e s k o =
    ⊎_elim (λ m. stands_on (entry.Fire n cancelled) e s.1.entries (k.source m))
    (λ q. subst (λ x. Stands x (s.1.entries ++ e ∷ [])) (sym q) (stands_last e s.1.entries)) o

-- what is to be swallowed was fired
due_of_mark : (n : ℕ) (s : Both) → Counted n s → marked_at n s.0 ≡ 1 → due_at n s.0 ≡ 1
due_of_mark n s k m = omega (arith, k.held, m, fired_once_at (slice_get s.0 n))

tells : (n : ℕ) (e : Entry) (rs : Records) (s : Both) → Tells n e rs s → Counts n s (telling_of e rs s)
tells n e rs s t = record {
  goes_on = λ k. record {
    counted = omega (arith, sum_by_push (firing n) s.1.entries e, t.due, k.counted);
    held = omega (arith, sum_by_push (swallowing n) s.1.entries e, t.due, t.marked, k.held);
    refused = comes_on n (entry.Refuse n) e s.1.entries k.refused (λ q. k.counted ∙ t.refused q);
    swallowed =
        comes_on n (entry.Swallow n) e s.1.entries k.swallowed (λ q. k.counted ∙ due_of_mark n s k (t.swallowed q));
    source = λ m. source_on n e s k (t.source m);
    cancelled = swallows_on n e s.1.entries k.cancelled (λ q. k.source (t.swallowed q));
  };
}

-- an entry of what leaves the marks
told : (n : ℕ) (e : Entry) (rs : Records) (s : Both) → swallowing n e ≡ 0 → due_at n rs ≡ due_at n s.0 + firing n e
    → marked_at n rs ≡ marked_at n s.0 → (entry.Refuse n ≡ e → due_at n s.0 ≡ 1) → (entry.Swallow n ≡ e → ⊥)
    → Counts n s (telling_of e rs s)
told n e rs s none p m refused other =
    tells n e rs s (record {
      due = p;
      marked = omega (arith, none, m);
      refused = refused;
      swallowed = λ q. absurd (other q);
      source = λ x. inl (sym m ∙ x);
    })

-- an entry that is no firing, of what leaves both
plain : (n : ℕ) (e : Entry) (rs : Records) (s : Both) → swallowing n e ≡ 0 → firing n e ≡ 0 → due_at n rs ≡ due_at n s.0
    → marked_at n rs ≡ marked_at n s.0 → (entry.Refuse n ≡ e → ⊥) → (entry.Swallow n ≡ e → ⊥)
    → Counts n s (telling_of e rs s)
plain n e rs s none never p m refused swallowed =
    told n e rs s none (omega (arith, never, p)) m (λ q. absurd (refused q)) swallowed

-- an entry that logs no Deferred logs no further firing
not_refused : (n : ℕ) (e : Entry) → change_of e ≡ Aside → entry.Refuse n ≡ e → ⊥
not_refused n e a q = let same : Refuses n ≡ Aside = ap change_of q ∙ a in absurd cc

not_swallowed : (n : ℕ) (e : Entry) → change_of e ≡ Aside → entry.Swallow n ≡ e → ⊥
not_swallowed n e a q = let same : Swallows n ≡ Aside = ap change_of q ∙ a in absurd cc

-- a firing by a cancel, by whether it is of n
swallows_source : (b : Bool) (n d : ℕ) (before after : ℕ) → nat_eq d n ≡ b → after ≤ before + cond b 1 0 → before ≤ 1
    → after ≡ 1 → (before ≡ 1) ⊎ (entry.Fire n cancelled ≡ entry.Fire d cancelled)
swallows_source true n d before after e h k m = inr (ap (λ x. entry.Fire x cancelled) (sym (eqb-true d n e)))
swallows_source false n d before after e h k m = inl (omega (arith, h, k, m))

pub sets_swallows_tell : (n d : ℕ) (r : Kind) (s : Both) → slice_get s.0 d ≡ Some r → r.fired ≡ false
    → Tells n (entry.Fire d cancelled) (swallow_next d (slice_set s.0 d (with_firing cancelled r))) s
sets_swallows_tell n d r s h f =
    let fired = slice_set s.0 d (with_firing cancelled r) in
    let more : marked_at n (swallow_next d fired) ≤ marked_at n s.0 + cond (nat_eq d n) 1 0 =
    omega (
      arith,
      more_at marks_of n d (with_swallows true) fired marks_more,
      set_at marks_of n d r (with_firing cancelled r) s.0 h refl,
    ) in
    record {
      due =
          changing_at fired_of n d (with_swallows true) fired (λ y. refl)
          ∙ first_at fired_of n d r (with_firing cancelled r) s.0 h (rw f refl) refl;
      marked = omega (arith, more);
      refused = λ q. absurd cc;
      swallowed = λ q. absurd cc;
      source = swallows_source _ n d (marked_at n s.0) _ refl more (marked_once_at (slice_get s.0 n));
    }

pub swallows_tell : (n d : ℕ) (r : Kind) (s : Both) → slice_get s.0 d ≡ Some r → r.swallows ≡ true
    → Tells n (entry.Swallow d) (slice_set s.0 d (with_swallows false r)) s
swallows_tell n d r s h f =
    let less = last_at marks_of n d r (with_swallows false r) s.0 h (rw f refl) refl in
    record {
      due = omega (arith, set_at fired_of n d r (with_swallows false r) s.0 h refl);
      marked = omega (arith, less);
      refused = λ q. absurd cc;
      swallowed = λ q. cc;
      source = λ m. inl (omega (arith, less, m, marked_once_at (slice_get s.0 n)));
    }

-- each entry counts what it changes
counts : (n : ℕ) → Kept (Counts n)
counts n = record {
  stays = λ s. record { goes_on = λ k. k };
  joins = λ s t u p q. record { goes_on = λ k. q.goes_on (p.goes_on k) };
  drops = λ d r pair rest s h e.
      let left : Kind = record r { items = rest } in
      let due = set_at fired_of n d r left s.0 h refl in
      let marked = set_at marks_of n d r left s.0 h refl in
      record {
        goes_on = λ k. record {
          counted = k.counted ∙ sym due;
          held = omega (arith, k.held, due, marked);
          refused = k.refused;
          swallowed = k.swallowed;
          source = λ m. k.source (sym marked ∙ m);
          cancelled = k.cancelled;
        };
      };
  news = λ name canceller s x.
      plain n (entry.New (length s.0) name) _ s refl refl (push_at fired_of n (new_record name canceller) s.0 refl)
      (push_at marks_of n (new_record name canceller) s.0 refl) (λ q. absurd cc) (λ q. absurd cc);
  asides = λ e s a x. plain n e _ s (rw a refl) (rw a refl) refl refl (not_refused n e a) (not_swallowed n e a);
  refuses = λ d r s x h f. told n (entry.Refuse d) _ s refl (omega arith) refl (λ q. cc) (λ q. absurd cc);
  swallows = λ d r s x h f. tells n (entry.Swallow d) _ s (swallows_tell n d r s h f);
  cancels = λ d s x. plain n (entry.Cancel d) _ s refl refl refl refl (λ q. absurd cc) (λ q. absurd cc);
  sets_swallows = λ d r s x h f. tells n (entry.Fire d cancelled) _ s (sets_swallows_tell n d r s h f);
  fires = λ d value r s x h f.
      told n (entry.Fire d value) _ s refl (first_at fired_of n d r (with_firing value r) s.0 h (rw f refl) refl)
      (set_at marks_of n d r (with_firing value r) s.0 h refl) (λ q. absurd cc) (λ q. absurd cc);
  adds = λ d pair r s x h.
      let s2 = with_item (item.Pair pair) r in
      plain n (entry.Add d) _ s refl refl (set_at fired_of n d r s2 s.0 h refl) (set_at marks_of n d r s2 s.0 h refl)
      (λ q. absurd cc) (λ q. absurd cc);
  runs = λ d pair r rest s x h e.
      let begun : Kind = record r { items = rest; running = true } in
      plain n (entry.Run d) _ s refl refl (set_at fired_of n d r begun s.0 h refl)
      (set_at marks_of n d r begun s.0 h refl) (λ q. absurd cc) (λ q. absurd cc);
  hands = λ d c r rest s x h e.
      let taken : Kind = record r { items = rest; value = Null } in
      let left = slice_set s.0 d taken in
      plain n (entry.Hand d c r.value) _ s refl refl
      (changing_at fired_of n c (with_handed r.value) left (λ y. refl) ∙ set_at fired_of n d r taken s.0 h refl)
      (changing_at marks_of n c (with_handed r.value) left (λ y. refl) ∙ set_at marks_of n d r taken s.0 h refl)
      (λ q. absurd cc) (λ q. absurd cc);
  sets = λ d value r s x h.
      let put = with_result value r in
      plain n (entry.Set d value) _ s refl refl (set_at fired_of n d r put s.0 h refl)
      (set_at marks_of n d r put s.0 h refl) (λ q. absurd cc) (λ q. absurd cc);
  waits = λ d e r given s x h g.
      let first = changing e (with_item (item.HandOver d)) s.0 in
      plain n (entry.Wait d e) _ s refl refl
      (changing_at fired_of n d (chaining.with_wait e) first (λ y. refl)
      ∙ changing_at fired_of n e (with_item (item.HandOver d)) s.0 (λ y. refl))
      (changing_at marks_of n d (chaining.with_wait e) first (λ y. refl)
      ∙ changing_at marks_of n e (with_item (item.HandOver d)) s.0 (λ y. refl)) (λ q. absurd cc) (λ q. absurd cc);
  takes = λ d e r given s x h g p.
      let first = changing e chaining.without_value s.0 in
      plain n (entry.Take d e given.value) _ s refl refl
      (changing_at fired_of n d (with_result given.value) first (λ y. refl)
      ∙ changing_at fired_of n e chaining.without_value s.0 (λ y. refl))
      (changing_at marks_of n d (with_result given.value) first (λ y. refl)
      ∙ changing_at marks_of n e chaining.without_value s.0 (λ y. refl)) (λ q. absurd cc) (λ q. absurd cc);
  pauses = λ d r s x h.
      let more = with_pauses (r.pauses + 1) r in
      plain n (entry.Pause d) _ s refl refl (set_at fired_of n d r more s.0 h refl)
      (set_at marks_of n d r more s.0 h refl) (λ q. absurd cc) (λ q. absurd cc);
  unpauses = λ d r s x h p.
      let less = with_pauses (r.pauses - 1) r in
      plain n (entry.Unpause d) _ s refl refl (set_at fired_of n d r less s.0 h refl)
      (set_at marks_of n d r less s.0 h refl) (λ q. absurd cc) (λ q. absurd cc);
}

-- so a run fires each Deferred once at most
world_fired_once : (script : Script) (batches : List Batch) (w : World) → Means script batches w → (n : ℕ)
    → FiredOnce n w.journal.entries
world_fired_once script batches w m n =
    let kept =
    means_keeps (λ w u. Counts n (state_of w) (state_of u)) (every_step (Counts n) (counts n)) script batches w m in
    let all = kept.goes_on (record {
      counted = refl;
      held = omega arith;
      refused = record { fired = nothing_comes n (entry.Refuse n) };
      swallowed = record { fired = nothing_comes n (entry.Swallow n) };
      source = λ m. absurd cc;
      cancelled = record { cancelled_before = nothing_swallowed n };
    }) in
    let one = fired_once_at (slice_get w.records n) in
    record {
      once = omega (arith, all.counted, one);
      refused = all.refused;
      swallowed = all.swallowed;
      swallowed_once = omega (arith, all.held, one);
      cancelled = all.cancelled;
    }

-- and so its report logs it
pub fired_once : EachDeferredIsFiredOnce
fired_once script report r n =
    subst (λ (j : Written). FiredOnce n j.entries) (sym r.tells.journal) (world_fired_once script report.batches r.world
    ((scripts_mean_what_is_defined script report.batches r.world).1 r.means) n)
