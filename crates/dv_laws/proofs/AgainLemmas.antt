-- Only the next firing after the first may be swallowed.
use Rattle.std.proofs.Common.{◌≡◌, ℕ, zero, suc, ◌+◌, ◌≤◌, ◌++◌, Bool, true, false, nat_eq, List, ◌∷◌, Some, refl, sym}
use Rattle.std.proofs.Common.{ap, ◌∙◌, arith, slice_get, slice_set, cond, length, sum_by}
use Rattle.std.proofs.lemmas.Bool.{eqb-true}
use Rattle.std.proofs.lemmas.List.Sums.{sum_by_push, sum_by-append, sum_by-cons}
use Rattle.dv_journal.specs.Told.{change_of, Aside, Swallows}
use Rattle.dv_journal.specs.declared.entry.Entry.{Entry}
use Rattle.dv_journal.specs.declared.entry.Entry.TheVariants as entry
use Rattle.dv_script.specs.declared.script.Script.{Script}
use Rattle.dv_store.specs.Callbacks.{with_handed, with_result}
use Rattle.dv_store.specs.Chaining as chaining
use Rattle.dv_store.specs.Fire as firing
use Rattle.dv_store.specs.Record.{with_item, new_record}
use Rattle.dv_store.specs.declared.record.Item.TheVariants as item
use Rattle.dv_objects.specs.Refusals.{cancelled}
use Rattle.dv_posts.specs.Batches.{Batch}
use Rattle.dv_loop.specs.Meaning.{Means}
use Rattle.dv_loop.proofs.Kept.{Both, Kind, telling_of}
use Rattle.dv_world.specs.World.{World, Records, state_of}
use Rattle.dv_laws.specs.Again.{refusing, refusals, OnlyTheNextFiringIsSwallowed}
use Rattle.dv_laws.specs.Once.{firing as firing_by, swallowing}
use Rattle.dv_laws.specs.Places.{OfEachEntry}
use Rattle.dv_laws.proofs.At.{counted_of, at, set_at, changing_at, push_at, set_by, changing_by, entries_on, no_entries}
use Rattle.dv_laws.proofs.OnceLemmas.{fired_once}
use Rattle.dv_laws.proofs.Still.{Still, calm}
use Rattle.dv_laws.proofs.Settles.{Settles, is_itself, means_keeps, reported}

-- whether a further firing of a Deferred is refused, as a count
abbrev over_of : Kind → ℕ
over_of r = cond r.fired (cond r.swallows 0 1) 0

-- once a firing of n was refused each further one is; and before a firing that was swallowed none was refused
abbrev FirstSwallowed : ℕ → List Entry → Type 0
FirstSwallowed n entries = OfEachEntry (λ told x. x ≡ entry.Swallow n → refusals n told ≡ 0) entries

record Counted (n : ℕ) (s : Both) : Type 0 where
  over : 1 ≤ refusals n s.1.entries → at over_of n s.0 ≡ 1
  first : FirstSwallowed n s.1.entries

record Counts (n : ℕ) (s t : Both) : Type 0 where
  goes_on : Counted n s → Counted n t

-- how an entry logs further firings
record Tells (n : ℕ) (e : Entry) (rs : Records) (s : Both) : Type 0 where
  refused : 1 ≤ refusing n e → at over_of n rs ≡ 1
  stays : at over_of n s.0 ≡ 1 → at over_of n rs ≡ 1
  swallowed : e ≡ entry.Swallow n → at over_of n s.0 ≡ 0

more_refused : (a b : ℕ) (P : Type 0) → (1 ≤ a → P) → (1 ≤ b → P) → 1 ≤ a + b → P
more_refused zero b P h k q = k (omega (arith, q))
more_refused (suc a) b P h k q = h (omega arith)

-- none was refused where the next firing isn't
nothing_of : (k over : ℕ) → (1 ≤ k → over ≡ 1) → over ≡ 0 → k ≡ 0
nothing_of zero over h m = refl
nothing_of (suc k) over h m = absurd (omega (arith, h (omega arith), m))

tells : (n : ℕ) (e : Entry) (rs : Records) (s : Both) → Tells n e rs s → Counts n s (telling_of e rs s)
tells n e rs s t = record {
  goes_on = λ k. record {
    over =
        λ q. more_refused (refusals n s.1.entries) (refusing n e) _ (λ a. t.stays (k.over a)) t.refused
        (omega (arith, q, sum_by_push (refusing n) s.1.entries e));
    first =
        entries_on (λ told x. x ≡ entry.Swallow n → refusals n told ≡ 0) e s.1.entries k.first
        (λ q. nothing_of (refusals n s.1.entries) _ k.over (t.swallowed q));
  };
}

-- an entry that is no further firing
plain : (n : ℕ) (e : Entry) (rs : Records) (s : Both) → refusing n e ≡ 0 → (e ≡ entry.Swallow n → ⊥)
    → (at over_of n s.0 ≡ 1 → at over_of n rs ≡ 1) → Counts n s (telling_of e rs s)
plain n e rs s a b p =
    tells n e rs s (record { refused = λ q. absurd (omega (arith, a, q)); stays = p; swallowed = λ q. absurd (b q) })

not_swallowed : (n : ℕ) (e : Entry) → change_of e ≡ Aside → e ≡ entry.Swallow n → ⊥
not_swallowed n e a q = let same : Swallows n ≡ Aside = ap change_of (sym q) ∙ a in absurd cc

-- one of which further firings are refused stays so
over_by : (b : Bool) (n d : ℕ) (r s : Kind) (l : Records) → nat_eq d n ≡ b → slice_get l d ≡ Some r
    → (over_of r ≡ 1 → over_of s ≡ 1) → at over_of n l ≡ 1 → cond b (over_of s) (at over_of n l) ≡ 1
over_by true n d r s l e h p q = p (ap (counted_of over_of) (sym h) ∙ ap (λ x. at over_of x l) (eqb-true d n e) ∙ q)
over_by false n d r s l e h p q = q

over_at : (n d : ℕ) (r s : Kind) (l : Records) → slice_get l d ≡ Some r → (over_of r ≡ 1 → over_of s ≡ 1)
    → at over_of n l ≡ 1 → at over_of n (slice_set l d s) ≡ 1
over_at n d r s l h p q = set_by over_of n d r s l h ∙ over_by _ n d r s l refl h p q

-- a change that leaves it
same_at : (n : ℕ) (l m : Records) → at over_of n m ≡ at over_of n l → at over_of n l ≡ 1 → at over_of n m ≡ 1
same_at n l m p q = p ∙ q

unfired_over : (r : Kind) → r.fired ≡ false → over_of r ≡ 0
unfired_over r f = ap {B = ℕ} (λ b. cond b (cond r.swallows 0 1) 0) f

unfired : (r : Kind) (P : Type 0) → r.fired ≡ false → over_of r ≡ 1 → P
unfired r P f q = absurd (omega (arith, unfired_over r f, q))

marked_over : (r : Kind) → r.swallows ≡ true → over_of r ≡ 0
marked_over r q = rw q (elim r.fired as (λ b. cond {A = ℕ} b 0 0 ≡ 0) [ true ↦ refl | false ↦ refl ])

refused_over : (r : Kind) → r.fired ≡ true → r.swallows ≡ false → over_of r ≡ 1
refused_over r f q = rw (f, q) refl

-- a firing that is refused, and one that is swallowed
refused_by : (b : Bool) (n d : ℕ) (r : Kind) (l : Records) → nat_eq d n ≡ b → slice_get l d ≡ Some r → over_of r ≡ 1
    → 1 ≤ cond b 1 0 → at over_of n l ≡ 1
refused_by true n d r l e h p q = rw (← (eqb-true d n e), h) p
refused_by false n d r l e h p q = absurd (omega (arith, q))

swallow_of : (n d : ℕ) → entry.Swallow d ≡ entry.Swallow n → d ≡ n
swallow_of n d q = cc

-- a firing by a cancel is none of a fired Deferred
swallows_by : (b : Bool) (n d : ℕ) (r : Kind) (l : Records) → nat_eq d n ≡ b → slice_get l d ≡ Some r → r.fired ≡ false
    → at over_of n l ≡ 1
    → (let fired = slice_set l d (firing.with_firing cancelled r) in
    cond b (at (λ x. over_of (firing.with_swallows true x)) n fired) (at over_of n fired) ≡ 1)
swallows_by true n d r l e h f q =
    unfired r _ f (ap (counted_of over_of) (sym h) ∙ ap (λ x. at over_of x l) (eqb-true d n e) ∙ q)
swallows_by false n d r l e h f q = over_at n d r (firing.with_firing cancelled r) l h (unfired r _ f) q

-- each entry logs further firings
still : (n : ℕ) → Still (λ w u. Counts n (state_of w) (state_of u))
still n = record {
  stays = λ w. record { goes_on = λ k. k };
  joins = λ u v w p q. record { goes_on = λ k. q.goes_on (p.goes_on k) };
  stops = λ w. record { goes_on = λ k. k };
  news =
      λ name canceller w x. plain n (entry.New (length w.records) name) _ (state_of w) refl (λ q. absurd cc)
      (same_at n w.records _ (push_at over_of n (new_record name canceller) w.records refl));
  asides = λ e change w a c l b x. plain n e _ (state_of w) (rw a refl) (not_swallowed n e a) (λ q. q);
  arranges = λ change w s l b. record { goes_on = λ k. k };
  submits = λ d pool work w x. plain n (entry.Job (length w.works) d) _ (state_of w) refl (λ q. absurd cc) (λ q. q);
  refuses = λ d r w x h p q. tells n (entry.Refuse d) _ (state_of w) (record {
    refused = refused_by _ n d r w.records refl h (refused_over r p q);
    stays = λ z. z;
    swallowed = λ z. absurd cc;
  });
  swallows = λ d r w x h p.
      tells n (entry.Swallow d) _ (state_of w) (record {
        refused = λ q. absurd (omega (arith, q));
        stays = over_at n d r _ w.records h (λ z. absurd (omega (arith, marked_over r p, z)));
        swallowed = λ q. rw (← (swallow_of n d q), h) (marked_over r p);
      });
  cancels = λ d w x. plain n (entry.Cancel d) _ (state_of w) refl (λ q. absurd cc) (λ q. q);
  sets_swallows = λ d r w x h f c.
      plain n (entry.Fire d cancelled) _ (state_of w) refl (λ q. absurd cc)
      (λ q. changing_by over_of n d (firing.with_swallows true) (slice_set w.records d (firing.with_firing cancelled r))
      ∙ swallows_by (nat_eq d n) n d r w.records refl h f q);
  fires =
      λ d value r w x h f.
      plain n (entry.Fire d value) _ (state_of w) refl (λ q. absurd cc) (over_at n d r _ w.records h (unfired r _ f));
  adds =
      λ d pair r w x h.
      plain n (entry.Add d) _ (state_of w) refl (λ q. absurd cc) (over_at n d r _ w.records h (λ z. z));
  pauses =
      λ d r w x h. plain n (entry.Pause d) _ (state_of w) refl (λ q. absurd cc) (over_at n d r _ w.records h (λ z. z));
  unpauses =
      λ d r w x h p.
      plain n (entry.Unpause d) _ (state_of w) refl (λ q. absurd cc) (over_at n d r _ w.records h (λ z. z));
}

settles : (n : ℕ) → Settles (λ w u. Counts n (state_of w) (state_of u))
settles n = record {
  calm = calm _ (still n);
  drops = λ d r pair rest w h e a s. record {
    goes_on = λ k. record { over = λ q. over_at n d r _ w.records h (λ z. z) (k.over q); first = k.first };
  };
  runs =
      λ d r pair rest w x h e a s.
      plain n (entry.Run d) _ (state_of w) refl (λ q. absurd cc) (over_at n d r _ w.records h (λ z. z));
  hands = λ d c r rest w x h e a s.
      plain n (entry.Hand d c r.value) _ (state_of w) refl (λ q. absurd cc) (same_at n w.records _
      (changing_at over_of n c (with_handed r.value) _ (λ y. refl) ∙ set_at over_of n d r _ w.records h refl));
  sets =
      λ d value r w x h p s.
      plain n (entry.Set d value) _ (state_of w) refl (λ q. absurd cc) (over_at n d r _ w.records h (λ z. z));
  waits = λ d e r given w x h i p q s.
      plain n (entry.Wait d e) _ (state_of w) refl (λ z. absurd cc)
      (same_at n w.records _ (changing_at over_of n d (chaining.with_wait e) _ (λ y. refl)
      ∙ changing_at over_of n e (with_item (item.HandOver d)) w.records (λ y. refl)));
  takes = λ d e r given w x h i p q s.
      plain n (entry.Take d e given.value) _ (state_of w) refl (λ z. absurd cc)
      (same_at n w.records _ (changing_at over_of n d (with_result given.value) _ (λ y. refl)
      ∙ changing_at over_of n e chaining.without_value w.records (λ y. refl)));
  advances = λ ticks w x s. plain n (entry.Advance _) _ (state_of w) refl (λ q. absurd cc) (λ q. q);
}

world_first : (n : ℕ) (script : Script) (batches : List Batch) (w : World) → Means script batches w
    → FirstSwallowed n w.journal.entries
world_first n script batches w m =
    ((means_keeps (λ w u. Counts n (state_of w) (state_of u)) (settles n) script batches w m).goes_on (record {
      over = λ q. absurd (omega (arith, q));
      first = no_entries (λ told x. x ≡ entry.Swallow n → refusals n told ≡ 0);
    })).first

-- what is logged around an entry, and by it
around : (f : Entry → ℕ) (before : List Entry) (e : Entry) (later entries : List Entry) → entries ≡ before ++ e ∷ later
    → sum_by f entries ≡ sum_by f before + f e + sum_by f later
around f before e later entries q = rw q (omega (arith, sum_by-append f before (e ∷ later), sum_by-cons f e later))

itself : (n : ℕ) → swallowing n (entry.Swallow n) ≡ 1
itself n = ap {B = ℕ} (λ b. cond b 1 0) (is_itself n)

-- so its report logs it
pub only_next_swallowed : OnlyTheNextFiringIsSwallowed
only_next_swallowed script report r n =
    let once = fired_once script report r n in
    let first = reported (FirstSwallowed n) (world_first n) script report r in
    record {
      first = λ before later q. first.next before (entry.Swallow n) later q refl;
      refused = λ before later q. omega (
        arith,
        once.once,
        once.swallowed.fired before later q,
        around (firing_by n) before (entry.Swallow n) later report.journal.entries q,
      );
      only = λ before later q. omega (
        arith,
        once.swallowed_once,
        around (swallowing n) before (entry.Swallow n) later report.journal.entries q,
        itself n,
      );
    }
