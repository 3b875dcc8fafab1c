-- A firing is swallowed only where a cancel has fired the Deferred.
use Rattle.std.proofs.Common.{◌≡◌, ◌⊎◌, inl, inr, ⊎_elim, append_assoc, ℕ, zero, suc, ◌++◌, Bool, true, false, List, []}
use Rattle.std.proofs.Common.{◌∷◌, Option, None, Some, refl, sym, ap, subst, ◌∙◌, slice_get, slice_set, cond, length}
use Rattle.std.proofs.Common.{option_map}
use Rattle.std.specs.Option.{option_and_then}
use Rattle.std.proofs.lemmas.List.Sums.{fold-append}
use Rattle.dv_value.specs.declared.value.Value.{Null}
use Rattle.dv_journal.specs.Told.{change_of, Aside, Swallows}
use Rattle.dv_journal.specs.declared.entry.Entry.{Entry}
use Rattle.dv_journal.specs.declared.entry.Entry.TheVariants as entry
use Rattle.dv_script.specs.declared.script.Script.{Script}
use Rattle.dv_store.specs.Callbacks.{with_handed, with_result}
use Rattle.dv_store.specs.Cancelling.{link, follow, end_of_chain, EndsAt, ChainsEnd}
use Rattle.dv_store.specs.Chaining as chaining
use Rattle.dv_store.specs.Fire.{with_firing}
use Rattle.dv_store.specs.Record.{with_item, new_record, changing}
use Rattle.dv_store.specs.declared.record.Item.TheVariants as item
use Rattle.dv_store.proofs.ChainLaws.{chains_end}
use Rattle.dv_objects.specs.Pair.{Pair}
use Rattle.dv_objects.specs.Reached.{reached_unfired}
use Rattle.dv_objects.specs.Refusals.{cancelled}
use Rattle.dv_objects.specs.declared.canceller.Canceller.{Canceller}
use Rattle.dv_objects.specs.declared.canceller.Canceller.TheVariants as canceller
use Rattle.dv_objects.specs.declared.reached.Reached.TheVariants as reached
use Rattle.dv_posts.specs.Batches.{Batch}
use Rattle.dv_loop.specs.Meaning.{Means}
use Rattle.dv_loop.proofs.Kept.{Both, Kind}
use Rattle.dv_world.specs.World.{World, Records, state_of, end_reached, record_reached}
use Rattle.dv_laws.specs.ReadBack.{Shown, told, told_by}
use Rattle.dv_laws.specs.Swallowed.{waited_for, led_to, IsFiredByACancel, SwallowsAfterACancel}
use Rattle.dv_laws.specs.Swallowed.{OnlyACancelHasOneSwallowed}
use Rattle.dv_laws.proofs.At.{set_at, changing_at, push_at, entries_on, no_entries}
use Rattle.dv_laws.proofs.Calm.{WasCancelled}
use Rattle.dv_laws.proofs.OnceLemmas.{marks_of, marked_at, sets_swallows_tell, swallows_tell}
use Rattle.dv_laws.proofs.ReadBackLemmas.{Reads, ReadsBack, reads, shown_of, at as shown_at}
use Rattle.dv_laws.proofs.Still.{Still, calm}
use Rattle.dv_laws.proofs.Settles.{Settles, means_keeps, reported}

-- by what was logged one waits as its record does
waited_cases : (o : Option Kind)
    → option_and_then (λ s. s.waits_for) (option_map shown_of o) ≡ option_and_then (λ r. r.waits_for) o
waited_cases None = refl
waited_cases (Some r) = refl

next_same : (o : Option ℕ) (f g : ℕ → Option ℕ) → ((e : ℕ) → f e ≡ g e) → option_and_then f o ≡ option_and_then g o
next_same None f g h = refl
next_same (Some e) f g h = h e

module _ (rs : Records) (before : List Entry) (h : (k : ℕ) → told_by k before ≡ shown_at k rs) where
  pub waited_is : (k : ℕ) → waited_for k before ≡ link rs k
  waited_is k = ap (λ (o : Option Shown). option_and_then (λ s. s.waits_for) o) (h k) ∙ waited_cases (slice_get rs k)

  -- so waits lead where links do
  pub led_is : (links k : ℕ) → led_to links k before ≡ follow links k rs
  unfolding follow
  led_is zero k = refl
  led_is (suc n) k =
      ap (λ (o : Option ℕ). option_and_then (λ e. led_to n e before) o) (waited_is k)
      ∙ next_same (link rs k) (λ e. led_to n e before) (λ e. follow n e rs) (λ e. led_is n e)

-- whom a cancel reaches that is to be fired is at the end of the links
unfired_is : (end d : ℕ) (c : Option Canceller) → reached_unfired end c ≡ reached.Fire d → end ≡ d
unfired_is end d None q = cc
unfired_is end d (Some (canceller.Body body)) q = absurd cc
unfired_is end d (Some (canceller.Token l)) q = absurd cc
unfired_is end d (Some (canceller.Item k)) q = absurd cc
unfired_is end d (Some (canceller.Children children)) q = absurd cc
unfired_is end d (Some (canceller.Inline i)) q = absurd cc

fired_is : (b : Bool) (end d : ℕ) (c : Option Canceller)
    → cond b reached.Nothing (reached_unfired end c) ≡ reached.Fire d → end ≡ d
fired_is true end d c q = absurd cc
fired_is false end d c q = unfired_is end d c q

end_is : (end d : ℕ) (o : Option Kind) → record_reached end o ≡ reached.Fire d → end ≡ d
end_is end d None q = absurd cc
end_is end d (Some r) q = fired_is r.fired end d r.canceller q

at_end : (of d : ℕ) (rs : Records) (o : Option ℕ) → end_of_chain of rs ≡ o → end_reached o rs ≡ reached.Fire d
    → end_of_chain of rs ≡ Some d
at_end of d rs None e q = absurd cc
at_end of d rs (Some end) e q = e ∙ ap Some (end_is end d (slice_get rs end) q)

-- a cancel changes nothing that is logged of a Deferred
told_before : (k of : ℕ) (before : List Entry) → told_by k (before ++ entry.Cancel of ∷ []) ≡ told_by k before
told_before k of before = fold-append (told k) None before (entry.Cancel of ∷ [])

-- so one that is fired directly after it is fired by a cancel
fired_so : (n : ℕ) (w : World) → WasCancelled n w → ReadsBack (state_of w)
    → IsFiredByACancel n (w.journal.entries ++ entry.Fire n cancelled ∷ [])
fired_so n w c k =
    let all : ChainsEnd Pair Canceller = chains_end in
    let end : EndsAt w.records c.of n = (all.ends c.of n w.records).0 (at_end c.of n w.records _ refl c.reaches) in
    let reads_before : (d : ℕ) → told_by d c.before ≡ shown_at d w.records =
    λ d. sym (told_before d c.of c.before) ∙ ap (told_by d) (sym c.last) ∙ k d in
    record {
      of = c.of;
      before = c.before;
      later = [];
      among =
          ap (λ l. l ++ entry.Fire n cancelled ∷ []) c.last
          ∙ append_assoc c.before (entry.Cancel c.of ∷ []) (entry.Fire n cancelled ∷ []);
      reaches = record {
        waits = end.links;
        leads = led_is w.records c.before reads_before end.links c.of ∙ end.leads;
        free = waited_is w.records c.before reads_before n ∙ end.free;
      };
    }

fired_on : (n : ℕ) (x : Entry) (entries : List Entry) → IsFiredByACancel n entries
    → IsFiredByACancel n (entries ++ x ∷ [])
fired_on n x entries c = record {
  of = c.of;
  before = c.before;
  later = c.later ++ x ∷ [];
  among =
      ap (λ l. l ++ x ∷ []) c.among
      ∙ append_assoc c.before (entry.Cancel c.of ∷ (entry.Fire n cancelled ∷ c.later)) (x ∷ []);
  reaches = c.reaches;
}

-- the journal logs what the records show, and one whose next firing is to be swallowed was fired by a cancel
record Swallowing (n : ℕ) (s : Both) : Type 0 where
  reads : ReadsBack s
  source : marked_at n s.0 ≡ 1 → IsFiredByACancel n s.1.entries
  law : SwallowsAfterACancel n s.1.entries

-- if it was so before, it is so after
record Goes (n : ℕ) (s t : Both) : Type 0 where
  goes_on : Swallowing n s → Swallowing n t

-- one more entry, after which n is to swallow a firing only if it was before or is fired by a cancel
tells : (n : ℕ) (e : Entry) (s t : Both) → t.1.entries ≡ s.1.entries ++ e ∷ [] → Reads s t
    → (ReadsBack s → marked_at n t.0 ≡ 1 → (marked_at n s.0 ≡ 1) ⊎ IsFiredByACancel n (s.1.entries ++ e ∷ []))
    → (e ≡ entry.Swallow n → marked_at n s.0 ≡ 1) → Goes n s t
tells n e s t q r f g = record {
  goes_on = λ k. record {
    reads = r.goes_on k.reads;
    source = λ m. rw q (⊎_elim (λ x. fired_on n e s.1.entries (k.source x)) (λ x. x) (f k.reads m));
    law =
        rw q (entries_on (λ told x. x ≡ entry.Swallow n
        → IsFiredByACancel n told) e s.1.entries k.law (λ z. k.source (g z)));
  };
}

-- an entry that leaves what n is to swallow
plain : (n : ℕ) (e : Entry) (s t : Both) → t.1.entries ≡ s.1.entries ++ e ∷ [] → Reads s t
    → marked_at n t.0 ≡ marked_at n s.0 → (e ≡ entry.Swallow n → ⊥) → Goes n s t
plain n e s t q r p f = tells n e s t q r (λ k m. inl (sym p ∙ m)) (λ z. absurd (f z))

not_swallowed : (n : ℕ) (e : Entry) → change_of e ≡ Aside → e ≡ entry.Swallow n → ⊥
not_swallowed n e a q = let same : Swallows n ≡ Aside = ap change_of (sym q) ∙ a in absurd cc

fire_is : (d n : ℕ) → entry.Fire n cancelled ≡ entry.Fire d cancelled → d ≡ n
fire_is d n q = cc

-- each entry logs it
still : (n : ℕ) → Still (λ w u. Goes n (state_of w) (state_of u))
still n = record {
  stays = λ w. record { goes_on = λ k. k };
  joins = λ u v w p q. record { goes_on = λ k. q.goes_on (p.goes_on k) };
  stops = λ w. record { goes_on = λ k. k };
  news =
      λ name canceller w x.
      plain n (entry.New (length w.records) name) (state_of w) _ refl (reads.news name canceller (state_of w) x)
      (push_at marks_of n (new_record name canceller) w.records refl) (λ q. absurd cc);
  asides =
      λ e change w a c l b x.
      plain n e (state_of w) _ refl (reads.asides e (state_of w) a x) refl (not_swallowed n e a);
  arranges = λ change w s l b. record { goes_on = λ k. k };
  submits =
      λ d pool work w x. plain n (entry.Job (length w.works) d) (state_of w) _ refl
      (reads.asides (entry.Job (length w.works) d) (state_of w) refl x) refl (λ q. absurd cc);
  refuses =
      λ d r w x h p q.
      plain n (entry.Refuse d) (state_of w) _ refl (reads.refuses d r (state_of w) x h p) refl (λ z. absurd cc);
  swallows = λ d r w x h p.
      let t = swallows_tell n d r (state_of w) h p in
      tells n (entry.Swallow d) (state_of w) _ refl (reads.swallows d r (state_of w) x h p)
      (λ k m. ⊎_elim inl (λ q. absurd cc) (t.source m)) (λ z. t.swallowed (sym z));
  cancels =
      λ d w x. plain n (entry.Cancel d) (state_of w) _ refl (reads.cancels d (state_of w) x) refl (λ z. absurd cc);
  sets_swallows = λ d r w x h f c.
      let t = sets_swallows_tell n d r (state_of w) h f in
      tells n (entry.Fire d cancelled) (state_of w) _ refl (reads.sets_swallows d r (state_of w) x h f)
      (λ k m. ⊎_elim inl (λ q. inr (subst (λ y. IsFiredByACancel y (w.journal.entries ++ entry.Fire d cancelled ∷ []))
      (fire_is d n q) (fired_so d w c k))) (t.source m)) (λ z. absurd cc);
  fires =
      λ d value r w x h f. plain n (entry.Fire d value) (state_of w) _ refl (reads.fires d value r (state_of w) x h f)
      (set_at marks_of n d r (with_firing value r) w.records h refl) (λ z. absurd cc);
  adds =
      λ d pair r w x h. plain n (entry.Add d) (state_of w) _ refl (reads.adds d pair r (state_of w) x h)
      (set_at marks_of n d r _ w.records h refl) (λ z. absurd cc);
  pauses =
      λ d r w x h. plain n (entry.Pause d) (state_of w) _ refl (reads.pauses d r (state_of w) x h)
      (set_at marks_of n d r _ w.records h refl) (λ z. absurd cc);
  unpauses =
      λ d r w x h p. plain n (entry.Unpause d) (state_of w) _ refl (reads.unpauses d r (state_of w) x h p)
      (set_at marks_of n d r _ w.records h refl) (λ z. absurd cc);
}

settles : (n : ℕ) → Settles (λ w u. Goes n (state_of w) (state_of u))
settles n = record {
  calm = calm _ (still n);
  drops = λ d r pair rest w h e a s.
      let same = set_at marks_of n d r (record r { items = rest }) w.records h refl in
      record {
        goes_on = λ k. record {
          reads = (reads.drops d r pair rest (state_of w) h e).goes_on k.reads;
          source = λ m. k.source (sym same ∙ m);
          law = k.law;
        };
      };
  runs =
      λ d r pair rest w x h e a s.
      plain n (entry.Run d) (state_of w) _ refl (reads.runs d pair r rest (state_of w) x h e)
      (set_at marks_of n d r _ w.records h refl) (λ z. absurd cc);
  hands = λ d c r rest w x h e a s.
      plain n (entry.Hand d c r.value) (state_of w) _ refl (reads.hands d c r rest (state_of w) x h e)
      (changing_at marks_of n c (with_handed r.value) (slice_set w.records d (record r { items = rest; value = Null }))
      (λ y. refl) ∙ set_at marks_of n d r (record r { items = rest; value = Null }) w.records h refl) (λ z. absurd cc);
  sets =
      λ d value r w x h p s. plain n (entry.Set d value) (state_of w) _ refl (reads.sets d value r (state_of w) x h)
      (set_at marks_of n d r (with_result value r) w.records h refl) (λ z. absurd cc);
  waits = λ d e r given w x h i p q s.
      plain n (entry.Wait d e) (state_of w) _ refl (reads.waits d e r given (state_of w) x h i)
      (changing_at marks_of n d (chaining.with_wait e) (changing e (with_item (item.HandOver d)) w.records) (λ y. refl)
      ∙ changing_at marks_of n e (with_item (item.HandOver d)) w.records (λ y. refl)) (λ z. absurd cc);
  takes = λ d e r given w x h i p q s.
      plain n (entry.Take d e given.value) (state_of w) _ refl (reads.takes d e r given (state_of w) x h i q)
      (changing_at marks_of n d (with_result given.value) (changing e chaining.without_value w.records) (λ y. refl)
      ∙ changing_at marks_of n e chaining.without_value w.records (λ y. refl)) (λ z. absurd cc);
  advances =
      λ ticks w x s. plain n (entry.Advance _) (state_of w) _ refl
      (reads.asides (entry.Advance _) (state_of w) refl x) refl (λ q. absurd cc);
}

-- so it is in a run
world_swallows : (n : ℕ) (script : Script) (batches : List Batch) (w : World) → Means script batches w
    → SwallowsAfterACancel n w.journal.entries
world_swallows n script batches w m =
    ((means_keeps (λ w u. Goes n (state_of w) (state_of u)) (settles n) script batches w m).goes_on (record {
      reads = λ d. refl;
      source = λ m. absurd cc;
      law = no_entries (λ told x. x ≡ entry.Swallow n → IsFiredByACancel n told);
    })).law

-- and so its report logs it
pub only_after_a_cancel : OnlyACancelHasOneSwallowed
only_after_a_cancel script report r n = reported (SwallowsAfterACancel n) (world_swallows n) script report r
