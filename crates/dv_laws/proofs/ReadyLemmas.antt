-- No side of a Deferred is run before that is fired, while it is paused, or while it waits.
use Rattle.std.proofs.Common.{◌≡◌, ℕ, ◌++◌, true, List, [], ◌∷◌, Some, refl, sym, ap, ◌∙◌, slice_get, length}
use Rattle.std.proofs.Common.{option_map}
use Rattle.dv_value.specs.declared.value.Value.{Value}
use Rattle.dv_journal.specs.Told.{change_of, Aside, Runs, Hands}
use Rattle.dv_journal.specs.declared.entry.Entry.{Entry}
use Rattle.dv_journal.specs.declared.entry.Entry.TheVariants as entry
use Rattle.dv_objects.specs.Refusals.{cancelled}
use Rattle.dv_posts.specs.Batches.{Batch}
use Rattle.dv_loop.specs.Meaning.{Means}
use Rattle.dv_loop.proofs.Kept.{Both, Kind}
use Rattle.dv_script.specs.declared.script.Script.{Script}
use Rattle.dv_store.specs.Callbacks as callbacks
use Rattle.dv_world.specs.World.{World, state_of}
use Rattle.dv_laws.specs.Ready.{IsReady, RunsWhereReady, NothingRunsEarly}
use Rattle.dv_laws.proofs.At.{entries_on, no_entries}
use Rattle.dv_laws.proofs.ReadBackLemmas.{Reads, ReadsBack, reads, shown_of, at as shown_at}
use Rattle.dv_laws.proofs.Still.{Still, calm}
use Rattle.dv_laws.proofs.Settles.{Settles, ready_fired, ready_free, ready_unpaused, means_keeps, reported}

-- the journal logs what the records show, and n was ready wherever it used something
record Readied (n : ℕ) (s : Both) : Type 0 where
  reads : ReadsBack s
  law : RunsWhereReady n s.1.entries

record Goes (n : ℕ) (s t : Both) : Type 0 where
  goes_on : Readied n s → Readied n t

-- one more entry, before which n was ready if it uses something
tells : (n : ℕ) (e : Entry) (s t : Both) → t.1.entries ≡ s.1.entries ++ e ∷ [] → Reads s t
    → (ReadsBack s → e ≡ entry.Run n → IsReady n s.1.entries)
    → (ReadsBack s → (m : ℕ) (value : Value) → e ≡ entry.Hand n m value → IsReady n s.1.entries) → Goes n s t
tells n e s t q r f g = record {
  goes_on = λ k. record {
    reads = r.goes_on k.reads;
    law = rw q (record {
      runs = entries_on (λ told x. x ≡ entry.Run n → IsReady n told) e s.1.entries k.law.runs (f k.reads);
      hands =
          entries_on (λ told x. (m : ℕ) (value : Value) → x ≡ entry.Hand n m value
          → IsReady n told) e s.1.entries k.law.hands (g k.reads);
    });
  };
}

-- an entry that uses nothing
plain : (n : ℕ) (e : Entry) (s t : Both) → t.1.entries ≡ s.1.entries ++ e ∷ [] → Reads s t → (e ≡ entry.Run n → ⊥)
    → ((m : ℕ) (value : Value) → e ≡ entry.Hand n m value → ⊥) → Goes n s t
plain n e s t q r f g = tells n e s t q r (λ k z. absurd (f z)) (λ k m value z. absurd (g m value z))

untold : (n : ℕ) (s t : Both) → t.1.entries ≡ s.1.entries → Reads s t → Goes n s t
untold n s t q r = record { goes_on = λ k. record { reads = r.goes_on k.reads; law = rw q k.law } }

not_run : (n : ℕ) (e : Entry) → change_of e ≡ Aside → e ≡ entry.Run n → ⊥
not_run n e a q = let same : Runs n ≡ Aside = ap change_of (sym q) ∙ a in absurd cc

not_handed : (n : ℕ) (e : Entry) → change_of e ≡ Aside → (m : ℕ) (value : Value) → e ≡ entry.Hand n m value → ⊥
not_handed n e a m value q = let same : Hands n m value ≡ Aside = ap change_of (sym q) ∙ a in absurd cc

-- one that is ready is logged as ready
ready_told : (n d : ℕ) (r : Kind) (s : Both) → d ≡ n → slice_get s.0 d ≡ Some r → callbacks.is_ready r ≡ true
    → ReadsBack s → IsReady n s.1.entries
ready_told n d r s q h a k = record {
  shown = shown_of r;
  reads = k n ∙ ap (λ x. shown_at x s.0) (sym q) ∙ ap (option_map shown_of) h;
  fired = ready_fired r a;
  unpaused = ready_unpaused r a;
  free = ready_free r a;
}

run_is : (d n : ℕ) → entry.Run d ≡ entry.Run n → d ≡ n
run_is d n q = cc

hand_is : (d c n m : ℕ) (value other : Value) → entry.Hand d c value ≡ entry.Hand n m other → d ≡ n
hand_is d c n m value other q = cc

-- each entry logs it
still : (n : ℕ) → Still (λ w u. Goes n (state_of w) (state_of u))
still n = record {
  stays = λ w. record { goes_on = λ k. k };
  joins = λ u v w p q. record { goes_on = λ k. q.goes_on (p.goes_on k) };
  stops = λ w. record { goes_on = λ k. k };
  news =
      λ name canceller w x. plain n (entry.New (length w.records) name) (state_of w) _ refl
      (reads.news name canceller (state_of w) x) (λ q. absurd cc) (λ m value q. absurd cc);
  asides =
      λ e change w a c l b x.
      plain n e (state_of w) _ refl (reads.asides e (state_of w) a x) (not_run n e a) (not_handed n e a);
  arranges = λ change w s l b. record { goes_on = λ k. k };
  submits =
      λ d pool work w x. plain n (entry.Job (length w.works) d) (state_of w) _ refl
      (reads.asides (entry.Job (length w.works) d) (state_of w) refl x) (λ q. absurd cc) (λ m value q. absurd cc);
  refuses =
      λ d r w x h p q. plain n (entry.Refuse d) (state_of w) _ refl (reads.refuses d r (state_of w) x h p)
      (λ z. absurd cc) (λ m value z. absurd cc);
  swallows =
      λ d r w x h p. plain n (entry.Swallow d) (state_of w) _ refl (reads.swallows d r (state_of w) x h p)
      (λ z. absurd cc) (λ m value z. absurd cc);
  cancels =
      λ d w x. plain n (entry.Cancel d) (state_of w) _ refl (reads.cancels d (state_of w) x) (λ z. absurd cc)
      (λ m value z. absurd cc);
  sets_swallows =
      λ d r w x h f c. plain n (entry.Fire d cancelled) (state_of w) _ refl (reads.sets_swallows d r (state_of w) x h f)
      (λ z. absurd cc) (λ m value z. absurd cc);
  fires =
      λ d value r w x h f. plain n (entry.Fire d value) (state_of w) _ refl (reads.fires d value r (state_of w) x h f)
      (λ z. absurd cc) (λ m other z. absurd cc);
  adds =
      λ d pair r w x h. plain n (entry.Add d) (state_of w) _ refl (reads.adds d pair r (state_of w) x h)
      (λ z. absurd cc) (λ m value z. absurd cc);
  pauses =
      λ d r w x h. plain n (entry.Pause d) (state_of w) _ refl (reads.pauses d r (state_of w) x h) (λ z. absurd cc)
      (λ m value z. absurd cc);
  unpauses =
      λ d r w x h p. plain n (entry.Unpause d) (state_of w) _ refl (reads.unpauses d r (state_of w) x h p)
      (λ z. absurd cc) (λ m value z. absurd cc);
}

settles : (n : ℕ) → Settles (λ w u. Goes n (state_of w) (state_of u))
settles n = record {
  calm = calm _ (still n);
  drops = λ d r pair rest w h e a s. untold n (state_of w) _ refl (reads.drops d r pair rest (state_of w) h e);
  runs =
      λ d r pair rest w x h e a s.
      tells n (entry.Run d) (state_of w) _ refl (reads.runs d pair r rest (state_of w) x h e)
      (λ k q. ready_told n d r (state_of w) (run_is d n q) h a k) (λ k m value q. absurd cc);
  hands =
      λ d c r rest w x h e a s.
      tells n (entry.Hand d c r.value) (state_of w) _ refl (reads.hands d c r rest (state_of w) x h e)
      (λ k q. absurd cc) (λ k m value q. ready_told n d r (state_of w) (hand_is d c n m r.value value q) h a k);
  sets =
      λ d value r w x h p s. plain n (entry.Set d value) (state_of w) _ refl (reads.sets d value r (state_of w) x h)
      (λ z. absurd cc) (λ m other z. absurd cc);
  waits =
      λ d e r given w x h i p q s. plain n (entry.Wait d e) (state_of w) _ refl
      (reads.waits d e r given (state_of w) x h i) (λ z. absurd cc) (λ m value z. absurd cc);
  takes =
      λ d e r given w x h i p q s. plain n (entry.Take d e given.value) (state_of w) _ refl
      (reads.takes d e r given (state_of w) x h i q) (λ z. absurd cc) (λ m value z. absurd cc);
  advances =
      λ ticks w x s. plain n (entry.Advance _) (state_of w) _ refl (reads.asides (entry.Advance _) (state_of w) refl x)
      (λ q. absurd cc) (λ m value q. absurd cc);
}

world_ready : (n : ℕ) (script : Script) (batches : List Batch) (w : World) → Means script batches w
    → RunsWhereReady n w.journal.entries
world_ready n script batches w m =
    ((means_keeps (λ w u. Goes n (state_of w) (state_of u)) (settles n) script batches w m).goes_on (record {
      reads = λ d. refl;
      law = record {
        runs = no_entries (λ told x. x ≡ entry.Run n → IsReady n told);
        hands = no_entries (λ told x. (m : ℕ) (value : Value) → x ≡ entry.Hand n m value → IsReady n told);
      };
    })).law

-- and so its report logs it
pub nothing_early : NothingRunsEarly
nothing_early script report r n = reported (RunsWhereReady n) (world_ready n) script report r
