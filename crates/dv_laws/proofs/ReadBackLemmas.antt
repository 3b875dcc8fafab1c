-- The journal logs about each Deferred what the world holds.
use Rattle.std.proofs.Common.{◌≡◌, ℕ, zero, suc, ◌++◌, Bool, true, false, nat_eq, List, [], ◌∷◌, Option, None, Some}
use Rattle.std.proofs.Common.{refl, sym, ap, ◌∙◌, slice_get, slice_set, cond, length, option_map}
use Rattle.std.proofs.Math.Dec.{eqb-suc-zero, eqb-zero-suc, eqb-suc-suc}
use Rattle.std.proofs.lemmas.Bool.{eqb-true}
use Rattle.std.proofs.lemmas.List.Sums.{fold-append}
use Rattle.std.proofs.lemmas.Option.{none-some, slice_get-map}
use Rattle.dv_value.specs.declared.value.Value.{Null}
use Rattle.dv_journal.specs.declared.entry.Entry.{Entry}
use Rattle.dv_journal.specs.declared.entry.Entry.TheVariants as entry
use Rattle.dv_journal.specs.Journal.{Written}
use Rattle.dv_script.specs.declared.script.Script.{Script}
use Rattle.dv_store.specs.Chaining as chaining
use Rattle.dv_store.specs.Fire.{with_swallows}
use Rattle.dv_store.specs.Record.{with_item, new_record, changed, changing}
use Rattle.dv_store.specs.declared.record.Item.TheVariants as item
use Rattle.dv_laws.specs.ReadBack.{Shown, with_firing, with_value, with_wait, with_handed, with_pause, without_pause}
use Rattle.dv_laws.specs.ReadBack.{told_at, told, told_by, outcome_shown, read_back, OutcomesAreToldByTheJournal}
use Rattle.dv_posts.specs.Batches.{Batch}
use Rattle.dv_loop.specs.Meaning.{Means}
use Rattle.dv_store.specs.Outcome.{outcome_of}
use Rattle.dv_store.specs.declared.outcome.Outcome.{Outcome}
use Rattle.dv_loop.proofs.Kept.{Both, Kind, Kept, telling_of, every_step}
use Rattle.dv_loop.proofs.Leading.{scripts_mean_what_is_defined}
use Rattle.dv_loop.proofs.Total.{means_keeps}
use Rattle.dv_world.specs.World.{World, Records, state_of}
use Rattle.dv_objects.specs.Refusals.{cancelled}

-- what is found after a record was set
pub get_set : {X : Type 0} (l : List X) (d n : ℕ) (r s : X) → slice_get l d ≡ Some r
    → slice_get (slice_set l d s) n ≡ cond (nat_eq d n) (Some s) (slice_get l n)
get_set [] d n r s h = absurd (none-some r h)
get_set (x ∷ l) zero zero r s h = refl
get_set (x ∷ l) zero (suc n) r s h = rw eqb-zero-suc refl
get_set (x ∷ l) (suc d) zero r s h = rw eqb-suc-zero refl
get_set (x ∷ l) (suc d) (suc n) r s h = rw eqb-suc-suc (get_set l d n r s h)

-- what is shown of a record
abbrev pub shown_of : Kind → Shown
shown_of r = record { name = r.name; fired = r.fired; value = r.value; waits_for = r.waits_for; pauses = r.pauses }

-- what is shown of n
abbrev pub at : ℕ → Records → Option Shown
at n rs = option_map shown_of (slice_get rs n)

-- a record that is set shows its change, by whether it is that of n
set_cases : (b : Bool) (n d : ℕ) (f : Shown → Shown) (r s : Kind) (l : Records) → nat_eq d n ≡ b
    → slice_get l d ≡ Some r → shown_of s ≡ f (shown_of r)
    → option_map shown_of (cond b (Some s) (slice_get l n)) ≡ cond b (option_map f (at n l)) (at n l)
set_cases true n d f r s l e h p = rw (← (eqb-true d n e), h, p) refl
set_cases false n d f r s l e h p = refl

-- so where it is set
set_at : (n d : ℕ) (f : Shown → Shown) (r s : Kind) (l : Records) → slice_get l d ≡ Some r → shown_of s ≡ f (shown_of r)
    → at n (slice_set l d s) ≡ told_at d n f (at n l)
set_at n d f r s l h p = rw (get_set l d n r s h) (set_cases _ n d f r s l refl h p)

-- where there is no record, none is shown to change
none_at : (b : Bool) (n d : ℕ) (f : Shown → Shown) (l : Records) → nat_eq d n ≡ b → slice_get l d ≡ None
    → at n l ≡ cond b (option_map f (at n l)) (at n l)
none_at true n d f l e h = rw (← (eqb-true d n e), h) refl
none_at false n d f l e h = refl

-- a record that is changed shows it, where there is one
changed_at : (n d : ℕ) (g : Kind → Kind) (f : Shown → Shown) (o : Option Kind) (l : Records) → slice_get l d ≡ o
    → ((r : Kind) → shown_of (g r) ≡ f (shown_of r)) → at n (changed d g o l) ≡ told_at d n f (at n l)
changed_at n d g f None l h p = none_at _ n d f l refl h
changed_at n d g f (Some r) l h p = set_at n d f r (g r) l h (p r)

-- so where it is looked for
changing_at : (n d : ℕ) (g : Kind → Kind) (f : Shown → Shown) (l : Records)
    → ((r : Kind) → shown_of (g r) ≡ f (shown_of r)) → at n (changing d g l) ≡ told_at d n f (at n l)
changing_at n d g f l p = changed_at n d g f _ l refl p

-- a change to the same is none
map_same : (s : Option Shown) → option_map (λ p. p) s ≡ s
map_same None = refl
map_same (Some p) = refl

-- nor is it one of n alone
told_same : (b : Bool) (s : Option Shown) → cond b (option_map (λ p. p) s) s ≡ s
told_same true s = map_same s
told_same false s = refl

-- a record that is set to one that shows the same
set_hidden : (n d : ℕ) (r s : Kind) (l : Records) → slice_get l d ≡ Some r → shown_of s ≡ shown_of r
    → at n (slice_set l d s) ≡ at n l
set_hidden n d r s l h p = set_at n d (λ p. p) r s l h p ∙ told_same _ (at n l)

-- a change of what isn't shown
changing_hidden : (n d : ℕ) (g : Kind → Kind) (l : Records) → ((r : Kind) → shown_of (g r) ≡ shown_of r)
    → at n (changing d g l) ≡ at n l
changing_hidden n d g l p = changing_at n d g (λ p. p) l p ∙ told_same _ (at n l)

-- a record that is added is shown under its number
push_at : (n : ℕ) (s : Kind) (l : Records)
    → at n (l ++ s ∷ []) ≡ cond (nat_eq (length l) n) (Some (shown_of s)) (at n l)
push_at zero s [] = refl
push_at (suc n) s [] = rw eqb-zero-suc refl
push_at zero s (x ∷ l) = rw eqb-suc-zero refl
push_at (suc n) s (x ∷ l) = rw eqb-suc-suc (push_at n s l)

-- the journal logs what the records show
abbrev pub ReadsBack : Both → Type 0
ReadsBack s = (n : ℕ) → told_by n s.1.entries ≡ at n s.0

-- if it did before, it does after
pub record Reads (s t : Both) : Type 0 where
  pub goes_on : ReadsBack s → ReadsBack t

-- an entry that logs the change
tells : (e : Entry) (rs : Records) (s : Both) → ((n : ℕ) → at n rs ≡ told n (at n s.0) e) → Reads s (telling_of e rs s)
tells e rs s p = record { goes_on = λ k n. rw (p n, ← (k n)) (fold-append (told n) None s.1.entries (e ∷ [])) }

-- each entry logs its change
pub reads : Kept Reads
reads = record {
  stays = λ s. record { goes_on = λ k. k };
  joins = λ s t u p q. record { goes_on = λ k. q.goes_on (p.goes_on k) };
  drops = λ d r pair rest s h e. record { goes_on = λ k n. k n ∙ sym (set_hidden n d r _ s.0 h refl) };
  news = λ name canceller s x. tells (entry.New (length s.0) name) _ s (λ n. push_at n (new_record name canceller) s.0);
  asides = λ e s a x. tells e _ s (λ n. rw a refl);
  refuses = λ d r s x h f. tells (entry.Refuse d) _ s (λ n. refl);
  swallows = λ d r s x h f. tells (entry.Swallow d) _ s (λ n. set_hidden n d r _ s.0 h refl);
  cancels = λ d s x. tells (entry.Cancel d) _ s (λ n. refl);
  sets_swallows = λ d r s x h f. tells (entry.Fire d cancelled) _ s
      (λ n. changing_hidden n d (with_swallows true) _ (λ y. refl) ∙ set_at n d (with_firing cancelled) r _ s.0 h refl);
  fires = λ d value r s x h f. tells (entry.Fire d value) _ s (λ n. set_at n d (with_firing value) r _ s.0 h refl);
  adds = λ d pair r s x h. tells (entry.Add d) _ s (λ n. set_hidden n d r _ s.0 h refl);
  runs = λ d pair r rest s x h e. tells (entry.Run d) _ s (λ n. set_hidden n d r _ s.0 h refl);
  hands = λ d c r rest s x h e. tells (entry.Hand d c r.value) _ s
      (λ n. changing_at n c _ (with_handed r.value) _ (λ y. refl)
      ∙ ap (told_at c n (with_handed r.value)) (set_at n d (with_value Null) r _ s.0 h refl));
  sets = λ d value r s x h. tells (entry.Set d value) _ s (λ n. set_at n d (with_value value) r _ s.0 h refl);
  waits = λ d e r given s x h g. tells (entry.Wait d e) _ s
      (λ n. changing_at n d _ (with_wait e) _ (λ y. refl)
      ∙ ap (told_at d n (with_wait e)) (changing_hidden n e (with_item (item.HandOver d)) s.0 (λ y. refl)));
  takes = λ d e r given s x h g p. tells (entry.Take d e given.value) _ s
      (λ n. changing_at n d _ (with_value given.value) _ (λ y. refl) ∙ ap (told_at d n (with_value given.value))
      (changing_at n e chaining.without_value (with_value Null) s.0 (λ y. refl)));
  pauses = λ d r s x h. tells (entry.Pause d) _ s (λ n. set_at n d with_pause r _ s.0 h refl);
  unpauses = λ d r s x h p. tells (entry.Unpause d) _ s (λ n. set_at n d without_pause r _ s.0 h refl);
}

-- what is shown results in the outcome
shown_outcome : (o : Option Kind) → option_map outcome_shown (option_map shown_of o) ≡ option_map outcome_of o
shown_outcome None = refl
shown_outcome (Some r) = refl

-- so the journal of a run logs what its world holds
world_told : (script : Script) (batches : List Batch) (w : World) → Means script batches w → (n : ℕ)
    → read_back n w.journal.entries ≡ option_map outcome_of (slice_get w.records n)
world_told script batches w m n =
    let kept = means_keeps (λ w u. Reads (state_of w) (state_of u)) (every_step Reads reads) script batches w m in
    ap (option_map outcome_shown) (kept.goes_on (λ n. refl) n) ∙ shown_outcome (slice_get w.records n)

-- and that of a report its outcomes
pub journal_tells : OutcomesAreToldByTheJournal
journal_tells script report r n =
    ap (λ (j : Written). read_back n j.entries) r.tells.journal
    ∙ world_told script report.batches r.world
    ((scripts_mean_what_is_defined script report.batches r.world).1 r.means) n
    ∙ sym (slice_get-map outcome_of r.world.records n)
    ∙ ap (λ (os : List Outcome). slice_get os n) (sym r.tells.outcomes)
