-- A Deferred hands its value over in the order in which others began to wait for it.
use Rattle.std.proofs.Common.{◌≡◌, ℕ, zero, suc, ◌++◌, Bool, true, false, nat_eq, List, [], ◌∷◌, Option, None, Some}
use Rattle.std.proofs.Common.{refl, sym, ap, ◌∙◌, append_assoc, slice_get, slice_set, cond, length}
use Rattle.std.specs.List.{flat_map}
use Rattle.std.proofs.lemmas.Bool.{eqb-true}
use Rattle.std.proofs.lemmas.Grind.{flat_map-append}
use Rattle.std.proofs.lemmas.List.{append-nil, flat_map_more}
use Rattle.dv_value.specs.declared.value.Value.{Null}
use Rattle.dv_journal.specs.declared.entry.Entry.{Entry}
use Rattle.dv_journal.specs.declared.entry.Entry.TheVariants as entry
use Rattle.dv_script.specs.declared.script.Script.{Script}
use Rattle.dv_store.specs.Callbacks.{with_handed, with_result}
use Rattle.dv_store.specs.Chaining as chaining
use Rattle.dv_store.specs.Fire.{with_firing, with_swallows}
use Rattle.dv_store.specs.Record.{with_item, new_record, changed, changing}
use Rattle.dv_store.specs.declared.record.Item.{Item}
use Rattle.dv_store.specs.declared.record.Item.TheVariants as item
use Rattle.dv_objects.specs.Refusals.{cancelled}
use Rattle.dv_objects.specs.Pair.{Pair}
use Rattle.dv_posts.specs.Batches.{Batch}
use Rattle.dv_loop.specs.Meaning.{Means}
use Rattle.dv_loop.proofs.Kept.{Both, Kind, Kept, telling_of, every_step}
use Rattle.dv_loop.proofs.Total.{means_keeps}
use Rattle.dv_world.specs.World.{World, Records, state_of}
use Rattle.dv_laws.specs.HandOvers.{waits_in, waiters, receives_in, receivers, HandsOverInTurn}
use Rattle.dv_laws.specs.HandOvers.{ValuesAreHandedOverInTurn}
use Rattle.dv_laws.specs.Places.{AtEachPlace}
use Rattle.dv_laws.proofs.At.{places_on, no_places}
use Rattle.dv_laws.proofs.ReadBackLemmas.{get_set}
use Rattle.dv_laws.proofs.Settles.{reported}

-- to whom a Deferred is to hand its value over, in order
abbrev pub to_of : Item Pair → List ℕ
to_of (item.Pair pair) = []
to_of (item.HandOver c) = c ∷ []

abbrev pub owed_of : Kind → List ℕ
owed_of r = flat_map to_of r.items

abbrev pub owed_in : Option Kind → List ℕ
owed_in None = []
owed_in (Some r) = owed_of r

abbrev pub owed_at : ℕ → Records → List ℕ
owed_at n rs = owed_in (slice_get rs n)

module _ (n : ℕ) where
  -- a record that is set, by whether it is that of n
  set_cases : (b : Bool) (s : Kind) (o : Option Kind) → owed_in (cond b (Some s) o) ≡ cond b (owed_of s) (owed_in o)
  set_cases true s o = refl
  set_cases false s o = refl

  set_by : (d : ℕ) (r s : Kind) (l : Records) → slice_get l d ≡ Some r
      → owed_at n (slice_set l d s) ≡ cond (nat_eq d n) (owed_of s) (owed_at n l)
  set_by d r s l h = rw (get_set l d n r s h) (set_cases (nat_eq d n) s (slice_get l n))

  -- one that owes the same
  same_cases : (b : Bool) (d : ℕ) (r s : Kind) (l : Records) → nat_eq d n ≡ b → slice_get l d ≡ Some r
      → owed_of s ≡ owed_of r → cond b (owed_of s) (owed_at n l) ≡ owed_at n l
  same_cases true d r s l e h p = rw (← (eqb-true d n e), h) p
  same_cases false d r s l e h p = refl

  set_same : (d : ℕ) (r s : Kind) (l : Records) → slice_get l d ≡ Some r → owed_of s ≡ owed_of r
      → owed_at n (slice_set l d s) ≡ owed_at n l
  set_same d r s l h p = set_by d r s l h ∙ same_cases _ d r s l refl h p

  changed_same : (d : ℕ) (g : Kind → Kind) (o : Option Kind) (l : Records) → slice_get l d ≡ o
      → ((r : Kind) → owed_of (g r) ≡ owed_of r) → owed_at n (changed d g o l) ≡ owed_at n l
  changed_same d g None l h p = refl
  changed_same d g (Some r) l h p = set_same d r (g r) l h (p r)

  changing_same : (d : ℕ) (g : Kind → Kind) (l : Records) → ((r : Kind) → owed_of (g r) ≡ owed_of r)
      → owed_at n (changing d g l) ≡ owed_at n l
  changing_same d g l p = changed_same d g _ l refl p

  -- one that owes its value to one more, and one that has handed it over to the first
  more_cases : (b : Bool) (d e : ℕ) (r : Kind) (l : Records) → nat_eq e n ≡ b → slice_get l e ≡ Some r
      → cond b (owed_of (with_item (item.HandOver d) r)) (owed_at n l) ≡ owed_at n l ++ cond b (d ∷ []) []
  more_cases true d e r l p h = rw (← (eqb-true e n p), h) (flat_map-append to_of r.items (item.HandOver d ∷ []))
  more_cases false d e r l p h = sym (append-nil (owed_at n l))

  more_at : (d e : ℕ) (o : Option Kind) (r : Kind) (l : Records) → o ≡ Some r → slice_get l e ≡ o
      → owed_at n (changed e (with_item (item.HandOver d)) o l) ≡ owed_at n l ++ cond (nat_eq e n) (d ∷ []) []
  more_at d e None r l p h = absurd cc
  more_at d e (Some s) r l p h = set_by e s (with_item (item.HandOver d) s) l h ∙ more_cases _ d e s l refl h

  first_cases : (b : Bool) (d c : ℕ) (r : Kind) (rest : List (Item Pair)) (l : Records) → nat_eq d n ≡ b
      → slice_get l d ≡ Some r → r.items ≡ item.HandOver c ∷ rest
      → cond b (c ∷ []) [] ++ cond b (flat_map to_of rest) (owed_at n l) ≡ owed_at n l
  first_cases true d c r rest l p h e = rw (← (eqb-true d n p), h) (sym (ap (λ items. flat_map to_of items) e))
  first_cases false d c r rest l p h e = refl

-- a new record owes nothing
push_same : (n : ℕ) (s : Kind) (l : Records) → owed_of s ≡ [] → owed_at n (l ++ s ∷ []) ≡ owed_at n l
push_same zero s [] h = h
push_same (suc n) s [] h = refl
push_same zero s (x ∷ l) h = refl
push_same (suc n) s (x ∷ l) h = push_same n s l h

-- those that m handed its value over to, and those that it is to hand it over to, are those that began to wait for it
record InTurn (m : ℕ) (s : Both) : Type 0 where
  in_turn : waiters m s.1.entries ≡ receivers m s.1.entries ++ owed_at m s.0
  law : AtEachPlace (HandsOverInTurn m) s.1.entries

-- if it was so before, it is so after
record Goes (m : ℕ) (s t : Both) : Type 0 where
  goes_on : InTurn m s → InTurn m t

push : (f : Entry → List ℕ) (e : Entry) (entries : List Entry)
    → flat_map f (entries ++ e ∷ []) ≡ flat_map f entries ++ f e
push f e entries = sym (flat_map_more f [] entries e)

joined : (waited received owed wait receive after : List ℕ) → waited ≡ received ++ owed
    → receive ++ after ≡ owed ++ wait → waited ++ wait ≡ (received ++ receive) ++ after
joined waited received owed wait receive after p q =
    ap (λ l. l ++ wait) p ∙ append_assoc received owed wait ∙ ap (λ l. received ++ l) (sym q)
    ∙ sym (append_assoc received receive after)

-- an entry that logs what the records then owe
tells : (m : ℕ) (e : Entry) (rs : Records) (s : Both) → receives_in m e ++ owed_at m rs ≡ owed_at m s.0 ++ waits_in m e
    → Goes m s (telling_of e rs s)
tells m e rs s p = record {
  goes_on = λ k.
      let now : waiters m (s.1.entries ++ e ∷ []) ≡ receivers m (s.1.entries ++ e ∷ []) ++ owed_at m rs =
      push (waits_in m) e s.1.entries
      ∙ joined (waiters m s.1.entries) (receivers m s.1.entries) (owed_at m s.0) (waits_in m e) (receives_in m e)
      (owed_at m rs) k.in_turn p
      ∙ ap (λ l. l ++ owed_at m rs) (sym (push (receives_in m) e s.1.entries)) in
      record {
        in_turn = now;
        law = places_on (HandsOverInTurn m) e s.1.entries k.law (record { waiting = owed_at m rs; in_turn = now });
      };
}

-- an entry by which nobody begins to wait for m or is handed its value
plain : (m : ℕ) (e : Entry) (rs : Records) (s : Both) → receives_in m e ≡ [] → waits_in m e ≡ []
    → owed_at m rs ≡ owed_at m s.0 → Goes m s (telling_of e rs s)
plain m e rs s a b p =
    tells m e rs s
    (ap (λ l. l ++ owed_at m rs) a ∙ p ∙ sym (append-nil (owed_at m s.0)) ∙ ap (λ l. owed_at m s.0 ++ l) (sym b))

-- a pair more, and a pair less, owes no more and no less
pair_more : (pair : Pair) (r : Kind) → owed_of (with_item (item.Pair pair) r) ≡ owed_of r
pair_more pair r = flat_map-append to_of r.items (item.Pair pair ∷ []) ∙ append-nil (owed_of r)

pair_less : (pair : Pair) (r : Kind) (rest : List (Item Pair)) → r.items ≡ item.Pair pair ∷ rest
    → flat_map to_of rest ≡ owed_of r
pair_less pair r rest e = sym (ap (λ items. flat_map to_of items) e)

-- each entry logs it
turns : (m : ℕ) → Kept (Goes m)
turns m = record {
  stays = λ s. record { goes_on = λ k. k };
  joins = λ s t u p q. record { goes_on = λ k. q.goes_on (p.goes_on k) };
  drops = λ d r pair rest s h e.
      let same = set_same m d r (record r { items = rest }) s.0 h (pair_less pair r rest e) in
      record {
        goes_on = λ k. record { in_turn = k.in_turn ∙ ap (λ l. receivers m s.1.entries ++ l) (sym same); law = k.law };
      };
  news =
      λ name canceller s x.
      plain m (entry.New (length s.0) name) _ s refl refl (push_same m (new_record name canceller) s.0 refl);
  asides = λ e s a x. plain m e _ s (rw a refl) (rw a refl) refl;
  refuses = λ d r s x h f. plain m (entry.Refuse d) _ s refl refl refl;
  swallows = λ d r s x h f. plain m (entry.Swallow d) _ s refl refl (set_same m d r (with_swallows false r) s.0 h refl);
  cancels = λ d s x. plain m (entry.Cancel d) _ s refl refl refl;
  sets_swallows = λ d r s x h f.
      plain m (entry.Fire d cancelled) _ s refl refl (changing_same m d (with_swallows true)
      (slice_set s.0 d (with_firing cancelled r)) (λ y. refl) ∙ set_same m d r (with_firing cancelled r) s.0 h refl);
  fires =
      λ d value r s x h f. plain m (entry.Fire d value) _ s refl refl (set_same m d r (with_firing value r) s.0 h refl);
  adds =
      λ d pair r s x h.
      plain m (entry.Add d) _ s refl refl (set_same m d r (with_item (item.Pair pair) r) s.0 h (pair_more pair r));
  runs =
      λ d pair r rest s x h e. plain m (entry.Run d) _ s refl refl
      (set_same m d r (record r { items = rest; running = true }) s.0 h (pair_less pair r rest e));
  hands = λ d c r rest s x h e.
      let left : Kind = record r { items = rest; value = Null } in
      tells m (entry.Hand d c r.value) _ s (
      ap (λ l. receives_in m (entry.Hand d c r.value) ++ l)
      (changing_same m c (with_handed r.value) (slice_set s.0 d left) (λ y. refl) ∙ set_by m d r left s.0 h)
      ∙ first_cases m (nat_eq d m) d c r rest s.0 refl h e
      ∙ sym (append-nil (owed_at m s.0))
      );
  sets = λ d value r s x h. plain m (entry.Set d value) _ s refl refl (set_same m d r (with_result value r) s.0 h refl);
  waits = λ d e r given s x h g.
      let first = changing e (with_item (item.HandOver d)) s.0 in
      tells m (entry.Wait d e) _ s (changing_same m d (chaining.with_wait e) first (λ y. refl)
      ∙ more_at m d e (slice_get s.0 e) given s.0 g refl);
  takes = λ d e r given s x h g p.
      let first = changing e chaining.without_value s.0 in
      plain m (entry.Take d e given.value) _ s refl refl (changing_same m d (with_result given.value) first (λ y. refl)
      ∙ changing_same m e chaining.without_value s.0 (λ y. refl));
  pauses = λ d r s x h. plain m (entry.Pause d) _ s refl refl (set_same m d r _ s.0 h refl);
  unpauses = λ d r s x h p. plain m (entry.Unpause d) _ s refl refl (set_same m d r _ s.0 h refl);
}

-- so it is in a run
world_turns : (m : ℕ) (script : Script) (batches : List Batch) (w : World) → Means script batches w
    → InTurn m (state_of w)
world_turns m script batches w means =
    (means_keeps (λ w u. Goes m (state_of w) (state_of u))
    (every_step (Goes m) (turns m)) script batches w means).goes_on
    (record { in_turn = refl; law = no_places (HandsOverInTurn m) (record { waiting = []; in_turn = refl }) })

pub world_in_turn : (m : ℕ) (script : Script) (batches : List Batch) (w : World) → Means script batches w
    → waiters m w.journal.entries ≡ receivers m w.journal.entries ++ owed_at m w.records
world_in_turn m script batches w means = (world_turns m script batches w means).in_turn

-- and so its report logs it
pub handed_in_turn : ValuesAreHandedOverInTurn
handed_in_turn script report r m =
    reported (AtEachPlace (HandsOverInTurn m))
    (λ script batches w means. (world_turns m script batches w means).law) script report r
