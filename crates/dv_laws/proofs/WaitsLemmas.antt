-- A Deferred that waits is left alone until it is handed the value that it waits for.
use Rattle.std.proofs.Common.{◌≡◌, ℕ, ◌+◌, ◌-◌, ◌≤◌, ◌++◌, ◌&&◌, ◌||◌, not, is_some, Bool, true, false, nat_eq, List}
use Rattle.std.proofs.Common.{[], ◌∷◌, Option, None, Some, refl, sym, ap, subst, ◌∙◌, arith, slice_get, slice_set, cond}
use Rattle.std.proofs.Common.{length, sum_by}
use Rattle.std.proofs.lemmas.Bool.{eqb-true}
use Rattle.std.proofs.lemmas.List.Sums.{sum_by_push, sum_by-cons}
use Rattle.dv_value.specs.declared.value.Value.{Value, Null}
use Rattle.dv_journal.specs.Told.{Change, change_of, Aside, Makes, Adds, Fires, Swallows, Refuses, Runs, Sets, Takes}
use Rattle.dv_journal.specs.Told.{Waits, Hands, Pauses, Unpauses, Cancels}
use Rattle.dv_journal.specs.declared.entry.Entry.{Entry}
use Rattle.dv_journal.specs.declared.entry.Entry.TheVariants as entry
use Rattle.dv_script.specs.declared.script.Script.{Script}
use Rattle.dv_store.specs.Callbacks as callbacks
use Rattle.dv_store.specs.Callbacks.{with_handed, with_result}
use Rattle.dv_store.specs.Chaining as chaining
use Rattle.dv_store.specs.Fire as firing
use Rattle.dv_store.specs.Record.{with_item, new_record, changing}
use Rattle.dv_store.specs.declared.record.Item.{Item}
use Rattle.dv_store.specs.declared.record.Item.TheVariants as item
use Rattle.dv_objects.specs.Refusals.{cancelled}
use Rattle.dv_objects.specs.Pair.{Pair}
use Rattle.dv_posts.specs.Batches.{Batch}
use Rattle.dv_loop.specs.Meaning.{Means}
use Rattle.dv_loop.proofs.Kept.{Both, Kind, telling_of}
use Rattle.dv_world.specs.World.{World, Records, state_of}
use Rattle.dv_laws.specs.Waits.{waits_of, hands_of, touches_of, waiting, handing, touching, waits, hand_overs, touches}
use Rattle.dv_laws.specs.Waits.{StillWaits, HandsOver, WaitsForItsValue, WaitsEndByAHandOver}
use Rattle.dv_laws.proofs.At.{counted_of, at, set_at, changing_at, push_at, set_by, changing_by, places_on, no_places}
use Rattle.dv_laws.proofs.At.{entries_on, no_entries}
use Rattle.dv_laws.proofs.Still.{Still, calm}
use Rattle.dv_laws.proofs.Settles.{Settles, running_of, ready_fired, ready_free, is_itself, means_keeps}
use Rattle.dv_laws.proofs.Settles.{reported}

-- whether a Deferred waits for m, and whether it waits
abbrev pub awaits_by : ℕ → Option ℕ → ℕ
awaits_by m None = 0
awaits_by m (Some e) = cond (nat_eq e m) 1 0

abbrev pub awaits_of : ℕ → Kind → ℕ
awaits_of m r = awaits_by m r.waits_for

abbrev any_of : Kind → ℕ
any_of r = cond (is_some r.waits_for) 1 0

-- how often it is to hand its value over to n
abbrev pub handover_of : ℕ → Item Pair → ℕ
handover_of n (item.Pair pair) = 0
handover_of n (item.HandOver c) = cond (nat_eq c n) 1 0

abbrev pub handovers_of : ℕ → Kind → ℕ
handovers_of n r = sum_by (handover_of n) r.items

-- it is 0 where only a fired Deferred runs a side or waits, and none does both
abbrev fired_of : Kind → ℕ
fired_of r = cond r.fired 1 0

abbrev odd_of : Kind → ℕ
odd_of r = running_of r + any_of r - fired_of r

-- what the records hold of n is what was logged
pub record Waited (n : ℕ) (s : Both) : Type 0 where
  even : at odd_of n s.0 ≡ 0
  pub items : (m : ℕ) → at (handovers_of n) m s.0 ≡ at (awaits_of m) n s.0
  told : (m : ℕ) → waits n m s.1.entries ≡ hand_overs n m s.1.entries + at (awaits_of m) n s.0
  still : (m : ℕ) → StillWaits n m s.1.entries → at (awaits_of m) n s.0 ≡ 1
  law : (m : ℕ) → WaitsForItsValue n m s.1.entries

-- if it was so before, it is so after
record Goes (n : ℕ) (s t : Both) : Type 0 where
  goes_on : Waited n s → Waited n t

-- how an entry logs what the records then hold
record Tells (n : ℕ) (e : Entry) (rs : Records) (s : Both) : Type 0 where
  even : at odd_of n rs ≡ 0
  moves : (m : ℕ) → waiting n m e + at (awaits_of m) n s.0 ≡ handing n m e + at (awaits_of m) n rs
  items : (m : ℕ) → at (handovers_of n) m rs + handing n m e ≡ at (handovers_of n) m s.0 + waiting n m e
  until : (m : ℕ) → at (awaits_of m) n s.0 ≡ 1 → touching n e ≡ 1 → HandsOver m n e

-- where x stands in a list with one more item at its end, it is that item, or the item stands after it
split_end : {X : Type 0} (Q : Type 0) (x last : X) (xs before later : List X) → xs ++ last ∷ [] ≡ before ++ x ∷ later
    → (last ≡ x → Q) → ((ls : List X) → later ≡ ls ++ last ∷ [] → xs ≡ before ++ x ∷ ls → Q) → Q
split_end Q x last [] [] later q h k = h cc
split_end Q x last [] (b ∷ []) later q h k = absurd cc
split_end Q x last [] (b ∷ c ∷ bs) later q h k = absurd cc
split_end Q x last (y ∷ ys) [] later q h k =
    let e : y ≡ x = cc in
    let rest : ys ++ last ∷ [] ≡ later = cc in
    k ys (sym rest) (ap (λ z. z ∷ ys) e)
split_end Q x last (y ∷ ys) (b ∷ bs) later q h k =
    let e : y ≡ b = cc in
    let rest : ys ++ last ∷ [] ≡ bs ++ x ∷ later = cc in
    split_end Q x last ys bs later rest h (λ ls r z. k ls r (ap (λ c. c ∷ ys) e ∙ ap (λ l. b ∷ l) z))

-- an entry that doesn't touch n is no wait of it, and hands nothing to it
both_by : (a b : Bool) → cond {A = ℕ} a 1 0 ≡ 0 → cond {A = ℕ} (a && b) 1 0 ≡ 0
both_by true b h = absurd (omega (arith, h))
both_by false b h = refl

either_by : (a b c : Bool) → cond {A = ℕ} (a || c) 1 0 ≡ 0 → cond {A = ℕ} (a && b) 1 0 ≡ 0
either_by true b c h = absurd (omega (arith, h))
either_by false b c h = refl

no_wait : (n m : ℕ) (c : Change) → touches_of n c ≡ 0 → waits_of n m c ≡ 0
no_wait n m Aside h = refl
no_wait n m (Makes d name) h = refl
no_wait n m (Adds d) h = refl
no_wait n m (Fires d value) h = refl
no_wait n m (Swallows d) h = refl
no_wait n m (Refuses d) h = refl
no_wait n m (Runs d) h = refl
no_wait n m (Sets d value) h = refl
no_wait n m (Takes d e value) h = refl
no_wait n m (Waits d e) h = both_by (nat_eq d n) (nat_eq e m) h
no_wait n m (Hands e d value) h = refl
no_wait n m (Pauses d) h = refl
no_wait n m (Unpauses d) h = refl
no_wait n m (Cancels d) h = refl

no_hand : (n m : ℕ) (c : Change) → touches_of n c ≡ 0 → hands_of n m c ≡ 0
no_hand n m Aside h = refl
no_hand n m (Makes d name) h = refl
no_hand n m (Adds d) h = refl
no_hand n m (Fires d value) h = refl
no_hand n m (Swallows d) h = refl
no_hand n m (Refuses d) h = refl
no_hand n m (Runs d) h = refl
no_hand n m (Sets d value) h = refl
no_hand n m (Takes d e value) h = refl
no_hand n m (Waits d e) h = refl
no_hand n m (Hands e d value) h = either_by (nat_eq d n) (nat_eq e m) (nat_eq e n) h
no_hand n m (Pauses d) h = refl
no_hand n m (Unpauses d) h = refl
no_hand n m (Cancels d) h = refl

-- a Deferred waits for one at most
cond_once : (b : Bool) → cond b 1 0 ≤ 1
cond_once true = omega arith
cond_once false = omega arith

awaits_any : (m : ℕ) (o : Option ℕ) → awaits_by m o ≤ cond (is_some o) 1 0
awaits_any m None = omega arith
awaits_any m (Some e) = cond_once (nat_eq e m)

any_once : (o : Option ℕ) → cond (is_some o) 1 0 ≤ 1
any_once None = omega arith
any_once (Some e) = omega arith

awaits_once : (m : ℕ) (o : Option Kind) → counted_of (awaits_of m) o ≤ 1
awaits_once m None = omega arith
awaits_once m (Some r) = omega (arith, awaits_any m r.waits_for, any_once r.waits_for)

-- one that waits for d waits for no other
same_by : (b : Bool) (e d m : ℕ) → nat_eq e d ≡ b → 1 ≤ cond b 1 0
    → cond {A = ℕ} (nat_eq e m) 1 0 ≡ cond (nat_eq d m) 1 0
same_by true e d m q h = rw (eqb-true e d q) refl
same_by false e d m q h = absurd (omega (arith, h))

awaits_same : (d m : ℕ) (o : Option ℕ) → 1 ≤ awaits_by d o → awaits_by m o ≡ cond (nat_eq d m) 1 0
awaits_same d m None h = absurd (omega (arith, h))
awaits_same d m (Some e) h = same_by _ e d m refl h

awaits_known : (d m : ℕ) (o : Option Kind) → 1 ≤ counted_of (awaits_of d) o
    → counted_of (awaits_of m) o ≡ cond (nat_eq d m) 1 0
awaits_known d m None h = absurd (omega (arith, h))
awaits_known d m (Some r) h = awaits_same d m r.waits_for h

equal_by : (b : Bool) (d m : ℕ) → nat_eq d m ≡ b → cond {A = ℕ} b 1 0 ≡ 1 → d ≡ m
equal_by true d m q h = eqb-true d m q
equal_by false d m q h = absurd (omega (arith, h))

-- by what was logged n still waits for m after one more entry
waits_told : (n m : ℕ) → waiting n m (entry.Wait n m) ≡ 1
waits_told n m = rw (is_itself n, is_itself m) refl

still_waits : (n m : ℕ) (e : Entry) (rs : Records) (s : Both) → Tells n e rs s → Waited n s
    → StillWaits n m (s.1.entries ++ e ∷ []) → at (awaits_of m) n rs ≡ 1
still_waits n m e rs s t k w =
    split_end (at (awaits_of m) n rs ≡ 1) (entry.Wait n m) e s.1.entries w.before w.since w.waited
    (λ q.
    let one : waiting n m e ≡ 1 = ap (waiting n m) q ∙ waits_told n m in
    let none : handing n m e ≡ 0 = ap (handing n m) q in
    omega (arith, one, none, t.moves m, awaits_once m (slice_get rs n)))
    (λ ls q r.
    let all : touches n ls + touching n e ≡ 0 =
    sym (sum_by_push (touching n) ls e) ∙ ap (touches n) (sym q) ∙ w.untouched in
    let apart : touching n e ≡ 0 = omega (arith, all) in
    let before = k.still m (record { before = w.before; since = ls; waited = r; untouched = omega (arith, all) }) in
    omega (arith, before, t.moves m, no_wait n m (change_of e) apart, no_hand n m (change_of e) apart))

tells : (n : ℕ) (e : Entry) (rs : Records) (s : Both) → (Waited n s → Tells n e rs s) → Goes n s (telling_of e rs s)
tells n e rs s f = record {
  goes_on = λ k.
      let t = f k in
      let told : (m : ℕ)
      → waits n m (s.1.entries ++ e ∷ []) ≡ hand_overs n m (s.1.entries ++ e ∷ []) + at (awaits_of m) n rs =
      λ m. omega
      (arith, sum_by_push (waiting n m) s.1.entries e, sum_by_push (handing n m) s.1.entries e, k.told m, t.moves m) in
      record {
        even = t.even;
        items = λ m. omega (arith, t.items m, k.items m, t.moves m);
        told = told;
        still = λ m w. still_waits n m e rs s t k w;
        law = λ m. record {
          until =
              entries_on (λ told x. StillWaits n m told → touching n x ≡ 1
              → HandsOver m n x) e s.1.entries (k.law m).until (λ w q. t.until m (k.still m w) q);
          once =
              places_on (λ told. hand_overs n m told ≤ waits n m told) e s.1.entries (k.law m).once
              (omega (arith, told m));
        };
      };
}

-- an entry that neither waits nor hands over
quiet : (n : ℕ) (e : Entry) (rs : Records) (s : Both) → ((m : ℕ) → waiting n m e ≡ 0) → ((m : ℕ) → handing n m e ≡ 0)
    → (at odd_of n s.0 ≡ 0 → at odd_of n rs ≡ 0) → ((m : ℕ) → at (awaits_of m) n rs ≡ at (awaits_of m) n s.0)
    → ((m : ℕ) → at (handovers_of n) m rs ≡ at (handovers_of n) m s.0)
    → ((m : ℕ) → at odd_of n s.0 ≡ 0 → at (awaits_of m) n s.0 ≡ 1 → touching n e ≡ 1 → HandsOver m n e)
    → Goes n s (telling_of e rs s)
quiet n e rs s a b o p q u =
    tells n e rs s (λ k. record {
      even = o k.even;
      moves = λ m. omega (arith, a m, b m, p m);
      items = λ m. omega (arith, a m, b m, q m);
      until = λ m x y. u m k.even x y;
    })

-- nor touches n
plain : (n : ℕ) (e : Entry) (rs : Records) (s : Both) → touching n e ≡ 0 → (at odd_of n s.0 ≡ 0 → at odd_of n rs ≡ 0)
    → ((m : ℕ) → at (awaits_of m) n rs ≡ at (awaits_of m) n s.0)
    → ((m : ℕ) → at (handovers_of n) m rs ≡ at (handovers_of n) m s.0) → Goes n s (telling_of e rs s)
plain n e rs s a o p q =
    quiet n e rs s (λ m. no_wait n m (change_of e) a) (λ m. no_hand n m (change_of e) a) o p q
    (λ m x y z. absurd (omega (arith, a, z)))

-- what stays zero
zero_by : (f : Kind → ℕ) (b : Bool) (n d : ℕ) (r s : Kind) (l : Records) → nat_eq d n ≡ b → slice_get l d ≡ Some r
    → (f r ≡ 0 → f s ≡ 0) → at f n l ≡ 0 → cond b (f s) (at f n l) ≡ 0
zero_by f true n d r s l e h p q = p (ap (counted_of f) (sym h) ∙ ap (λ x. at f x l) (eqb-true d n e) ∙ q)
zero_by f false n d r s l e h p q = q

zero_at : (f : Kind → ℕ) (n d : ℕ) (r s : Kind) (l : Records) → slice_get l d ≡ Some r → (f r ≡ 0 → f s ≡ 0)
    → at f n l ≡ 0 → at f n (slice_set l d s) ≡ 0
zero_at f n d r s l h p q = set_by f n d r s l h ∙ zero_by f _ n d r s l refl h p q

zero_found : (f g : Kind → ℕ) (o : Option Kind) → ((r : Kind) → f r ≡ 0 → g r ≡ 0) → counted_of f o ≡ 0
    → counted_of g o ≡ 0
zero_found f g None p q = refl
zero_found f g (Some r) p q = p r q

zero_either : (b : Bool) (x y : ℕ) → x ≡ 0 → y ≡ 0 → cond b x y ≡ 0
zero_either true x y p q = p
zero_either false x y p q = q

zero_changing : (f : Kind → ℕ) (n d : ℕ) (g : Kind → Kind) (l : Records) → ((r : Kind) → f r ≡ 0 → f (g r) ≡ 0)
    → at f n l ≡ 0 → at f n (changing d g l) ≡ 0
zero_changing f n d g l p q =
    changing_by f n d g l ∙ zero_either (nat_eq d n) _ _ (zero_found f (λ x. f (g x)) (slice_get l n) p q) q

-- n isn't touched while it waits, where what touches it finds that it doesn't
apart_by : (b : Bool) (n d m : ℕ) (r : Kind) (l : Records) (Q : Type 0) → nat_eq d n ≡ b → slice_get l d ≡ Some r
    → (odd_of r ≡ 0 → any_of r ≡ 0) → at odd_of n l ≡ 0 → at (awaits_of m) n l ≡ 1 → cond {A = ℕ} b 1 0 ≡ 1 → Q
apart_by true n d m r l Q e h p o a t =
    let even : odd_of r ≡ 0 = ap (counted_of odd_of) (sym h) ∙ ap (λ x. at odd_of x l) (eqb-true d n e) ∙ o in
    let one : awaits_of m r ≡ 1 =
    ap (counted_of (awaits_of m)) (sym h) ∙ ap (λ x. at (awaits_of m) x l) (eqb-true d n e) ∙ a in
    absurd (omega (arith, p even, one, awaits_any m r.waits_for))
apart_by false n d m r l Q e h p o a t = absurd (omega (arith, t))

-- what doesn't wait
unfired_any : (r : Kind) → r.fired ≡ false → odd_of r ≡ 0 → any_of r ≡ 0
unfired_any r f h = let none : fired_of r ≡ 0 = ap {B = ℕ} (λ b. cond b 1 0) f in omega (arith, none, h)

fired_once : (r : Kind) → fired_of r ≤ 1
fired_once r = cond_once r.fired

ran : (r : Kind) → r.running ≡ true → running_of r ≡ 1
ran r p = ap {B = ℕ} (λ b. cond b 1 0) p

running_any : (r : Kind) → r.running ≡ true → odd_of r ≡ 0 → any_of r ≡ 0
running_any r p h = omega (arith, ran r p, fired_once r, h)

ready_any : (r : Kind) → callbacks.is_ready r ≡ true → any_of r ≡ 0
ready_any r a = ap {B = ℕ} (λ o. cond (is_some o) 1 0) (ready_free r a)

pending_parts : (a b c d : Bool) → (a || not b || not c || d) ≡ false → d ≡ false
pending_parts true b c d h = absurd cc
pending_parts false true true d h = h
pending_parts false true false d h = absurd cc
pending_parts false false c d h = absurd cc

given_any : (d e : ℕ) (r : Kind) → chaining.is_pending d e r ≡ false → any_of r ≡ 0
given_any d e r p =
    ap {B = ℕ} (λ b. cond b 1 0) (pending_parts (nat_eq d e) r.fired (nat_eq r.pauses 0) (is_some r.waits_for) p)

-- what a change leaves
handovers_pair : (n : ℕ) (pair : Pair) (r : Kind) → handovers_of n (with_item (item.Pair pair) r) ≡ handovers_of n r
handovers_pair n pair r = omega (arith, sum_by_push (handover_of n) r.items (item.Pair pair))

handovers_more : (n d : ℕ) (r : Kind)
    → handovers_of n (with_item (item.HandOver d) r) ≡ handovers_of n r + cond (nat_eq d n) 1 0
handovers_more n d r = sum_by_push (handover_of n) r.items (item.HandOver d)

handovers_first : (n : ℕ) (r : Kind) (first : Item Pair) (rest : List (Item Pair)) → r.items ≡ first ∷ rest
    → handovers_of n r ≡ handover_of n first + sum_by (handover_of n) rest
handovers_first n r first rest e = ap (λ items. sum_by (handover_of n) items) e ∙ sum_by-cons (handover_of n) first rest

fired_even : (value : Value) (r : Kind) → odd_of r ≡ 0 → odd_of (firing.with_firing value r) ≡ 0
fired_even value r h = omega (arith, h, fired_once r)

handed_even : (value : Value) (r : Kind) → odd_of r ≡ 0 → odd_of (with_handed value r) ≡ 0
handed_even value r h = omega (arith, h)

put_even : (value : Value) (r : Kind) → odd_of r ≡ 0 → odd_of (with_result value r) ≡ 0
put_even value r h = omega (arith, h)

begun_even : (r s : Kind) → callbacks.is_ready r ≡ true → s.fired ≡ r.fired → s.waits_for ≡ r.waits_for → odd_of s ≡ 0
begun_even r s a p q =
    let any : any_of s ≡ 0 = ap {B = ℕ} (λ o. cond (is_some o) 1 0) (q ∙ ready_free r a) in
    let fired : fired_of s ≡ 1 = ap {B = ℕ} (λ b. cond b 1 0) (p ∙ ready_fired r a) in
    omega (arith, any, fired, cond_once s.running)

-- n begins to wait
wait_fired : (r : Kind) → r.running ≡ true → odd_of r ≡ 0 → 1 - fired_of r ≡ 0
wait_fired r p h = omega (arith, ran r p, h)

found_at : (f : Kind → ℕ) (d n : ℕ) (r : Kind) (rs : Records) → nat_eq d n ≡ true → slice_get rs d ≡ Some r
    → at f n rs ≡ f r
found_at f d n r rs e h = ap (λ x. at f x rs) (sym (eqb-true d n e)) ∙ ap (counted_of f) h

wait_even : (b : Bool) (n d e : ℕ) (r : Kind) (rs l : Records) → nat_eq d n ≡ b → slice_get rs d ≡ Some r
    → r.running ≡ true
    → ((f : Kind → ℕ) → ((c : ℕ) (y : Kind) → f (with_item (item.HandOver c) y) ≡ f y) → at f n l ≡ at f n rs)
    → at odd_of n rs ≡ 0
    → cond b (at (λ x. odd_of (chaining.with_wait e x)) n l) (at odd_of n l) ≡ 0
wait_even true n d e r rs l q h p same o =
    let even : odd_of r ≡ 0 = sym (found_at odd_of d n r rs q h) ∙ o in
    same (λ x. odd_of (chaining.with_wait e x)) (λ c y. refl)
    ∙ found_at (λ x. odd_of (chaining.with_wait e x)) d n r rs q h ∙ wait_fired r p even
wait_even false n d e r rs l q h p same o = same odd_of (λ c y. refl) ∙ o

wait_moves : (b : Bool) (n d e m : ℕ) (r : Kind) (rs l : Records) → nat_eq d n ≡ b → slice_get rs d ≡ Some r
    → r.running ≡ true
    → ((f : Kind → ℕ) → ((c : ℕ) (y : Kind) → f (with_item (item.HandOver c) y) ≡ f y) → at f n l ≡ at f n rs)
    → at odd_of n rs ≡ 0
    → cond (b && nat_eq e m) 1 0 + at (awaits_of m) n rs
    ≡ cond b (at (λ x. cond (nat_eq e m) 1 0) n l) (at (awaits_of m) n l)
wait_moves true n d e m r rs l q h p same o =
    let even : odd_of r ≡ 0 = sym (found_at odd_of d n r rs q h) ∙ o in
    let none = running_any r p even in
    let now = same (λ x. cond (nat_eq e m) 1 0) (λ c y. refl) ∙ found_at (λ x. cond (nat_eq e m) 1 0) d n r rs q h in
    omega (arith, now, none, awaits_any m r.waits_for, found_at (awaits_of m) d n r rs q h)
wait_moves false n d e m r rs l q h p same o = omega (arith, same (awaits_of m) (λ c y. refl))

and_cond : (a b : Bool) → cond {A = ℕ} (a && b) 1 0 ≡ cond b (cond a 1 0) 0
and_cond true true = refl
and_cond true false = refl
and_cond false true = refl
and_cond false false = refl

-- a count that is so much more, or less
more_found : (f : Kind → ℕ) (b : Bool) (n d : ℕ) (g : Kind → Kind) (r : Kind) (l : Records) (j : ℕ) → nat_eq d n ≡ b
    → slice_get l d ≡ Some r → f (g r) ≡ f r + j → cond b (at (λ x. f (g x)) n l) (at f n l) ≡ at f n l + cond b j 0
more_found f true n d g r l j e h p = omega (arith, found_at (λ x. f (g x)) d n r l e h, found_at f d n r l e h, p)
more_found f false n d g r l j e h p = omega arith

changing_more : (f : Kind → ℕ) (n d : ℕ) (g : Kind → Kind) (r : Kind) (l : Records) (j : ℕ) → slice_get l d ≡ Some r
    → f (g r) ≡ f r + j → at f n (changing d g l) ≡ at f n l + cond (nat_eq d n) j 0
changing_more f n d g r l j h p = changing_by f n d g l ∙ more_found f _ n d g r l j refl h p

less_found : (f : Kind → ℕ) (b : Bool) (n d : ℕ) (r s : Kind) (l : Records) (j : ℕ) → nat_eq d n ≡ b
    → slice_get l d ≡ Some r → f r ≡ j + f s → cond b (f s) (at f n l) + cond b j 0 ≡ at f n l
less_found f true n d r s l j e h p = omega (arith, found_at f d n r l e h, p)
less_found f false n d r s l j e h p = omega arith

set_less : (f : Kind → ℕ) (n d : ℕ) (r s : Kind) (l : Records) (j : ℕ) → slice_get l d ≡ Some r → f r ≡ j + f s
    → at f n (slice_set l d s) + cond (nat_eq d n) j 0 ≡ at f n l
set_less f n d r s l j h p =
    ap (λ x. x + cond (nat_eq d n) j 0) (set_by f n d r s l h) ∙ less_found f _ n d r s l j refl h p

-- d hands its value to n, which waits for it
handed_wait : (n d : ℕ) (r : Kind) (rest : List (Item Pair)) (w : World) → slice_get w.records d ≡ Some r
    → r.items ≡ item.HandOver n ∷ rest → Waited n (state_of w) → 1 ≤ at (awaits_of d) n w.records
handed_wait n d r rest w h e k =
    let one : cond {A = ℕ} (nat_eq n n) 1 0 ≡ 1 = ap {B = ℕ} (λ b. cond b 1 0) (is_itself n) in
    omega (arith, k.items d, ap (counted_of (handovers_of n)) h, handovers_first n r (item.HandOver n) rest e, one)

hands_to : (c n d : ℕ) (r : Kind) (rest : List (Item Pair)) (w : World) → nat_eq c n ≡ true
    → slice_get w.records d ≡ Some r → r.items ≡ item.HandOver c ∷ rest → Waited n (state_of w)
    → 1 ≤ at (awaits_of d) n w.records
hands_to c n d r rest w q h e k =
    handed_wait n d r rest w h (subst (λ x. r.items ≡ item.HandOver x ∷ rest) (eqb-true c n q) e) k

at_nothing : (o : Option Kind) → counted_of (λ r. 0) o ≡ 0
at_nothing None = refl
at_nothing (Some r) = refl

hand_moves : (b : Bool) (c n d m : ℕ) (r : Kind) (rest : List (Item Pair)) (w : World) (l : Records) → nat_eq c n ≡ b
    → slice_get w.records d ≡ Some r → r.items ≡ item.HandOver c ∷ rest
    → at (awaits_of m) n l ≡ at (awaits_of m) n w.records → Waited n (state_of w)
    → at (awaits_of m) n w.records ≡ cond (b && nat_eq d m) 1 0 + cond b (at (λ x. 0) n l) (at (awaits_of m) n l)
hand_moves true c n d m r rest w l q h e p k = omega (
  arith,
  awaits_known d m (slice_get w.records n) (hands_to c n d r rest w q h e k),
  at_nothing (slice_get l n),
)
hand_moves false c n d m r rest w l q h e p k = omega (arith, p)

-- what hands a value to n, or from it, is from the one for which it waits
hand_until : (b : Bool) (c n d m : ℕ) (r : Kind) (rest : List (Item Pair)) (w : World) → nat_eq c n ≡ b
    → slice_get w.records d ≡ Some r → r.items ≡ item.HandOver c ∷ rest → callbacks.is_ready r ≡ true
    → Waited n (state_of w)
    → at (awaits_of m) n w.records ≡ 1 → cond {A = ℕ} (b || nat_eq d n) 1 0 ≡ 1 → HandsOver m n (entry.Hand d c r.value)
hand_until true c n d m r rest w q h e a k o t =
    let known = awaits_known d m (slice_get w.records n) (hands_to c n d r rest w q h e k) in
    let same : d ≡ m = equal_by _ d m refl (sym known ∙ o) in
    record {
      value = r.value;
      hands = ap (λ x. entry.Hand x c r.value) same ∙ ap (λ x. entry.Hand m x r.value) (eqb-true c n q);
    }
hand_until false c n d m r rest w q h e a k o t = apart_by _ n d m r w.records _ refl h (λ z. ready_any r a) k.even o t

-- what takes a value, or gives it
take_until : (n d e m : ℕ) (r given : Kind) (x : Entry) (rs : Records) → slice_get rs d ≡ Some r
    → slice_get rs e ≡ Some given → r.running ≡ true → chaining.is_pending d e given ≡ false → at odd_of n rs ≡ 0
    → at (awaits_of m) n rs ≡ 1
    → (b c : Bool) → nat_eq d n ≡ b → nat_eq e n ≡ c → cond {A = ℕ} (b || c) 1 0 ≡ 1 → HandsOver m n x
take_until n d e m r given x rs h i p q o a true c s t z = apart_by true n d m r rs _ s h (running_any r p) o a refl
take_until n d e m r given x rs h i p q o a false c s t z =
    apart_by c n e m given rs _ t i (λ y. given_any d e given q) o a z

-- each entry logs it
still : (n : ℕ) → Still (λ w u. Goes n (state_of w) (state_of u))
still n = record {
  stays = λ w. record { goes_on = λ k. k };
  joins = λ u v w p q. record { goes_on = λ k. q.goes_on (p.goes_on k) };
  stops = λ w. record { goes_on = λ k. k };
  news = λ name canceller w x.
      let made = new_record name canceller in
      plain n (entry.New (length w.records) name) _ (state_of w) refl (λ o. push_at odd_of n made w.records refl ∙ o)
      (λ m. push_at (awaits_of m) n made w.records refl) (λ m. push_at (handovers_of n) m made w.records refl);
  asides = λ e change w a c l b x. plain n e _ (state_of w) (rw a refl) (λ o. o) (λ m. refl) (λ m. refl);
  arranges = λ change w s l b. record { goes_on = λ k. k };
  submits =
      λ d pool work w x. plain n (entry.Job (length w.works) d) _ (state_of w) refl (λ o. o) (λ m. refl) (λ m. refl);
  refuses = λ d r w x h p q. plain n (entry.Refuse d) _ (state_of w) refl (λ o. o) (λ m. refl) (λ m. refl);
  swallows = λ d r w x h p.
      plain n (entry.Swallow d) _ (state_of w) refl (zero_at odd_of n d r _ w.records h (λ z. z))
      (λ m. set_at (awaits_of m) n d r _ w.records h refl) (λ m. set_at (handovers_of n) m d r _ w.records h refl);
  cancels = λ d w x. plain n (entry.Cancel d) _ (state_of w) refl (λ o. o) (λ m. refl) (λ m. refl);
  sets_swallows = λ d r w x h f c.
      let fired = firing.with_firing cancelled r in
      let all = slice_set w.records d fired in
      quiet n (entry.Fire d cancelled) _ (state_of w) (λ m. refl) (λ m. refl)
      (λ o. zero_changing odd_of n d (firing.with_swallows true) all (λ y z. z)
      (zero_at odd_of n d r fired w.records h (fired_even cancelled r) o))
      (λ m. changing_at (awaits_of m) n d (firing.with_swallows true) all (λ y. refl)
      ∙ set_at (awaits_of m) n d r fired w.records h refl)
      (λ m. changing_at (handovers_of n) m d (firing.with_swallows true) all (λ y. refl)
      ∙ set_at (handovers_of n) m d r fired w.records h refl)
      (λ m o a t. apart_by _ n d m r w.records _ refl h (unfired_any r f) o a t);
  fires = λ d value r w x h f.
      quiet n (entry.Fire d value) _ (state_of w) (λ m. refl) (λ m. refl)
      (zero_at odd_of n d r _ w.records h (fired_even value r)) (λ m. set_at (awaits_of m) n d r _ w.records h refl)
      (λ m. set_at (handovers_of n) m d r _ w.records h refl)
      (λ m o a t. apart_by _ n d m r w.records _ refl h (unfired_any r f) o a t);
  adds = λ d pair r w x h.
      plain n (entry.Add d) _ (state_of w) refl (zero_at odd_of n d r _ w.records h (λ z. z)) (λ m. set_at (awaits_of m)
      n d r _ w.records h refl) (λ m. set_at (handovers_of n) m d r _ w.records h (handovers_pair n pair r));
  pauses = λ d r w x h.
      plain n (entry.Pause d) _ (state_of w) refl (zero_at odd_of n d r _ w.records h (λ z. z))
      (λ m. set_at (awaits_of m) n d r _ w.records h refl) (λ m. set_at (handovers_of n) m d r _ w.records h refl);
  unpauses = λ d r w x h p.
      plain n (entry.Unpause d) _ (state_of w) refl (zero_at odd_of n d r _ w.records h (λ z. z))
      (λ m. set_at (awaits_of m) n d r _ w.records h refl) (λ m. set_at (handovers_of n) m d r _ w.records h refl);
}

settles : (n : ℕ) → Settles (λ w u. Goes n (state_of w) (state_of u))
settles n = record {
  calm = calm _ (still n);
  drops = λ d r pair rest w h e a s.
      let left : Kind = record r { items = rest } in
      let less : handovers_of n left ≡ handovers_of n r =
      sym (omega (arith, handovers_first n r (item.Pair pair) rest e)) in
      record {
        goes_on = λ k. record {
          even = zero_at odd_of n d r left w.records h (λ z. z) k.even;
          items =
              λ m. set_at (handovers_of n) m d r left w.records h less ∙ k.items m
              ∙ sym (set_at (awaits_of m) n d r left w.records h refl);
          told =
              λ m. k.told m
              ∙ ap (λ x. hand_overs n m w.journal.entries + x) (sym (set_at (awaits_of m) n d r left w.records h refl));
          still = λ m z. set_at (awaits_of m) n d r left w.records h refl ∙ k.still m z;
          law = k.law;
        };
      };
  runs = λ d r pair rest w x h e a s.
      let begun : Kind = record r { items = rest; running = true } in
      quiet n (entry.Run d) _ (state_of w) (λ m. refl) (λ m. refl) (zero_at odd_of n d r begun w.records h
      (λ z. begun_even r begun a refl refl)) (λ m. set_at (awaits_of m) n d r begun w.records h refl)
      (λ m. set_at (handovers_of n) m d r begun w.records h
      (sym (omega (arith, handovers_first n r (item.Pair pair) rest e))))
      (λ m o z t. apart_by _ n d m r w.records _ refl h (λ y. ready_any r a) o z t);
  hands = λ d c r rest w x h e a s.
      let taken : Kind = record r { items = rest; value = Null } in
      let left = slice_set w.records d taken in
      tells n (entry.Hand d c r.value) _ (state_of w) (λ k. record {
        even =
            zero_changing odd_of n c (with_handed r.value) left (λ y z. handed_even r.value y z)
            (zero_at odd_of n d r taken w.records h (λ z. z) k.even);
        moves = λ m. omega (
          arith,
          changing_by (awaits_of m) n c (with_handed r.value) left,
          hand_moves _ c n d m r rest w left refl h e (set_at (awaits_of m) n d r taken w.records h refl) k,
        );
        items = λ m.
            omega (
              arith,
              changing_at (handovers_of n) m c (with_handed r.value) left (λ y. refl),
              set_less (handovers_of n) m d r taken w.records (cond (nat_eq c n) 1 0) h
                  (handovers_first n r (item.HandOver c) rest e),
              and_cond (nat_eq c n) (nat_eq d m),
            );
        until = λ m o t. hand_until _ c n d m r rest w refl h e a k o t;
      });
  sets = λ d value r w x h p s.
      quiet n (entry.Set d value) _ (state_of w) (λ m. refl) (λ m. refl)
      (zero_at odd_of n d r _ w.records h (put_even value r)) (λ m. set_at (awaits_of m) n d r _ w.records h refl)
      (λ m. set_at (handovers_of n) m d r _ w.records h refl)
      (λ m o a t. apart_by _ n d m r w.records _ refl h (running_any r p) o a t);
  waits = λ d e r given w x h i p q s.
      let first = changing e (with_item (item.HandOver d)) w.records in
      let same : (f : Kind → ℕ) → ((c : ℕ) (y : Kind) → f (with_item (item.HandOver c) y) ≡ f y)
      → at f n first ≡ at f n w.records = λ f z. changing_at f n e (with_item (item.HandOver d)) w.records (z d) in
      tells n (entry.Wait d e) _ (state_of w) (λ k. record {
        even =
            changing_by odd_of n d (chaining.with_wait e) first
            ∙ wait_even _ n d e r w.records first refl h p same k.even;
        moves = λ m. omega (
          arith,
          changing_by (awaits_of m) n d (chaining.with_wait e) first,
          wait_moves _ n d e m r w.records first refl h p same k.even,
        );
        items = λ m.
            omega (
              arith,
              changing_at (handovers_of n) m d (chaining.with_wait e) first (λ y. refl),
              changing_more (handovers_of n) m e (with_item (item.HandOver d)) given w.records (cond (nat_eq d n) 1 0) i
                  (handovers_more n d given),
              and_cond (nat_eq d n) (nat_eq e m),
            );
        until = λ m o t. apart_by _ n d m r w.records _ refl h (running_any r p) k.even o t;
      });
  takes = λ d e r given w x h i p q s.
      let first = changing e chaining.without_value w.records in
      quiet n (entry.Take d e given.value) _ (state_of w) (λ m. refl) (λ m. refl)
      (λ o. zero_changing odd_of n d (with_result given.value) first (λ y z. put_even given.value y z)
      (zero_changing odd_of n e chaining.without_value w.records (λ y z. z) o))
      (λ m. changing_at (awaits_of m) n d (with_result given.value) first (λ y. refl)
      ∙ changing_at (awaits_of m) n e chaining.without_value w.records (λ y. refl))
      (λ m. changing_at (handovers_of n) m d (with_result given.value) first (λ y. refl)
      ∙ changing_at (handovers_of n) m e chaining.without_value w.records (λ y. refl))
      (λ m o a t. take_until n d e m r given (entry.Take d e given.value) w.records h i p q o a _ _ refl refl t);
  advances = λ ticks w x s. plain n (entry.Advance _) _ (state_of w) refl (λ o. o) (λ m. refl) (λ m. refl);
}

-- so it is in a run
nowhere : (n m : ℕ) (Q : Type 0) → StillWaits n m [] → Q
nowhere n m Q w = nowhere_in (entry.Wait n m) w.before w.since Q w.waited
  where
    nowhere_in : (e : Entry) (before since : List Entry) (Q : Type 0) → [] ≡ before ++ e ∷ since → Q
    nowhere_in e [] since Q q = absurd cc
    nowhere_in e (b ∷ bs) since Q q = absurd cc

pub world_waited : (n : ℕ) (script : Script) (batches : List Batch) (w : World) → Means script batches w
    → Waited n (state_of w)
world_waited n script batches w z =
    (means_keeps (λ w u. Goes n (state_of w) (state_of u)) (settles n) script batches w z).goes_on (record {
      even = refl;
      items = λ m. refl;
      told = λ m. refl;
      still = λ m h. nowhere n m _ h;
      law = λ m. record {
        until = no_entries (λ told x. StillWaits n m told → touching n x ≡ 1 → HandsOver m n x);
        once = no_places (λ told. hand_overs n m told ≤ waits n m told) (omega arith);
      };
    })

world_waits : (n m : ℕ) (script : Script) (batches : List Batch) (w : World) → Means script batches w
    → WaitsForItsValue n m w.journal.entries
world_waits n m script batches w z = (world_waited n script batches w z).law m

-- and so its report logs it
pub waits_end : WaitsEndByAHandOver
waits_end script report r n m = reported (WaitsForItsValue n m) (world_waits n m) script report r
