-- Where a call stands among all, and that those that wait are found by the times that they are due at.
use Rattle.std.proofs.Common.{◌≡◌, ◌≢◌, ◌⊎◌, ℕ, zero, suc, Bool, true, false, ◌&&◌, cond, if◌then◌else◌, nat_eq, List}
use Rattle.std.proofs.Common.{[], ◌∷◌, ◌++◌, length, Option, Some, None, slice_get, slice_set, refl, sym, ap, ◌∙◌}
use Rattle.std.proofs.Common.{arith, subst, get_or, ⊎_elim, inl, inr, eqb, Result, Ok, Err, OnOk}
use Rattle.std.proofs.lemmas.Bool.Decides.{eqb_tells}
use Rattle.std.proofs.lemmas.Map.Lookups.{exact_unsigned, exact_pairs}
use Rattle.std.proofs.lemmas.Option.{slice_get_past, get_or_from_slice_get}
use Rattle.std.specs.BTreeMap.{is_at}
use Rattle.std.specs.BTreeSet.{BTreeSet, contains}
use Rattle.std.specs.Cmp.{nat_cmp_is}
use Rattle.std.specs.Option.{option_map_or}
use Rattle.std.specs.Ordering.{nat_cmp}
use Rattle.std.specs.declared.cmp.Ordering.{Ordering}
use Rattle.std.specs.declared.cmp.Ordering.TheVariants.{Less, Equal, Greater}
use Rattle.dv_clock.specs.Clock.{by_due, is_waiting, waits_at, IsIndexOf, what_of, what_in, due_in, due_of, with_end}
use Rattle.dv_clock.specs.Clock.{Clock, Joins, Leaves, with_due, moved}
use Rattle.dv_clock.specs.declared.call.Call.{Call}
use Rattle.dv_clock.specs.declared.call.CallState.{CallState}

-- what is put in a place is there
pub placed_there : {X : Type 0} (xs : List X) (i : ℕ) (x y : X) → slice_get xs i ≡ Some x
    → slice_get (slice_set xs i y) i ≡ Some y
placed_there [] i x y h = absurd cc
placed_there (z ∷ zs) zero x y h = refl
placed_there (z ∷ zs) (suc i) x y h = placed_there zs i x y h

-- and what stands elsewhere stays
pub others_stay : {X : Type 0} (xs : List X) (i j : ℕ) (y : X) → j ≢ i → slice_get (slice_set xs i y) j ≡ slice_get xs j
others_stay [] i j y h = refl
others_stay (z ∷ zs) zero zero y h = absurd (h refl)
others_stay (z ∷ zs) zero (suc j) y h = refl
others_stay (z ∷ zs) (suc i) zero y h = refl
others_stay (z ∷ zs) (suc i) (suc j) y h = others_stay zs i j y (λ e. h (ap suc e))

-- what is added stands last
added_last : {X : Type 0} (xs : List X) (y : X) → slice_get (xs ++ y ∷ []) (length xs) ≡ Some y
added_last [] y = refl
added_last (x ∷ xs) y = added_last xs y

-- and what stands elsewhere stays
others_before : {X : Type 0} (xs : List X) (y : X) (j : ℕ) → j ≢ length xs → slice_get (xs ++ y ∷ []) j ≡ slice_get xs j
others_before [] y zero h = absurd (h refl)
others_before [] y (suc j) h = refl
others_before (x ∷ xs) y zero h = refl
others_before (x ∷ xs) y (suc j) h = others_before xs y j (λ e. h (ap suc e))

-- the same time and number have the same place
at_itself : (p q : ℕ × ℕ) → q.0 ≡ p.0 → q.1 ≡ p.1 → Equal ≡ by_due p q
at_itself p q a b = rw (← nat_cmp_is p.0 q.0 Equal (sym a)) (nat_cmp_is p.1 q.1 Equal (sym b))

-- a place is this one, or it has another time or another number
abbrev Places : ℕ × ℕ → ℕ × ℕ → Type 0
Places p q = ((is_at (by_due p) q ≡ true) × (q ≡ p)) ⊎ ((is_at (by_due p) q ≡ false) × (q.0 ≡ p.0 → q.1 ≡ p.1 → ⊥))

places_by : (p q : ℕ × ℕ) (o : Ordering) → by_due p q ≡ o → Places p q
places_by p q Equal h = inl (rw h refl, sym (exact_pairs nat_cmp nat_cmp exact_unsigned exact_unsigned p q h))
places_by p q Less h = inr (rw h refl, λ a b. let e = at_itself p q a b in absurd cc)
places_by p q Greater h = inr (rw h refl, λ a b. let e = at_itself p q a b in absurd cc)

places : (p q : ℕ × ℕ) → Places p q
places p q = places_by p q (by_due p q) refl

-- a call that isn't there doesn't wait for another time either
and_false : (b : Bool) → (b && false) ≡ false
and_false true = refl
and_false false = refl

at_once : (x : ℕ) → (nat_eq x x && true) ≡ true
at_once x = ⊎_elim
    (λ (t : (eqb x x ≡ true) × (x ≡ x)). rw t.0 refl)
    (λ (t : (eqb x x ≡ false) × (x ≢ x)). absurd (t.1 refl))
    (eqb_tells x x)

waits_over : (calls : List Call) (number due : ℕ) (call : Call) → slice_get calls number ≡ Some call
    → is_waiting call.state ≡ false → waits_at (due, number) calls ≡ false
waits_over calls number due call h k = rw (h, k) (and_false (nat_eq call.due due))

-- nor does a call wait for another time than its own
not_at_once : (x y : ℕ) → (y ≡ x → ⊥) → nat_eq x y ≡ false
not_at_once x y h = ⊎_elim
    (λ (t : (eqb x y ≡ true) × (x ≡ y)). absurd (h (sym t.1)))
    (λ (t : (eqb x y ≡ false) × (x ≢ y)). t.0)
    (eqb_tells x y)

waits_elsewhere : (calls : List Call) (number due : ℕ) (call : Call) → slice_get calls number ≡ Some call
    → (due ≡ call.due → ⊥) → waits_at (due, number) calls ≡ false
waits_elsewhere calls number due call h k = rw (h, not_at_once call.due due k) refl

nobody_waits : (calls : List Call) (due : ℕ) → waits_at (due, length calls) calls ≡ false
nobody_waits calls due = rw (slice_get_past calls (length calls) (omega arith)) refl

-- a call that waits no longer leaves the index, and the others stay in it
index_kept : (index : BTreeSet (ℕ × ℕ)) (calls : List Call) (number : ℕ) (call over : Call) (q : ℕ × ℕ)
    → slice_get calls number ≡ Some call → is_waiting over.state ≡ false → IsIndexOf index calls
    → Places (call.due, number) q → cond (is_at (by_due (call.due, number)) q) false (contains by_due index q)
    ≡ waits_at q (slice_set calls number over)
index_kept index calls number call over q h k ok (inl (t, e)) =
    rw (t, e)
    (sym (waits_over (slice_set calls number over) number call.due over (placed_there calls number call over h) k))
index_kept index calls number call over q h k ok (inr (f, ne)) = ⊎_elim
    (λ (t : (eqb q.1 number ≡ true) × (q.1 ≡ number)).
    let was = waits_elsewhere calls number q.0 call h (λ e. ne e t.1) in
    let is = waits_over (slice_set calls number over) number q.0 over (placed_there calls number call over h) k in
    rw (f, ok q, t.1) (was ∙ sym is))
    (λ (t : (eqb q.1 number ≡ false) × (q.1 ≢ number)). rw (f, ok q, others_stay calls number q.1 over t.1) refl)
    (eqb_tells q.1 number)

pub index_without : (index left : BTreeSet (ℕ × ℕ)) (calls : List Call) (number : ℕ) (call over : Call)
    → slice_get calls number ≡ Some call → is_waiting over.state ≡ false → IsIndexOf index calls → ((q : ℕ × ℕ)
    → contains by_due left q ≡ cond (is_at (by_due (call.due, number)) q) false (contains by_due index q))
    → IsIndexOf left (slice_set calls number over)
index_without index left calls number call over h k ok u q =
    u q ∙ index_kept index calls number call over q h k ok (places (call.due, number) q)

-- a call that is added and waits joins the index
index_grown : (index : BTreeSet (ℕ × ℕ)) (calls : List Call) (call : Call) (q : ℕ × ℕ) → is_waiting call.state ≡ true
    → IsIndexOf index calls → Places (call.due, length calls) q
    → cond (is_at (by_due (call.due, length calls)) q) true (contains by_due index q) ≡ waits_at q (calls ++ call ∷ [])
index_grown index calls call q k ok (inl (t, e)) = rw (t, e, added_last calls call, k) (sym (at_once call.due))
index_grown index calls call q k ok (inr (f, ne)) = ⊎_elim
    (λ (t : (eqb q.1 (length calls) ≡ true) × (q.1 ≡ length calls)).
    let is = waits_elsewhere (calls ++ call ∷ []) (length calls) q.0 call (added_last calls call) (λ e. ne e t.1) in
    rw (f, ok q, t.1) (nobody_waits calls q.0 ∙ sym is))
    (λ (t : (eqb q.1 (length calls) ≡ false) × (q.1 ≢ length calls)).
    rw (f, ok q, others_before calls call q.1 t.1) refl)
    (eqb_tells q.1 (length calls))

pub index_with : (index more : BTreeSet (ℕ × ℕ)) (calls : List Call) (call : Call) → is_waiting call.state ≡ true
    → IsIndexOf index calls → ((q : ℕ × ℕ)
    → contains by_due more q ≡ cond (is_at (by_due (call.due, length calls)) q) true (contains by_due index q))
    → IsIndexOf more (calls ++ call ∷ [])
index_with index more calls call k ok u q =
    u q ∙ index_grown index calls call q k ok (places (call.due, length calls) q)

-- a place that joined the index where it wasn't, and leaves it again
pub index_taken_back : (index more less : BTreeSet (ℕ × ℕ)) (p : ℕ × ℕ) → contains by_due index p ≡ false
    → ((q : ℕ × ℕ) → contains by_due more q ≡ cond (is_at (by_due p) q) true (contains by_due index q))
    → ((q : ℕ × ℕ) → contains by_due less q ≡ cond (is_at (by_due p) q) false (contains by_due more q)) → (q : ℕ × ℕ)
    → contains by_due less q ≡ contains by_due index q
index_taken_back index more less p h u v q = v q ∙ taken_back q (places p q) where
  taken_back : (q : ℕ × ℕ) → Places p q
      → cond (is_at (by_due p) q) false (contains by_due more q) ≡ contains by_due index q
  taken_back q (inl (t, e)) = rw (t, e) (sym h)
  taken_back q (inr (f, ne)) = rw (f, u q, f) refl

-- nobody waits under the next number
pub next_is_free : (index : BTreeSet (ℕ × ℕ)) (calls : List Call) (due : ℕ) → IsIndexOf index calls
    → contains by_due index (due, length calls) ≡ false
next_is_free index calls due ok = ok (due, length calls) ∙ nobody_waits calls due

-- the call of a number is found, and waits for its time
pub record WaitsFor (calls : List Call) (number due : ℕ) (call : Call) : Type 0 where
  pub found : slice_get calls number ≡ Some call
  pub time : call.due ≡ due
  pub waits : is_waiting call.state ≡ true

waits_by : (calls : List Call) (number due : ℕ) (call : Call) (w : Bool) → is_waiting call.state ≡ w
    → slice_get calls number ≡ Some call → Some due ≡ (if w then Some call.due else None)
    → WaitsFor calls number due call
waits_by calls number due call true k h e =
    let same : call.due ≡ due = cc in record { found = h; time = same; waits = k }
waits_by calls number due call false k h e = absurd cc

found_by : (calls : List Call) (number due : ℕ) (call : Call) (o : Option Call) → slice_get calls number ≡ o
    → Some due ≡ option_map_or due_in o None → call ≡ get_or calls number call → WaitsFor calls number due call
found_by calls number due call None h e g = absurd cc
found_by calls number due call (Some other) h e g =
    let same : other ≡ call = sym (get_or_from_slice_get calls number other call h) ∙ sym g in
    waits_by calls number due call (is_waiting call.state) refl (h ∙ ap Some same)
    (subst (λ (c : Call). Some due ≡ due_in c) same e)

pub waits_for : (calls : List Call) (number due : ℕ) (call : Call) → Some due ≡ due_of number calls
    → call ≡ get_or calls number call → WaitsFor calls number due call
waits_for calls number due call e g = found_by calls number due call (slice_get calls number) refl e g

-- a call that is due at another time: its place leaves the index, and another joins it
index_of_moved : (index more : BTreeSet (ℕ × ℕ)) (calls : List Call) (number due : ℕ) (call : Call) (q : ℕ × ℕ)
    → slice_get calls number ≡ Some call → is_waiting call.state ≡ true → (due ≡ call.due → ⊥) → IsIndexOf index calls
    → Joins index more (due, number) → Places (call.due, number) q → Places (due, number) q
    → cond (is_at (by_due (call.due, number)) q) false (contains by_due more q)
    ≡ waits_at q (slice_set calls number (record call { due = due }))
index_of_moved index more calls number due call q h k ne ok u (inl (t, e)) r =
    let is = placed_there calls number call (record call { due = due }) h in
    rw (t, e)
    (sym (waits_elsewhere (slice_set calls number (record call { due = due })) number call.due
    (record call { due = due }) is (λ z. ne (sym z))))
index_of_moved index more calls number due call q h k ne ok u (inr (f, other)) (inl (t, e)) =
    let is = placed_there calls number call (record call { due = due }) h in
    rw (f, u q, t, e, is, k) (sym (at_once due))
index_of_moved index more calls number due call q h k ne ok u (inr (f, other)) (inr (g, another)) = ⊎_elim
    (λ (t : (eqb q.1 number ≡ true) × (q.1 ≡ number)).
    let was = waits_elsewhere calls number q.0 call h (λ e. other e t.1) in
    let is = waits_elsewhere (slice_set calls number (record call { due = due })) number q.0 (record call { due = due })
    (placed_there calls number call (record call { due = due }) h) (λ e. another e t.1) in
    rw (f, u q, g, ok q, t.1) (was ∙ sym is))
    (λ (t : (eqb q.1 number ≡ false) × (q.1 ≢ number)).
    rw (f, u q, g, ok q, others_stay calls number q.1 (record call { due = due }) t.1) refl)
    (eqb_tells q.1 number)

pub moved_index : (index more left : BTreeSet (ℕ × ℕ)) (calls : List Call) (number before due : ℕ) (call : Call)
    → WaitsFor calls number before call → (due ≡ before → ⊥) → IsIndexOf index calls
    → Joins index more (due, number) → Leaves more left (before, number)
    → IsIndexOf left (slice_set calls number (record call { due = due }))
moved_index index more left calls number before due call w ne ok u v q =
    subst (λ (d : ℕ). Leaves more left (d, number)) (sym w.time) v q
    ∙ index_of_moved index more calls number due call q w.found w.waits
    (subst (λ (d : ℕ). due ≡ d → ⊥) (sym w.time) ne) ok u (places (call.due, number) q) (places (due, number) q)

pub moved_calls : (calls : List Call) (number before due : ℕ) (call : Call) → WaitsFor calls number before call
    → option_map_or (λ c. with_due number due c calls) (slice_get calls number) calls
    ≡ slice_set calls number (record call { due = due })
moved_calls calls number before due call w = rw (w.found, w.waits) refl

-- what is put where it stands already changes nothing
set_same : {X : Type 0} (xs : List X) (i : ℕ) (x : X) → slice_get xs i ≡ Some x → slice_set xs i x ≡ xs
set_same [] i x h = absurd cc
set_same (z ∷ zs) zero x h = let same : z ≡ x = cc in ap (λ y. y ∷ zs) (sym same)
set_same (z ∷ zs) (suc i) x h = ap (λ ys. z ∷ ys) (set_same zs i x h)

same_by : (c : Clock) (number due : ℕ) (call : Call) (w : Bool) → slice_get c.calls number ≡ Some call
    → Some due ≡ (if w then Some call.due else None)
    → c ≡ record c { calls = if w then slice_set c.calls number (record call { due = due }) else c.calls }
same_by c number due call true h e =
    let same : due ≡ call.due = cc in
    ap (λ (xs : List Call). let k : Clock = record { time = c.time; calls = xs } in k)
    (sym (subst (λ (d : ℕ). slice_set c.calls number (record call { due = d }) ≡ c.calls) (sym same)
    (set_same c.calls number call h)))
same_by c number due call false h e = refl

same_found : (c : Clock) (number due : ℕ) (o : Option Call) → slice_get c.calls number ≡ o
    → Some due ≡ option_map_or due_in o None
    → c ≡ record c { calls = option_map_or (λ call. with_due number due call c.calls) o c.calls }
same_found c number due None h e = refl
same_found c number due (Some call) h e = same_by c number due call (is_waiting call.state) h e

-- a call that is due at its own time changes nothing
pub moved_same : (c : Clock) (number due : ℕ) → Some due ≡ due_of number c.calls → c ≡ moved number due c
moved_same c number due h = same_found c number due (slice_get c.calls number) refl h

pub on_ok : {A E : Type 0} (r : Result A E) (P : Type 0) → P → OnOk r P
on_ok (Ok a) P p = p
on_ok (Err e) P p = tt

-- what is left when it waits no longer
pub ended_index : (index left : BTreeSet (ℕ × ℕ)) (calls : List Call) (number due : ℕ) (call over : Call)
    → WaitsFor calls number due call → is_waiting over.state ≡ false → IsIndexOf index calls
    → Leaves index left (due, number) → IsIndexOf left (slice_set calls number over)
ended_index index left calls number due call over w k ok u =
    index_without index left calls number call over w.found k ok
    (subst (λ (d : ℕ). Leaves index left (d, number)) (sym w.time) u)

pub ended_calls : (calls : List Call) (number due : ℕ) (call : Call) (state : CallState)
    → WaitsFor calls number due call → option_map_or (λ c. with_end number state c calls) (slice_get calls number) calls
    ≡ slice_set calls number (record call { state = state })
ended_calls calls number due call state w = rw (w.found, w.waits) refl

pub ended_what : (calls : List Call) (number due : ℕ) (call : Call) → WaitsFor calls number due call
    → what_of number calls ≡ what_in call.state
ended_what calls number due call w = rw w.found refl
