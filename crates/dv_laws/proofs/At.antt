-- What counts of a Deferred after a change of one, and what holds at each place of a journal after one more entry.
use Rattle.std.proofs.Common.{◌≡◌, ℕ, zero, suc, ◌+◌, ◌≤◌, ◌++◌, Bool, true, false, nat_eq, List, [], ◌∷◌, Option, None}
use Rattle.std.proofs.Common.{Some, refl, sym, ap, subst, ◌∙◌, arith, slice_get, slice_set, cond}
use Rattle.std.proofs.lemmas.Bool.{eqb-true}
use Rattle.dv_journal.specs.declared.entry.Entry.{Entry}
use Rattle.dv_store.specs.Record.{changed, changing}
use Rattle.dv_loop.proofs.Kept.{Kind}
use Rattle.dv_world.specs.World.{Records}
use Rattle.dv_laws.specs.Places.{AtEachPlace, OfEachEntry}
use Rattle.dv_laws.proofs.ReadBackLemmas.{get_set}

-- what counts of what is found, and of n
abbrev pub counted_of : (Kind → ℕ) → Option Kind → ℕ
counted_of f None = 0
counted_of f (Some r) = f r

abbrev pub at : (Kind → ℕ) → ℕ → Records → ℕ
at f n rs = counted_of f (slice_get rs n)

module _ (f : Kind → ℕ) (n : ℕ) where
  -- a record that counts as before, by whether it is that of n
  pub same_at : (b : Bool) (d : ℕ) (r s : Kind) (l : Records) → nat_eq d n ≡ b → slice_get l d ≡ Some r → f s ≡ f r
      → counted_of f (cond b (Some s) (slice_get l n)) ≡ counted_of f (slice_get l n)
  same_at true d r s l e h p = rw (← (eqb-true d n e), h, p) refl
  same_at false d r s l e h p = refl

  -- so where it is set
  pub set_at : (d : ℕ) (r s : Kind) (l : Records) → slice_get l d ≡ Some r → f s ≡ f r
      → at f n (slice_set l d s) ≡ at f n l
  set_at d r s l h p = rw (get_set l d n r s h) (same_at _ d r s l refl h p)

  -- so where there is one
  pub changed_at : (d : ℕ) (g : Kind → Kind) (o : Option Kind) (l : Records) → slice_get l d ≡ o
      → ((r : Kind) → f (g r) ≡ f r) → at f n (changed d g o l) ≡ at f n l
  changed_at d g None l h p = refl
  changed_at d g (Some r) l h p = set_at d r (g r) l h (p r)

  -- so where it is looked for
  pub changing_at : (d : ℕ) (g : Kind → Kind) (l : Records) → ((r : Kind) → f (g r) ≡ f r)
      → at f n (changing d g l) ≡ at f n l
  changing_at d g l p = changed_at d g _ l refl p

  -- a record that counts now, by whether it is that of n
  pub first_by : (b : Bool) (d : ℕ) (r s : Kind) (l : Records) → nat_eq d n ≡ b → slice_get l d ≡ Some r → f r ≡ 0
      → f s ≡ 1 → counted_of f (cond b (Some s) (slice_get l n)) ≡ at f n l + cond b 1 0
  first_by true d r s l e h p q = rw (← (eqb-true d n e), h, p, q) (omega arith)
  first_by false d r s l e h p q = omega arith

  pub first_at : (d : ℕ) (r s : Kind) (l : Records) → slice_get l d ≡ Some r → f r ≡ 0 → f s ≡ 1
      → at f n (slice_set l d s) ≡ at f n l + cond (nat_eq d n) 1 0
  first_at d r s l h p q = rw (get_set l d n r s h) (first_by _ d r s l refl h p q)

  -- a record that counts no more
  pub last_by : (b : Bool) (d : ℕ) (r s : Kind) (l : Records) → nat_eq d n ≡ b → slice_get l d ≡ Some r → f r ≡ 1
      → f s ≡ 0 → counted_of f (cond b (Some s) (slice_get l n)) + cond b 1 0 ≡ at f n l
  last_by true d r s l e h p q = rw (← (eqb-true d n e), h, p, q) (omega arith)
  last_by false d r s l e h p q = omega arith

  pub last_at : (d : ℕ) (r s : Kind) (l : Records) → slice_get l d ≡ Some r → f r ≡ 1 → f s ≡ 0
      → at f n (slice_set l d s) + cond (nat_eq d n) 1 0 ≡ at f n l
  last_at d r s l h p q = rw (get_set l d n r s h) (last_by _ d r s l refl h p q)

  -- a record that may count now
  pub more_by : (b : Bool) (d : ℕ) (r s : Kind) (l : Records) → nat_eq d n ≡ b → slice_get l d ≡ Some r → f s ≤ f r + 1
      → counted_of f (cond b (Some s) (slice_get l n)) ≤ at f n l + cond b 1 0
  more_by true d r s l e h p = rw (← (eqb-true d n e), h) p
  more_by false d r s l e h p = omega arith

  pub more_changed : (d : ℕ) (g : Kind → Kind) (o : Option Kind) (l : Records) → slice_get l d ≡ o
      → ((r : Kind) → f (g r) ≤ f r + 1) → at f n (changed d g o l) ≤ at f n l + cond (nat_eq d n) 1 0
  more_changed d g None l h p = omega arith
  more_changed d g (Some r) l h p = rw (get_set l d n r (g r) h) (more_by _ d r (g r) l refl h (p r))

  pub more_at : (d : ℕ) (g : Kind → Kind) (l : Records) → ((r : Kind) → f (g r) ≤ f r + 1)
      → at f n (changing d g l) ≤ at f n l + cond (nat_eq d n) 1 0
  more_at d g l p = more_changed d g _ l refl p

-- a new record doesn't count
pub push_at : (f : Kind → ℕ) (n : ℕ) (s : Kind) (l : Records) → f s ≡ 0 → at f n (l ++ s ∷ []) ≡ at f n l
push_at f zero s [] h = h
push_at f (suc n) s [] h = refl
push_at f zero s (x ∷ l) h = refl
push_at f (suc n) s (x ∷ l) h = push_at f n s l h

-- where x stands in a list with one more item at its end, it stood before, or it is that item
pub split_last : {X : Type 0} (P : List X → Type 0) (x last : X) (xs before later : List X)
    → ((bs ls : List X) → xs ≡ bs ++ x ∷ ls → P bs) → (x ≡ last → P xs) → xs ++ last ∷ [] ≡ before ++ x ∷ later
    → P before
split_last P x last [] [] later h k q = k cc
split_last P x last [] (b ∷ []) later h k q = absurd cc
split_last P x last [] (b ∷ c ∷ bs) later h k q = absurd cc
split_last P x last (y ∷ xs) [] later h k q = let e : y ≡ x = cc in h [] xs (ap (λ z. z ∷ xs) e)
split_last P x last (y ∷ xs) (b ∷ bs) later h k q =
    let e : y ≡ b = cc in
    let rest : xs ++ last ∷ [] ≡ bs ++ x ∷ later = cc in
    subst (λ z. P (z ∷ bs)) e
    (split_last (λ l. P (y ∷ l)) x last xs bs later (λ cs ls r. h (y ∷ cs) ls (ap (λ l. y ∷ l) r)) k rest)

-- at each place of a longer journal
place_cases : {X : Type 0} (P : List X → Type 0) (last : X) (xs before later : List X)
    → ((bs ls : List X) → xs ≡ bs ++ ls → P bs) → P (xs ++ last ∷ []) → xs ++ last ∷ [] ≡ before ++ later → P before
place_cases P last [] [] later h k q = h [] [] refl
place_cases P last [] (b ∷ []) later h k q = let e : last ≡ b = cc in subst (λ z. P (z ∷ [])) e k
place_cases P last [] (b ∷ c ∷ bs) later h k q = absurd cc
place_cases P last (y ∷ xs) [] later h k q = h [] (y ∷ xs) refl
place_cases P last (y ∷ xs) (b ∷ bs) later h k q =
    let e : y ≡ b = cc in
    let rest : xs ++ last ∷ [] ≡ bs ++ later = cc in
    subst (λ z. P (z ∷ bs)) e
    (place_cases (λ l. P (y ∷ l)) last xs bs later (λ cs ls r. h (y ∷ cs) ls (ap (λ l. y ∷ l) r)) k rest)

pub places_on : (P : List Entry → Type 0) (e : Entry) (entries : List Entry) → AtEachPlace P entries
    → P (entries ++ e ∷ []) → AtEachPlace P (entries ++ e ∷ [])
places_on P e entries h k = record { so_far = λ before later q. place_cases P e entries before later h.so_far k q }

first_place : (P : List Entry → Type 0) (before later : List Entry) → P [] → [] ≡ before ++ later → P before
first_place P [] later k q = k
first_place P (b ∷ bs) later k q = absurd cc

pub no_places : (P : List Entry → Type 0) → P [] → AtEachPlace P []
no_places P k = record { so_far = λ before later q. first_place P before later k q }

-- of each entry of a longer journal
pub entries_on : (P : List Entry → Entry → Type 0) (e : Entry) (entries : List Entry) → OfEachEntry P entries
    → P entries e → OfEachEntry P (entries ++ e ∷ [])
entries_on P e entries h k = record {
  next = λ before x later q. split_last (λ l. P l x) x e entries before later (λ bs ls r. h.next bs x ls r)
      (λ r. subst (λ y. P entries y) (sym r) k) q;
}

first_entry : (P : List Entry → Entry → Type 0) (before : List Entry) (x : Entry) (later : List Entry)
    → [] ≡ before ++ x ∷ later → P before x
first_entry P [] x later q = absurd cc
first_entry P (b ∷ bs) x later q = absurd cc

pub no_entries : (P : List Entry → Entry → Type 0) → OfEachEntry P []
no_entries P = record { next = first_entry P }

-- what counts of one that is set, by whether it is that of n
count_cases : (f : Kind → ℕ) (b : Bool) (s : Kind) (o : Option Kind)
    → counted_of f (cond b (Some s) o) ≡ cond b (f s) (counted_of f o)
count_cases f true s o = refl
count_cases f false s o = refl

pub set_by : (f : Kind → ℕ) (n d : ℕ) (r s : Kind) (l : Records) → slice_get l d ≡ Some r
    → at f n (slice_set l d s) ≡ cond (nat_eq d n) (f s) (at f n l)
set_by f n d r s l h = rw (get_set l d n r s h) (count_cases f (nat_eq d n) s (slice_get l n))

absent_by : (f : Kind → ℕ) (b : Bool) (n d : ℕ) (g : Kind → ℕ) (l : Records) → nat_eq d n ≡ b → slice_get l d ≡ None
    → at f n l ≡ cond b (at g n l) (at f n l)
absent_by f true n d g l e h = rw (← (eqb-true d n e), h) refl
absent_by f false n d g l e h = refl

present_by : (f : Kind → ℕ) (b : Bool) (n d : ℕ) (g : Kind → Kind) (r : Kind) (l : Records) → nat_eq d n ≡ b
    → slice_get l d ≡ Some r → cond b (f (g r)) (at f n l) ≡ cond b (at (λ x. f (g x)) n l) (at f n l)
present_by f true n d g r l e h = rw (← (eqb-true d n e), h) refl
present_by f false n d g r l e h = refl

changed_by : (f : Kind → ℕ) (n d : ℕ) (g : Kind → Kind) (o : Option Kind) (l : Records) → slice_get l d ≡ o
    → at f n (changed d g o l) ≡ cond (nat_eq d n) (at (λ x. f (g x)) n l) (at f n l)
changed_by f n d g None l h = absent_by f _ n d (λ x. f (g x)) l refl h
changed_by f n d g (Some r) l h = set_by f n d r (g r) l h ∙ present_by f _ n d g r l refl h

-- and of one that is changed
pub changing_by : (f : Kind → ℕ) (n d : ℕ) (g : Kind → Kind) (l : Records)
    → at f n (changing d g l) ≡ cond (nat_eq d n) (at (λ x. f (g x)) n l) (at f n l)
changing_by f n d g l = changed_by f n d g _ l refl
