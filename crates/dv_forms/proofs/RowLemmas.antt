-- A row of a table whose forms are apart is the first for its word and its number of arguments.
use Rattle.std.proofs.Common.{◌≡◌, ◌≤◌, ◌<◌, ℕ, zero, suc, nat_eq, nat_le, Bool, true, false, not, ◌&&◌, List, [], ◌∷◌, ◌++◌}
use Rattle.std.proofs.Common.{length, map, slice_index_or, Some, None, if◌then◌else◌, bytes_eq, refl, sym, ◌∙◌, inl, inr, arith}
use Rattle.std.proofs.lemmas.Bool.{and_parts, eqb-true, cases_Bool, le-leb}
use Rattle.std.proofs.Math.Bool.{or-true}
use Rattle.std.proofs.lemmas.Slice.Eq.{bytes_eq-Decides}
use Rattle.dv_forms.specs.declared.want.Want.{Want}
use Rattle.dv_forms.specs.Words.{Form, apart, has_word, is_for, some_for, wants_in}

same_for : (word : List ℕ) (given : ℕ) (a b : Form) → is_for word given a ≡ true → is_for word given b ≡ true
    → is_for a.word (length a.wants) b ≡ true
same_for word given a b h k =
    let p = and_parts (bytes_eq a.word word) (nat_eq (length a.wants) given) h in
    rw ((bytes_eq-Decides a.word word).0 p.0, eqb-true (length a.wants) given p.1) k

module _ {X : Type 0} (f : X → Form) where
  one_for : (xs : List X) (i : ℕ) (x : X) (word : List ℕ) (given : ℕ) → i < length xs → x ≡ slice_index_or xs i x
      → is_for word given (f x) ≡ true → some_for word given (map f xs) ≡ true
  one_for [] i x word given short is h = absurd (omega (arith, short))
  one_for (y ∷ ys) zero x word given short is h = rw (← is, h) refl
  one_for (y ∷ ys) (suc i) x word given short is h =
      rw (one_for ys i x word given (omega (arith, short)) is h) (or-true (is_for word given (f y)))

  -- the arguments of a row are those of the first form for its word with so many
  pub row_wants : (xs : List X) (i : ℕ) (x : X) (word : List ℕ) (given : ℕ) → apart (map f xs) ≡ true → i < length xs
      → x ≡ slice_index_or xs i x → is_for word given (f x) ≡ true
      → wants_in (map f xs) word given ≡ Some (f x).wants
  row_wants [] i x word given all short is h = absurd (omega (arith, short))
  row_wants (y ∷ ys) zero x word given all short is h = rw (← is, h) refl
  row_wants (y ∷ ys) (suc i) x word given all short is h =
      let parts = and_parts (not (some_for (f y).word (length (f y).wants) (map f ys))) (apart (map f ys)) all in
      elim (cases_Bool (is_for word given (f y))) [
        | inl g ↦
            let other : some_for (f y).word (length (f y).wants) (map f ys) ≡ true = one_for ys i x (f y).word
            (length (f y).wants) (omega (arith, short)) is (same_for word given (f y) (f x) g h) in
            absurd (let no = parts.0 in cc)
        | inr g ↦ rw g (row_wants ys i x word given parts.1 (omega (arith, short)) is h)
      ]

  -- the word of a row is one of the table, from the row's version on
  pub row_stands : (xs : List X) (i : ℕ) (x : X) (word : List ℕ) (version : ℕ) → i < length xs
      → x ≡ slice_index_or xs i x → bytes_eq (f x).word word ≡ true → (f x).since ≤ version
      → has_word (map f xs) word version ≡ true
  row_stands [] i x word version short is h late = absurd (omega (arith, short))
  row_stands (y ∷ ys) zero x word version short is h late = rw (← is, h, le-leb (f x).since version late) refl
  row_stands (y ∷ ys) (suc i) x word version short is h late =
      rw (row_stands ys i x word version (omega (arith, short)) is h late)
      (or-true (bytes_eq (f y).word word && nat_le (f y).since version))

passed_by : {X : Type 0} (b : Bool) (x y : X) → b ≡ false → (if b then x else y) ≡ y
passed_by b x y h = rw h refl

-- a table that has arguments for a word has a form for it
some_there : (forms : List Form) (word : List ℕ) (given : ℕ) (wants : List Want)
    → wants_in forms word given ≡ Some wants → some_for word given forms ≡ true
some_there [] word given wants is = absurd (let no = is in cc)
some_there (form ∷ forms) word given wants is = elim (cases_Bool (is_for word given form)) [
  | inl g ↦ rw g refl
  | inr g ↦
      rw (some_there forms word given wants
      (sym (passed_by (is_for word given form) (Some form.wants) (wants_in forms word given) g) ∙ is))
      (or-true (is_for word given form))
]

some_later : (front back : List Form) (word : List ℕ) (given : ℕ) → some_for word given back ≡ true
    → some_for word given (front ++ back) ≡ true
some_later [] back word given h = h
some_later (form ∷ front) back word given h = rw (some_later front back word given h) (or-true (is_for word given form))

-- of two tables that are apart the first has nothing for what the second has
pub front_none : (front back : List Form) (word : List ℕ) (given : ℕ) (wants : List Want)
    → apart (front ++ back) ≡ true → wants_in back word given ≡ Some wants → wants_in front word given ≡ None
front_none [] back word given wants all is = refl
front_none (form ∷ front) back word given wants all is =
    let parts = and_parts (not (some_for form.word (length form.wants) (front ++ back))) (apart (front ++ back)) all in
    elim (cases_Bool (is_for word given form)) [
      | inl g ↦
          let p = and_parts (bytes_eq form.word word) (nat_eq (length form.wants) given) g in
          let there : some_for form.word (length form.wants) (front ++ back) ≡ true =
          rw ((bytes_eq-Decides form.word word).0 p.0, eqb-true (length form.wants) given p.1)
          (some_later front back word given (some_there back word given wants is)) in
          absurd (let no = parts.0 in cc)
      | inr g ↦ rw g (front_none front back word given wants parts.1 is)
    ]
