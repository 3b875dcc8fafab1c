-- The text of an outcome has its places, and no others.
use Rattle.std.proofs.Common.{◌≡◌, ◌≢◌, ◌<◌, ◌≤◌, ◌^◌, ℕ, zero, suc, ◌+◌, ◌∙◌, arith, List, [], ◌∷◌, ◌++◌, Bool, true}
use Rattle.std.proofs.Common.{false, ◌||◌, if◌then◌else◌, nat_eq, map, get_or, codes, refl, ap, sym, subst, inl, inr}
use Rattle.std.proofs.Common.{append_assoc, true≢false}
use Rattle.std.proofs.lemmas.Bool.{cases_lt}
use Rattle.std.proofs.lemmas.Bool.Decides.{eqb_tells}
use Rattle.std.proofs.lemmas.Fmt.{decimal-digits_of, decimal_digit}
use Rattle.std.proofs.lemmas.Grind.{flat_map-append}
use Rattle.std.proofs.lemmas.Int.Digits.{first_digits_of, same_from_digits_of}
use Rattle.std.proofs.lemmas.List.{append-nil}
use Rattle.std.proofs.lemmas.List.Folds.{list_any-append}
use Rattle.std.specs.Fmt.{decimal}
use Rattle.std.specs.Int.Digits.{digits_of}
use Rattle.std.specs.List.{list_any}
use Rattle.std.specs.Prelude.{⊤}
use Rattle.dv_posts.specs.Batches.{below}
use Rattle.dv_survey.specs.Outcomes.{outcome_text, place_if, place_text}

-- a place that 64 bits hold is written as a number is
pub place_written : (n : ℕ) → n < 2 ^ 64 → decimal n ≡ place_text n
unfolding place_text
place_written zero low = decimal_digit 0 (omega arith)
place_written (suc n) low = decimal-digits_of (suc n) (omega arith) low

-- no byte is a space
abbrev NoSpace : List ℕ → Type 0
NoSpace [] = ⊤
NoSpace (c ∷ cs) = (c ≢ 32) × NoSpace cs

no_space_of_digits : (ds : List ℕ) → NoSpace (map (λ digit. 48 + digit) ds)
no_space_of_digits [] = tt
no_space_of_digits (d ∷ ds) = (λ e. omega (arith, e), no_space_of_digits ds)

no_space : (n : ℕ) → NoSpace (place_text n)
unfolding place_text
no_space zero = (λ e. omega (arith, e), tt)
no_space (suc n) = no_space_of_digits (digits_of 10 (suc n))

-- texts of digits are those of the same digits
same_digits : (ds es : List ℕ) → map (λ digit. 48 + digit) ds ≡ map (λ digit. 48 + digit) es → ds ≡ es
same_digits [] [] e = refl
same_digits [] (y ∷ es) e = cc
same_digits (x ∷ ds) [] e = cc
same_digits (x ∷ ds) (y ∷ es) e =
    let head : 48 + x ≡ 48 + y = cc in
    let tail : map (λ digit. 48 + digit) ds ≡ map (λ digit. 48 + digit) es = cc in
    let is : x ≡ y = omega (arith, head) in
    let are : ds ≡ es = same_digits ds es tail in
    cc

-- digits that begin with another than 0 aren't the text of 0
not_zero : (ds : List ℕ) → 0 < get_or ds 0 0 → codes "0" ≡ map (λ digit. 48 + digit) ds → ⊥
not_zero [] first e = omega (arith, first)
not_zero (d ∷ ds) first e = let head : 48 ≡ 48 + d = cc in omega (arith, head, first)

-- one text is that of one place
same_place : (m n : ℕ) → place_text m ≡ place_text n → m ≡ n
unfolding place_text
same_place zero zero e = refl
same_place zero (suc n) e =
    absurd (not_zero (digits_of 10 (suc n)) (first_digits_of 10 (suc n) (omega arith) (omega arith)) e)
same_place (suc m) zero e =
    absurd (not_zero (digits_of 10 (suc m)) (first_digits_of 10 (suc m) (omega arith) (omega arith)) (sym e))
same_place (suc m) (suc n) e =
    same_from_digits_of 10 (suc m) (suc n) (omega arith) (same_digits (digits_of 10 (suc m)) (digits_of 10 (suc n)) e)

-- places, each with a space after it
abbrev words : List ℕ → List ℕ
words [] = []
words (n ∷ ns) = place_text n ++ 32 ∷ words ns

words_append : (ms ns : List ℕ) → words (ms ++ ns) ≡ words ms ++ words ns
words_append [] ns = refl
words_append (m ∷ ms) ns =
    ap (λ l. place_text m ++ 32 ∷ l) (words_append ms ns) ∙ sym (append_assoc (place_text m) (32 ∷ words ms) (words ns))

-- what stands before the first space, and what after it
first_word : (a b x y : List ℕ) → NoSpace a → NoSpace b → a ++ 32 ∷ x ≡ b ++ 32 ∷ y → (a ≡ b) × (x ≡ y)
first_word [] [] x y none other e = (refl, cc)
first_word [] (d ∷ b) x y none other e = absurd (other.0 cc)
first_word (c ∷ a) [] x y none other e = absurd (none.0 cc)
first_word (c ∷ a) (d ∷ b) x y none other e =
    let head : c ≡ d = cc in
    let tail : a ++ 32 ∷ x ≡ b ++ 32 ∷ y = cc in
    let rest = first_word a b x y none.1 other.1 tail in
    let are : a ≡ b = rest.0 in
    (cc, rest.1)

not_empty : (a x : List ℕ) → [] ≡ a ++ 32 ∷ x → ⊥
not_empty [] x e = cc
not_empty (c ∷ a) x e = cc

same_words : (ms ns : List ℕ) → words ms ≡ words ns → ms ≡ ns
same_words [] [] e = refl
same_words [] (n ∷ ns) e = absurd (not_empty (place_text n) (words ns) e)
same_words (m ∷ ms) [] e = absurd (not_empty (place_text m) (words ms) (sym e))
same_words (m ∷ ms) (n ∷ ns) e =
    let first = first_word (place_text m) (place_text n) (words ms) (words ns) (no_space m) (no_space n) e in
    let is : m ≡ n = same_place m n first.0 in
    let are : ms ≡ ns = same_words ms ns first.1 in
    cc

-- the places below this length that are among these
abbrev place_of_one : Bool → ℕ → List ℕ
place_of_one came n = if came then n ∷ [] else []

abbrev placed : List ℕ → ℕ → List ℕ
placed places zero = []
placed places (suc n) = placed places n ++ place_of_one (list_any (nat_eq n) places) n

one_word : (came : Bool) (n : ℕ) → place_if came n ++ [] ≡ words (place_of_one came n)
one_word true n = append-nil (place_text n ++ codes " ")
one_word false n = refl

outcome_words : (places : List ℕ) (len : ℕ) → outcome_text places len ≡ words (placed places len)
outcome_words places zero = refl
outcome_words places (suc n) =
    let came = list_any (nat_eq n) places in
    flat_map-append (λ place. place_if (list_any (nat_eq place) places) place) (below n) (n ∷ [])
    ∙ ap (λ l. l ++ (place_if came n ++ [])) (outcome_words places n)
    ∙ ap (λ l. words (placed places n) ++ l) (one_word came n)
    ∙ sym (words_append (placed places n) (place_of_one came n))

or_false : (b : Bool) → (b || false) ≡ b
or_false true = refl
or_false false = refl

another : (came : Bool) (p n : ℕ) → nat_eq p n ≡ false → list_any (nat_eq p) (place_of_one came n) ≡ false
another true p n e = ap (λ b. b || false) e
another false p n e = refl

itself : (came : Bool) (n : ℕ) → nat_eq n n ≡ true → list_any (nat_eq n) (place_of_one came n) ≡ came
itself true n e = ap (λ b. b || false) e
itself false n e = refl

-- a place past the length isn't among them
none_placed : (places : List ℕ) (len p : ℕ) → len ≤ p → list_any (nat_eq p) (placed places len) ≡ false
none_placed places zero p past = refl
none_placed places (suc n) p past =
    let came = list_any (nat_eq n) places in
    elim (eqb_tells p n) [
      | inl is ↦ absurd (omega (arith, is.1, past))
      | inr not ↦ list_any-append (nat_eq p) (placed places n) (place_of_one came n)
          ∙ ap (λ b. b || list_any (nat_eq p) (place_of_one came n)) (none_placed places n p (omega (arith, past)))
          ∙ another came p n not.0
    ]

-- a place below the length is among them if it is among these
are_placed : (places : List ℕ) (len p : ℕ) → p < len
    → list_any (nat_eq p) (placed places len) ≡ list_any (nat_eq p) places
are_placed places zero p low = absurd (omega (arith, low))
are_placed places (suc n) p low =
    let came = list_any (nat_eq n) places in
    list_any-append (nat_eq p) (placed places n) (place_of_one came n) ∙ elim (eqb_tells p n) [
      | inl is ↦ ap (λ b. b || list_any (nat_eq p) (place_of_one came n))
          (none_placed places n p (omega (arith, is.1)))
          ∙ subst (λ q. list_any (nat_eq q) (place_of_one came n) ≡ list_any (nat_eq q) places) (sym is.1)
          (itself came n (subst (λ q. nat_eq q n ≡ true) is.1 is.0))
      | inr not ↦ ap (λ b. list_any (nat_eq p) (placed places n) || b) (another came p n not.0)
          ∙ or_false (list_any (nat_eq p) (placed places n))
          ∙ are_placed places n p (omega (arith, low, not.1))
    ]

-- two outcomes of one text have the same places
pub same_places : (these those : List ℕ) (m n : ℕ) → outcome_text these m ≡ outcome_text those n → (p : ℕ) → p < m
    → list_any (nat_eq p) these ≡ true → (p < n) × (list_any (nat_eq p) those ≡ true)
same_places these those m n e p low among =
    let same : placed these m ≡ placed those n =
    same_words (placed these m) (placed those n) (sym (outcome_words these m) ∙ e ∙ outcome_words those n) in
    let found : list_any (nat_eq p) (placed those n) ≡ true =
    ap (list_any (nat_eq p)) (sym same) ∙ are_placed these m p low ∙ among in
    let within : p < n = below_all p n found in
    (within, sym (are_placed those n p within) ∙ found)
  where
    below_all : (p n : ℕ) → list_any (nat_eq p) (placed those n) ≡ true → p < n
    below_all p n found = elim (cases_lt p n) [
      | inl low ↦ low
      | inr past ↦ absurd (true≢false (sym found ∙ none_placed those n p past))
    ]
