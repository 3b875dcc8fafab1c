-- Marks are set one after the other, and lines are added one after the other.
use Rattle.std.proofs.Common.{◌≡◌, ◌≢◌, ◌<◌, ◌≤◌, ℕ, ◌+◌, ◌∙◌, append_assoc, drop, arith, List, [], ◌∷◌, ◌++◌, Bool}
use Rattle.std.proofs.Common.{true, false, ◌||◌, nat_eq, length, slice_index_or, slice_set, refl, ap, sym, subst}
use Rattle.std.proofs.Common.{length-set, add-one, get_or, inl, inr, replicate, take}
use Rattle.std.proofs.lemmas.Bool.Decides.{eqb_tells}
use Rattle.std.proofs.lemmas.List.{drop_more, get_or-replicate, get_or-set_other, get_or-set_same, length-replicate}
use Rattle.std.proofs.lemmas.List.{take_all}
use Rattle.std.proofs.Math.Seq.{take-suc}
use Rattle.std.proofs.lemmas.List.Folds.{list_any-append}
use Rattle.std.specs.List.{list_any}
use Rattle.dv_survey.specs.Outcomes.{Marks, places_after}
use Rattle.dv_survey.specs.Texts.{place_of, with_text}
use Rattle.dv_survey.specs.declared.lines.Line.{Line}

-- one place more among those that are looked for
any_more : (k : ℕ) (places : List ℕ) (place : ℕ)
    → list_any (nat_eq k) (places ++ place ∷ []) ≡ (list_any (nat_eq k) places || (nat_eq k place || false))
any_more k places place = list_any-append (nat_eq k) places (place ∷ [])

or_true : (b : Bool) → (b || (true || false)) ≡ true
or_true true = refl
or_true false = refl

or_false : (b : Bool) → (b || (false || false)) ≡ b
or_false true = refl
or_false false = refl

pub mark_set : (marks : List Bool) (places : List ℕ) (len place : ℕ) → place < len → Marks marks places len
    → Marks (slice_set marks place true) (places ++ place ∷ []) len
mark_set marks places len place low so_far = record {
  all = length-set marks place true ∙ so_far.all;
  each = λ k below. elim (eqb_tells k place) [ inl is ↦ same k is.0 is.1 | inr not ↦ another k below not.0 not.1 ];
}
  where
    same : (k : ℕ) → nat_eq k place ≡ true → k ≡ place
        → slice_index_or (slice_set marks place true) k false ≡ list_any (nat_eq k) (places ++ place ∷ [])
    same k e is =
        subst (λ n. slice_index_or (slice_set marks place true) n false ≡ true) (sym is)
        (get_or-set_same marks place true false (subst (λ n. place < n) (sym so_far.all) low))
        ∙ sym (or_true (list_any (nat_eq k) places))
        ∙ ap (λ b. list_any (nat_eq k) places || (b || false)) (sym e)
        ∙ sym (any_more k places place)

    another : (k : ℕ) → k < len → nat_eq k place ≡ false → k ≢ place
        → slice_index_or (slice_set marks place true) k false ≡ list_any (nat_eq k) (places ++ place ∷ [])
    another k below e not =
        get_or-set_other marks place k true false not
        ∙ so_far.each k below
        ∙ sym (or_false (list_any (nat_eq k) places))
        ∙ ap (λ b. list_any (nat_eq k) places || (b || false)) (sym e)
        ∙ sym (any_more k places place)

-- a place past the marks sets none
pub mark_kept : (marks : List Bool) (places : List ℕ) (len place : ℕ) → (place < len → ⊥) → Marks marks places len
    → Marks marks (places ++ place ∷ []) len
mark_kept marks places len place past so_far = record {
  all = so_far.all;
  each = λ k below. elim (eqb_tells k place) [
    | inl is ↦ absurd (past (subst (λ n. n < len) is.1 below))
    | inr not ↦ another k below not.0
  ];
}
  where
    another : (k : ℕ) → k < len → nat_eq k place ≡ false
        → slice_index_or marks k false ≡ list_any (nat_eq k) (places ++ place ∷ [])
    another k below e =
        so_far.each k below
        ∙ sym (or_false (list_any (nat_eq k) places))
        ∙ ap (λ b. list_any (nat_eq k) places || (b || false)) (sym e)
        ∙ sym (any_more k places place)

-- no place is marked yet
pub none_marked : (marks : List Bool) (len : ℕ) → marks ≡ replicate len false → Marks marks [] len
none_marked marks len are = record {
  all = ap length are ∙ length-replicate len false;
  each = λ k below. ap (λ l. slice_index_or l k false) are ∙ get_or-replicate len k false false below;
}

-- the next place among these
next_place : (places : List ℕ) (i place : ℕ) → i < length places → place ≡ get_or places i place
    → take (i + 1) places ≡ take i places ++ place ∷ []
next_place places i place low is =
    ap (λ n. take n places) (add-one i) ∙ take-suc places i place low ∙ ap (λ x. take i places ++ x ∷ []) (sym is)

pub mark_next : (marks : List Bool) (places : List ℕ) (i len place : ℕ) → i < length places
    → place ≡ get_or places i place → place < len → Marks marks (take i places) len
    → Marks (slice_set marks place true) (take (i + 1) places) len
mark_next marks places i len place low is within so_far =
    subst (λ l. Marks (slice_set marks place true) l len) (sym (next_place places i place low is))
    (mark_set marks (take i places) len place within so_far)

pub mark_passed : (marks : List Bool) (places : List ℕ) (i len place : ℕ) → i < length places
    → place ≡ get_or places i place → len ≤ place → Marks marks (take i places) len
    → Marks marks (take (i + 1) places) len
mark_passed marks places i len place low is past so_far =
    subst (λ l. Marks marks l len) (sym (next_place places i place low is))
    (mark_kept marks (take i places) len place (λ low. omega (arith, low, past)) so_far)

-- the last place was marked
pub all_marked : (marks : List Bool) (places : List ℕ) (i len : ℕ) → length places ≤ i → Marks marks (take i places) len
    → Marks marks places len
all_marked marks places i len done so_far = subst (λ l. Marks marks l len) (take_all i places done) so_far

-- the next line is added: its place is the next one
pub places_next : (texts : List (List ℕ)) (places all : List ℕ) (lines : List Line) (i : ℕ) (line : Line)
    → i < length lines → line ≡ get_or lines i line
    → places ++ places_after texts (drop i lines) ≡ all
    → (places ++ place_of line.text texts ∷ []) ++ places_after (with_text line.text texts) (drop (i + 1) lines) ≡ all
places_next texts places all lines i line low is so_far =
    append_assoc places (place_of line.text texts ∷ []) (places_after (with_text line.text texts) (drop (i + 1) lines))
    ∙ ap (λ l. places ++ places_after texts l)
    (sym (drop_more lines i line low ∙ ap (λ (x : Line). x ∷ drop (i + 1) lines) (sym is)))
    ∙ so_far

pub ruleset marking = (none_marked, mark_next, mark_passed, all_marked)
