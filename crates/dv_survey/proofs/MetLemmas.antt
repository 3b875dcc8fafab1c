-- The names that were met are counted.
use Rattle.std.proofs.Common.{◌≡◌, ℕ, ◌+◌, List, [], ◌∷◌, ◌++◌, Bool, true, false, cond, Option, Some, if◌then◌else◌}
use Rattle.std.proofs.Common.{refl, ap, sym, subst, ◌∙◌, true≢false, bytes_eq, count_by, unwrap_or, append_assoc, arith}
use Rattle.std.proofs.Common.{drop, get_or, length, ◌<◌}
use Rattle.std.proofs.lemmas.List.{drop_more}
use Rattle.std.proofs.lemmas.List.Sums.{sum_by-cons}
use Rattle.std.proofs.lemmas.Slice.Eq.{bytes_eq-Decides}
use Rattle.dv_journal.specs.Line.{name_text}
use Rattle.dv_objects.specs.Names.{Names, number_of, with_name}
use Rattle.dv_store.specs.declared.outcome.Outcome.{Outcome}
use Rattle.dv_survey.specs.Lines.{label, labels_after, labels_of}
use Rattle.dv_survey.specs.Met.{met_of}
use Rattle.dv_survey.specs.declared.format.Format.{Format}

twice : {A : Type 0} (a b c : A) (t : Bool) → (if t then a else c) ≡ (if t then a else (if t then b else c))
twice a b c true = refl
twice a b c false = refl

swapped : {A : Type 0} (a b c : A) (p q : Bool) → (p ≡ true → q ≡ true → ⊥)
    → (if p then a else (if q then b else c)) ≡ (if q then b else (if p then a else c))
swapped a b c true true not = absurd (not refl refl)
swapped a b c true false not = refl
swapped a b c false true not = refl
swapped a b c false false not = refl

-- a name that is bound is bound to this, and another one to what it was
pub number_with : (x name : List ℕ) (k : ℕ) (met : Names ℕ)
    → number_of x (with_name name k met) ≡ (if bytes_eq x name then Some k else number_of x met)
number_with x name k [] = refl
number_with x name k (b ∷ met) = by (bytes_eq name b.0) refl (number_with x name k met)
  where
    by : (t : Bool) → bytes_eq name b.0 ≡ t
        → number_of x (with_name name k met) ≡ (if bytes_eq x name then Some k else number_of x met)
        → number_of x (if t then (b.0, k) ∷ met else b ∷ with_name name k met)
        ≡ (if bytes_eq x name then Some k else (if bytes_eq x b.0 then Some b.1 else number_of x met))
    by true e rest =
        twice (Some k) (Some b.1) (number_of x met) (bytes_eq x b.0)
        ∙ ap (λ (n : List ℕ). if bytes_eq x n then Some k
        else (if bytes_eq x b.0 then Some b.1 else number_of x met)) (sym ((bytes_eq-Decides name b.0).0 e))
    by false e rest =
        ap (λ (o : Option ℕ). if bytes_eq x b.0 then Some b.1 else o) rest
        ∙ swapped (Some b.1) (Some k) (number_of x met) (bytes_eq x b.0) (bytes_eq x name)
        (λ p q. true≢false
        (sym ((bytes_eq-Decides name b.0).1 (sym ((bytes_eq-Decides x name).0 q) ∙ (bytes_eq-Decides x b.0).0 p)) ∙ e))

-- how often each name is among these
abbrev pub Counts : Names ℕ → List (List ℕ) → Type 0
Counts met names = (x : List ℕ) → met_of x met ≡ count_by (bytes_eq x) names

pub counts_next : (met : Names ℕ) (names : List (List ℕ)) (name : List ℕ) → Counts met names
    → Counts (with_name name (met_of name met + 1) met) (name ∷ names)
counts_next met names name counts x =
    ap (λ (o : Option ℕ). unwrap_or o 0) (number_with x name (met_of name met + 1) met)
    ∙ by (bytes_eq x name) refl
    ∙ sym (sum_by-cons (λ (n : List ℕ). cond (bytes_eq x n) 1 0) name names)
  where
    by : (t : Bool) → bytes_eq x name ≡ t → unwrap_or (if t then Some (met_of name met + 1) else number_of x met) 0
        ≡ cond t 1 0 + count_by (bytes_eq x) names
    by true e =
        let same : met_of name met ≡ count_by (bytes_eq x) names =
        ap (λ n. met_of n met) (sym ((bytes_eq-Decides x name).0 e)) ∙ counts x in
        omega (arith, same)
    by false e = omega (arith, counts x)

-- the names of the Deferreds so far are counted, and the labels of those that are left follow theirs
pub record HasLabeled (format : Format) (met : Names ℕ) (labels : List (List ℕ))
    (left outcomes : List Outcome) : Type 0 where
  pub names : List (List ℕ)
  pub counts : Counts met names
  pub made : labels ++ labels_after format names left ≡ labels_of format outcomes

pub labeled_next : (format : Format) (met : Names ℕ) (labels : List (List ℕ)) (o : Outcome)
    (left outcomes : List Outcome) → HasLabeled format met labels (o ∷ left) outcomes
    → HasLabeled format (with_name (name_text o.name) (met_of (name_text o.name) met + 1) met)
    (labels ++ label format (name_text o.name) (met_of (name_text o.name) met + 1) ∷ []) left outcomes
labeled_next format met labels o left outcomes so_far =
    let name = name_text o.name in
    record {
      names = name ∷ so_far.names;
      counts = counts_next met so_far.names name so_far.counts;
      made =
          append_assoc labels _ _
          ∙ ap (λ (n : ℕ). labels ++ label format name (n + 1) ∷ labels_after format (name ∷ so_far.names) left)
          (so_far.counts name)
          ∙ so_far.made;
    }

-- the same, where those that are left are the last ones of all
pub labeled_at : (format : Format) (met : Names ℕ) (labels : List (List ℕ)) (outcomes : List Outcome) (n : ℕ)
    (o : Outcome) → n < length outcomes → o ≡ get_or outcomes n o
    → HasLabeled format met labels (drop n outcomes) outcomes
    → HasLabeled format (with_name (name_text o.name) (met_of (name_text o.name) met + 1) met) (labels
    ++ label format (name_text o.name) (met_of (name_text o.name) met + 1) ∷ []) (drop (n + 1) outcomes) outcomes
labeled_at format met labels outcomes n o within found so_far =
    let left : drop n outcomes ≡ o ∷ drop (n + 1) outcomes =
    drop_more outcomes n o within ∙ ap (λ (x : Outcome). x ∷ drop (n + 1) outcomes) (sym found) in
    labeled_next format met labels o (drop (n + 1) outcomes) outcomes
    (subst (λ (l : List Outcome). HasLabeled format met labels l outcomes) left so_far)
