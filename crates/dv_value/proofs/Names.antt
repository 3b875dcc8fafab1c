-- Names in a table of classes.
use Rattle.std.proofs.Common.{◌≡◌, ◌≢◌, ℕ, zero, suc, ◌+◌, ◌<◌, Bool, true, false, ◌&&◌, nat_eq, nat_lt, List, [], ◌∷◌}
use Rattle.std.proofs.Common.{Option, None, Some, length, get_or, refl, ap, arith}
use Rattle.std.proofs.lemmas.List.Quantifiers.{position-Some}
use Rattle.std.proofs.lemmas.List.Sums.{position_or_len_is}
use Rattle.std.proofs.lemmas.Option.{slice_get-get_or}
use Rattle.std.proofs.lemmas.Slice.Eq.{bytes_eq-Decides}
use Rattle.std.proofs.lemmas.Bool.{and_parts, eqb-true, false_from_ne_true}
use Rattle.std.proofs.lemmas.Bool.Decides.{not_from_Decides, Decides-ltb}
use Rattle.std.specs.List.{position_or_len}
use Rattle.std.proofs.Math.Path.{sym, ◌∙◌}
use Rattle.std.specs.Str.{bytes_eq}
use Rattle.dv_value.specs.declared.classes.Class.{Class}
use Rattle.dv_value.specs.Builtin.{builtin, later_builtin}
use Rattle.dv_value.specs.Classes.{find_class, name_of}
use Rattle.dv_value.specs.Laws.{IsFirstOf, FindsTheFirst, NamesAreDistinct}

nameless : Class
nameless = record { name = []; parent = None }

name_at : (table : List Class) (c : ℕ) → c < length table → name_of table c ≡ (get_or table c nameless).name
name_at table c within = rw (slice_get-get_or table c nameless within) refl

is_name : (text name : List ℕ) → bytes_eq text name ≡ true → text ≡ name
is_name text name h = (bytes_eq-Decides text name).0 h

is_no_name : (text name : List ℕ) → bytes_eq text name ≡ false → text ≢ name
is_no_name text name h = not_from_Decides (bytes_eq text name) (bytes_eq-Decides text name) h

differs : (text name : List ℕ) → text ≢ name → bytes_eq text name ≡ false
differs text name h = false_from_ne_true (bytes_eq text name) (λ t. h (is_name text name t))

pub found_is_first : (name : List ℕ) (table : List Class) (c : ℕ) → find_class name table ≡ Some c
    → IsFirstOf name table c
found_is_first name table c e =
    let found = position-Some (λ (class : Class). bytes_eq class.name name) table c nameless e in
    record {
      within = found.0;
      named = name_at table c found.0 ∙ is_name _ name found.1;
      first =
          λ d below same.
          is_no_name _ name (found.2 d below) (sym (name_at table d (omega (arith, below, found.0))) ∙ same);
    }

first_is_found : (name : List ℕ) (table : List Class) (c : ℕ) → IsFirstOf name table c → find_class name table ≡ Some c
first_is_found name table c f =
    let at : position_or_len (λ (class : Class). bytes_eq class.name name) table ≡ c =
    position_or_len_is (λ (class : Class). bytes_eq class.name name) table c nameless (omega (arith, f.within))
    (λ d below. differs _ name (λ same. f.first d below (name_at table d (omega (arith, below, f.within)) ∙ same)))
    (λ within. (bytes_eq-Decides _ name).1 (sym (name_at table c within) ∙ f.named)) in
    let within : nat_lt c (length table) ≡ true = (Decides-ltb c (length table)).1 f.within in
    rw at (rw within refl)

pub the_first_is_found : FindsTheFirst
the_first_is_found name table c = (found_is_first name table c, first_is_found name table c)

is_at : ℕ → Option ℕ → Bool
is_at k None = false
is_at k (Some place) = nat_eq place k

found_at : (k : ℕ) (o : Option ℕ) → is_at k o ≡ true → o ≡ Some k
unfolding is_at
found_at k None h = cc
found_at k (Some place) h = ap Some (eqb-true place k h)

-- each of these classes, whose first stands at this place of the whole table, is found where it stands
all_found : List Class → ℕ → List Class → Bool
all_found whole k [] = true
all_found whole k (class ∷ classes) = is_at k (find_class class.name whole) && all_found whole (suc k) classes

found_in_place : (whole classes : List Class) (k c : ℕ) → all_found whole k classes ≡ true → c < length classes
    → find_class (name_of classes c) whole ≡ Some (k + c)
unfolding all_found
found_in_place whole [] k c h within = absurd (omega (arith, within))
found_in_place whole (class ∷ classes) k zero h within =
    let same : k + 0 ≡ k = omega arith in
    rw same (found_at k _ (and_parts _ _ h).0)
found_in_place whole (class ∷ classes) k (suc c) h within =
    let same : k + suc c ≡ suc k + c = omega arith in
    rw same (found_in_place whole classes (suc k) c (and_parts _ _ h).1 (omega (arith, within)))

pub builtin_names_are_distinct : NamesAreDistinct builtin
unfolding builtin all_found is_at
builtin_names_are_distinct c within =
    let same : 0 + c ≡ c = omega arith in
    found_in_place builtin builtin 0 c refl within ∙ ap Some same

pub later_names_are_distinct : NamesAreDistinct later_builtin
unfolding builtin all_found is_at
later_names_are_distinct c within =
    let same : 0 + c ≡ c = omega arith in
    found_in_place later_builtin later_builtin 0 c refl within ∙ ap Some same
