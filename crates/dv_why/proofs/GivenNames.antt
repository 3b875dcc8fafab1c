-- The names with which the arrays of a list begin, those of pools and of bodies, by their numbers.
use Rattle.std.proofs.Common.{◌≡◌, ◌≢◌, ℕ, zero, suc, ◌<◌, Bool, true, false, ◌||◌, List, [], ◌∷◌, length, take, Option}
use Rattle.std.proofs.Common.{Some, None, refl, ap, arith, inl, inr}
use Rattle.std.proofs.Math.Bool.{or-true}
use Rattle.std.proofs.lemmas.Bool.{or_cases}
use Rattle.std.proofs.lemmas.Slice.Eq.{bytes_eq-Decides}
use Rattle.serde_json.specs.Data.{no_items}
use Rattle.serde_json.specs.View.{view, items_view}
use Rattle.serde_json.specs.declared.value.Value.{Value}
use Rattle.dv_why.specs.Documents.{AreDistinct, IsNew, first_text, name_in}
use Rattle.dv_why.specs.Fits.{has_name, is_declared, is_given}

-- an array that has this name begins with it
has_name_is : (name : List ℕ) (o : Option (List ℕ)) → has_name name o ≡ true → o ≡ Some name
has_name_is name None h = cc
has_name_is name (Some other) h = ap Some ((bytes_eq-Decides other name).0 h)

-- and the other way round
has_name_so : (name : List ℕ) (o : Option (List ℕ)) → o ≡ Some name → has_name name o ≡ true
has_name_so name o is = rw is ((bytes_eq-Decides name name).1 refl)

-- a name that is among the first arrays is that of one of them
pub declared_some : (arrays : List Value) (n : ℕ) (name : List ℕ) → is_declared (take n arrays) name ≡ true
    → (k : ℕ) × (k < n) × (name_in k (items_view arrays) ≡ Some name)
declared_some [] zero name h = cc
declared_some [] (suc n) name h = cc
declared_some (v ∷ vs) zero name h = cc
declared_some (v ∷ vs) (suc n) name h =
    elim (or_cases (has_name name (first_text (view v))) (is_declared (take n vs) name) h) [
      | inl first ↦ (0, omega arith, has_name_is name (first_text (view v)) first)
      | inr later ↦ let found = declared_some vs n name later in
          (suc found.0, (let less : found.0 < n = found.1 in omega arith), found.2)
    ]

-- a name that is given among the first arrays
pub record IsGivenBy (arrays : List Value) (n : ℕ) (o : Option (List ℕ)) : Type 0 where
  pub name : List ℕ
  pub text : o ≡ Some name
  pub first : ℕ
  pub order : first < n
  pub same : name_in first (items_view arrays) ≡ Some name

pub given_some : (arrays : List Value) (n : ℕ) (o : Option (List ℕ)) → is_given (take n arrays) o ≡ true
    → IsGivenBy arrays n o
given_some arrays n None h = cc
given_some arrays n (Some name) h =
    let found = declared_some arrays n name h in
    record { name = name; text = refl; first = found.0; order = found.1; same = found.2 }

or_none : (a b : Bool) → (a || b) ≡ false → (a ≡ false) × (b ≡ false)
or_none true b h = cc
or_none false b h = (refl, h)

-- a name that isn't among the arrays is that of none
pub declared_none : (arrays : List Value) (name : List ℕ) → is_declared arrays name ≡ false → (n : ℕ)
    → name_in n (items_view arrays) ≢ Some name
declared_none [] name h zero is = cc
declared_none [] name h (suc n) is = cc
declared_none (v ∷ vs) name h zero is =
    let no = or_none (has_name name (first_text (view v))) (is_declared vs name) h in
    let yes = has_name_so name (first_text (view v)) is in
    cc
declared_none (v ∷ vs) name h (suc n) is =
    declared_none vs name (or_none (has_name name (first_text (view v))) (is_declared vs name) h).1 n is

-- a name that is among them is that of one
pub declared_one : (arrays : List Value) (name : List ℕ) → is_declared arrays name ≡ true
    → (n : ℕ) × (name_in n (items_view arrays) ≡ Some name)
declared_one [] name h = cc
declared_one (v ∷ vs) name h = elim (or_cases (has_name name (first_text (view v))) (is_declared vs name) h) [
  | inl first ↦ (0, has_name_is name (first_text (view v)) first)
  | inr later ↦ let found = declared_one vs name later in (suc found.0, found.1)
]

-- a name that is that of one of the first arrays is among them
declared_before : (arrays : List Value) (n k : ℕ) (name : List ℕ) → k < n → name_in k (items_view arrays) ≡ Some name
    → is_declared (take n arrays) name ≡ true
declared_before [] n zero name less is = cc
declared_before [] n (suc k) name less is = cc
declared_before (v ∷ vs) zero k name less is = absurd (omega (arith, less))
declared_before (v ∷ vs) (suc n) zero name less is = rw (has_name_so name (first_text (view v)) is) refl
declared_before (v ∷ vs) (suc n) (suc k) name less is =
    rw (declared_before vs n k name (omega (arith, less)) is) (or-true (has_name name (first_text (view v))))

-- a name that isn't given among the arrays before is new
pub is_new : (arrays : List Value) (n : ℕ) → is_given (take n arrays) (name_in n (items_view arrays)) ≡ false
    → IsNew n (items_view arrays)
is_new arrays n h k name less same is =
    let yes = declared_before arrays n k name less same in
    let no : is_given (take n arrays) (Some name) ≡ false = rw is at h in
    cc

name_within : (arrays : List Value) (n : ℕ) (name : List ℕ) → name_in n (items_view arrays) ≡ Some name
    → n < length arrays
name_within [] zero name is = cc
name_within [] (suc n) name is = cc
name_within (v ∷ vs) zero name is = omega arith
name_within (v ∷ vs) (suc n) name is = let less : n < length vs = name_within vs n name is in omega (arith, less)

-- where the name of each array is new, they are distinct
pub all_new : (arrays : List Value) → ((n : ℕ) → n < length arrays → IsNew n (items_view arrays))
    → AreDistinct (items_view arrays)
all_new arrays new n k name less same is = new n (name_within arrays n name is) k name less same is

-- where there is no array, there are no names
pub none_new : AreDistinct no_items
none_new n k name less same is = cc
