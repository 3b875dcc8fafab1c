-- Paths in a table of classes.
use Rattle.std.proofs.Common.{◌≡◌, ℕ, zero, suc, ◌+◌, ◌-◌, ◌<◌, ◌⊎◌, inl, inr, Bool, true, ◌&&◌, nat_lt, List, [], ◌∷◌}
use Rattle.std.proofs.Common.{◌++◌, Option, None, Some, length, refl, arith, ap}
use Rattle.std.specs.Option.{option_map_or}
use Rattle.std.proofs.lemmas.Bool.{and_parts, ltb-true}
use Rattle.dv_value.specs.declared.classes.Class.{Class}
use Rattle.dv_value.specs.Builtin.{builtin, later_builtin}
use Rattle.dv_value.specs.Classes.{path, path_within, parent_of}
use Rattle.dv_value.specs.Laws.{ParentsStandBefore, PathsGoUp, DeclaredClassesKeepTheOrder}
use Rattle.dv_value.proofs.Names.{found_is_first}

-- one step of a path
pub path_step : (n : ℕ) (table : List Class) (c : ℕ) → 0 < n
    → path_within n table c ≡ c ∷ option_map_or (path_within (n - 1) table) (parent_of table c) []
path_step zero table c h = absurd (omega arith)
path_step (suc n) table c h =
    let e : suc n - 1 ≡ n = omega arith in
    rw e refl

module _ (table : List Class) (ordered : ParentsStandBefore table) where
  -- as many steps as there are places up to the class are enough
  abbrev Enough : ℕ → Type 0
  Enough n = (m c : ℕ) → c < n → c < m → path_within n table c ≡ path_within m table c

  above : (n m c : ℕ) (p : Option ℕ) → Enough n → c < suc n → c < suc m → parent_of table c ≡ p
      → option_map_or (path_within n table) p [] ≡ option_map_or (path_within m table) p []
  above n m c None enough below within e = refl
  above n m c (Some p) enough below within e =
      let up : p < c = ordered c p e in
      enough m p (omega arith) (omega arith)

  enough_steps : (n : ℕ) → Enough n
  enough_steps zero m c below within = absurd (omega arith)
  enough_steps (suc n) zero c below within = absurd (omega arith)
  enough_steps (suc n) (suc m) c below within =
      ap (λ (l : List ℕ). c ∷ l) (above n m c _ (enough_steps n) below within refl)

  up_from : (c : ℕ) (p : Option ℕ) → parent_of table c ≡ p
      → option_map_or (path_within c table) p [] ≡ option_map_or (path table) p []
  up_from c None e = refl
  up_from c (Some p) e =
      let up : p < c = ordered c p e in
      enough_steps c (suc p) p up (omega arith)

  pub paths_go_up : PathsGoUp table
  paths_go_up c = ap (λ (l : List ℕ). c ∷ l) (up_from c _ refl)

-- a test of a table, whose first class is at this place
before : ℕ → Option ℕ → Bool
before c None = true
before c (Some p) = nat_lt p c

all_before : ℕ → List Class → Bool
all_before c [] = true
all_before c (class ∷ classes) = before c class.parent && all_before (suc c) classes

stands_before : (c k : ℕ) (p : Option ℕ) (q : ℕ) → before k p ≡ true → p ≡ Some q → q < k
unfolding before
stands_before c k None q h e = cc
stands_before c k (Some p) q h e =
    let same : p ≡ q = cc in
    omega (arith, ltb-true p k h, same)

all_stand_before : (classes : List Class) (k c q : ℕ) → all_before k classes ≡ true → parent_of classes c ≡ Some q
    → q < c + k
unfolding all_before
all_stand_before [] k c q h e = cc
all_stand_before (class ∷ classes) k zero q h e = omega (arith, stands_before 0 k class.parent q (and_parts _ _ h).0 e)
all_stand_before (class ∷ classes) k (suc c) q h e =
    omega (arith, all_stand_before classes (suc k) c q (and_parts _ _ h).1 e)

pub builtin_ordered : ParentsStandBefore builtin
unfolding builtin all_before before
builtin_ordered c p e = omega (arith, all_stand_before builtin 0 c p refl e)

pub builtin_paths_go_up : PathsGoUp builtin
builtin_paths_go_up = paths_go_up builtin builtin_ordered

pub later_ordered : ParentsStandBefore later_builtin
unfolding builtin all_before before
later_ordered c p e = omega (arith, all_stand_before later_builtin 0 c p refl e)

pub later_paths_go_up : PathsGoUp later_builtin
later_paths_go_up = paths_go_up later_builtin later_ordered

-- a parent in a table with one class more is one of the table, or that of the last class
parent_in_longer : (table : List Class) (last : Class) (c p : ℕ) → parent_of (table ++ last ∷ []) c ≡ Some p
    → (parent_of table c ≡ Some p) ⊎ ((c ≡ length table) × (last.parent ≡ Some p))
parent_in_longer [] last zero p e = inr (refl, e)
parent_in_longer [] last (suc c) p e = cc
parent_in_longer (class ∷ table) last zero p e = inl e
parent_in_longer (class ∷ table) last (suc c) p e = elim (parent_in_longer table last c p e) [
  | inl h ↦ inl h
  | inr h ↦ inr (ap suc h.0, h.1)
]

pub declared_ordered : DeclaredClassesKeepTheOrder
declared_ordered table name parent ordered c p e = elim (parent_in_longer table _ c p e) [
  | inl h ↦ ordered c p h
  | inr h ↦ omega (arith, h.0, (found_is_first parent table p h.1).within)
]
