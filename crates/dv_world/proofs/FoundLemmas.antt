-- What names stand for, where the first are looked up already.
use Rattle.std.proofs.Common.{◌≡◌, ℕ, List, [], ◌∷◌, ◌++◌, refl, ap, append_assoc}
use Rattle.dv_world.specs.Found.{with_first}
use Rattle.dv_world.specs.declared.found.Found.{Found}
use Rattle.dv_world.specs.declared.found.Found.TheVariants.{All, Unbound}

-- these, and then what the others stand for
abbrev pub with_front : List ℕ → Found → Found
with_front front (All ds) = All (front ++ ds)
with_front front (Unbound name) = Unbound name

-- nothing is looked up yet
pub none_before : (found : Found) → with_front [] found ≡ found
none_before (All ds) = refl
none_before (Unbound name) = refl

-- one more is looked up
pub one_more : (front : List ℕ) (d : ℕ) (found : Found)
    → with_front (front ++ d ∷ []) found ≡ with_front front (with_first d found)
one_more front d (All ds) = ap All (append_assoc front (d ∷ []) ds)
one_more front d (Unbound name) = refl
