-- What several names stand for, looked up from left to right.
use Rattle.std.specs.Prelude.{ℕ, List, [], ◌∷◌, Option, None, Some}
use Rattle.dv_world.specs.World.{World, deferred_at}
use Rattle.dv_world.specs.declared.found.Found.{Found}
use Rattle.dv_world.specs.declared.found.Found.TheVariants.{All, Unbound}

-- one more, before the others
abbrev pub with_first : ℕ → Found → Found
with_first d (All ds) = All (d ∷ ds)
with_first d (Unbound name) = Unbound name

-- by what the first name stands for, and then the others
abbrev pub first_found : Option ℕ → List ℕ → Found → Found
first_found None name rest = Unbound name
first_found (Some d) name rest = with_first d rest

-- the Deferreds that names stand for, or the first of them that isn't bound
abbrev pub deferreds_at : Option ℕ → List (List ℕ) → World → Found
deferreds_at itself [] w = All []
deferreds_at itself (name ∷ names) w = first_found (deferred_at itself name w) name (deferreds_at itself names w)
