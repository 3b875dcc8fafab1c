-- The table of classes: each class with its parent, and what a class descends from (Twisted: `Failure.check`,
-- `Failure.trap`).
use Rattle.std.specs.Prelude.{ℕ, zero, suc, Bool, List, [], ◌∷◌, Option, slice_get, nat_eq, option_and_then, find}
use Rattle.std.specs.Prelude.{position, bytes_eq}
use Rattle.std.specs.List.{list_any}
use Rattle.std.specs.Option.{option_map_or}
use Rattle.dv_value.specs.declared.classes.Class.{Class}

-- the place of the class of this name
abbrev pub find_class : List ℕ → List Class → Option ℕ
find_class name table = position (λ class. bytes_eq class.name name) table

-- the name of the class at this place, or no name where there is none
abbrev pub name_of : List Class → ℕ → List ℕ
name_of table c = option_map_or (λ class. class.name) (slice_get table c) []

-- the class's parent, where it has one
abbrev pub parent_of : List Class → ℕ → Option ℕ
parent_of table c = option_and_then (λ class. class.parent) (slice_get table c)

-- the class, then those above it, as far as so many steps lead
abbrev pub path_within : ℕ → List Class → ℕ → List ℕ
path_within zero table c = []
path_within (suc n) table c = c ∷ option_map_or (path_within n table) (parent_of table c) []

-- the class, then the path of its parent: since a parent stands before its children, a step for each place up to the
-- class's is enough
abbrev pub path : List Class → ℕ → List ℕ
path table c = path_within (suc c) table c

-- a class descends from those on its path, itself among them
abbrev pub descends : List Class → ℕ → ℕ → Bool
descends table c from = list_any (λ d. nat_eq d from) (path table c)

-- the first of the listed classes that the class descends from
abbrev pub check : List Class → ℕ → List ℕ → Option ℕ
check table c listed = find (descends table c) listed
