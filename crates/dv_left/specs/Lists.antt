-- Lists that items join by number.
use Rattle.std.specs.Prelude.{ℕ, nat_eq, List, [], ◌∷◌, ◌++◌, map, Option, Some, None, slice_get, slice_set}
use Rattle.std.specs.List.{filter}

-- an item joins the list that is found, last
abbrev pub joined_found : {A : Type 0} → ℕ → A → Option (List A) → List (List A) → List (List A)
joined_found number item None lists = lists
joined_found number item (Some list) lists = slice_set lists number (list ++ item ∷ [])

-- an item joins the list of a number; where there is none, nothing changes
abbrev pub joined : {A : Type 0} → ℕ → A → List (List A) → List (List A)
joined number item lists = joined_found number item (slice_get lists number) lists

-- items join the lists of their numbers, one after the other
abbrev pub all_joined : {A : Type 0} → List (ℕ × A) → List (List A) → List (List A)
all_joined [] lists = lists
all_joined (link ∷ links) lists = all_joined links (joined link.0 link.1 lists)

-- the list that is found, or an empty one
abbrev pub list_found : {A : Type 0} → Option (List A) → List A
list_found None = []
list_found (Some list) = list

-- the list of a number
abbrev pub list_at : {A : Type 0} → ℕ → List (List A) → List A
list_at number lists = list_found (slice_get lists number)

-- the items of a number, in order
abbrev pub items_of : {A : Type 0} → ℕ → List (ℕ × A) → List A
items_of number links = map (λ link. link.1) (filter (λ link. nat_eq link.0 number) links)
