-- The form of the names of a script of a version.
use Rattle.std.specs.Prelude.{ℕ, Bool, false, ◌&&◌, ◌||◌, nat_le, nat_eq, List, [], ◌∷◌, length, bytes_eq, codes}
use Rattle.std.specs.List.{list_all}
use Rattle.dv_forms.specs.declared.versions.TheConstants.{MARKS_SINCE}

-- from the first bound to the second
abbrev pub is_within : ℕ → ℕ → ℕ → Bool
is_within low high x = nat_le low x && nat_le x high

-- A to Z, a to z, 0 to 9, `_`
abbrev pub is_letter : ℕ → Bool
is_letter x = is_within 65 90 x || is_within 97 122 x || is_within 48 57 x || nat_eq x 95

-- `-`, `.`, `:`
abbrev pub is_mark : ℕ → Bool
is_mark x = nat_eq x 45 || nat_eq x 46 || nat_eq x 58

-- a letter, or a mark in a version that has them in names
abbrev pub is_character : ℕ → ℕ → Bool
is_character version x = is_letter x || (nat_le MARKS_SINCE version && is_mark x)

-- a name has 1 to 32 of these characters, and the first is a letter
unfoldable pub is_name : ℕ → List ℕ → Bool
is_name version [] = false
is_name version (first ∷ rest) =
    nat_le (length rest) 31 && is_letter first && list_all (is_character version) rest

-- where a Deferred that is there is named, `@` is a name too
unfoldable pub names_one : ℕ → List ℕ → Bool
names_one version name = bytes_eq name (codes "@") || is_name version name
