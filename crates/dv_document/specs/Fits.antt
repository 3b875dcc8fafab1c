-- What reading asks of a text beyond the grammar.
use Rattle.std.specs.Prelude.{ℕ, ◌+◌, ◌-◌, List, [], ◌∷◌, Bool, true, false, ◌&&◌, nat_lt, Option, Some, None, is_some}
use Rattle.json.specs.Token.{Token}
use Rattle.serde_json.specs.Read.{number_of, max_depth}

-- whether the tokens from a place on, inside so many arrays and objects, nest no deeper than 127, and each number of theirs is in range
abbrev pub fits : ℕ → List Token → Bool
fits depth [] = true
fits depth (Token.begin_object ∷ ts) = nat_lt depth max_depth && fits (depth + 1) ts
fits depth (Token.end_object ∷ ts) = fits (depth - 1) ts
fits depth (Token.begin_array ∷ ts) = nat_lt depth max_depth && fits (depth + 1) ts
fits depth (Token.end_array ∷ ts) = fits (depth - 1) ts
fits depth (Token.key s ∷ ts) = fits depth ts
fits depth (Token.string s ∷ ts) = fits depth ts
fits depth (Token.number s ∷ ts) = is_some (number_of s) && fits depth ts
fits depth (Token.boolean b ∷ ts) = fits depth ts
fits depth (Token.null ∷ ts) = fits depth ts
fits depth (Token.bad ∷ ts) = fits depth ts

-- whether they fit at that depth; at none they don't
abbrev pub fits_at : Option ℕ → List Token → Bool
fits_at None ts = false
fits_at (Some depth) ts = fits depth ts
