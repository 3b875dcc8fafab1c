-- Different texts, in the order in which they were first met.
use Rattle.std.specs.Prelude.{ℕ, List, [], ◌∷◌, ◌++◌, if◌then◌else◌, bytes_eq}
use Rattle.std.specs.List.{list_any, position_or_len}

-- a text is added at the end, unless it is there
abbrev pub with_text : List ℕ → List (List ℕ) → List (List ℕ)
with_text text texts = if list_any (bytes_eq text) texts then texts else texts ++ text ∷ []

-- the place of a text: where it is, or the end
abbrev pub place_of : List ℕ → List (List ℕ) → ℕ
place_of text texts = position_or_len (bytes_eq text) texts
