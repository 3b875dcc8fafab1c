-- What tells an outcome of a run from others: the lines that came in it, whichever Deferred was made first.
use Rattle.std.specs.Prelude.{◌≡◌, ◌<◌, ℕ, zero, suc, ◌+◌, nat_eq, Bool, false, if◌then◌else◌, List, [], ◌∷◌, ◌++◌}
use Rattle.std.specs.Prelude.{codes, flat_map, length, map, slice_index_or}
use Rattle.std.specs.Int.Digits.{digits_of}
use Rattle.std.specs.List.{list_any}
use Rattle.dv_posts.specs.Batches.{below}
use Rattle.dv_survey.specs.Texts.{place_of, with_text}
use Rattle.dv_survey.specs.declared.lines.Line.{Line}

-- the places of lines among those that were met, where each is added in turn
abbrev pub places_after : List (List ℕ) → List Line → List ℕ
places_after texts [] = []
places_after texts (line ∷ lines) = place_of line.text texts ∷ places_after (with_text line.text texts) lines

-- the decimal digits of a place, however large it is
unfoldable pub place_text : ℕ → List ℕ
place_text zero = codes "0"
place_text (suc n) = map (λ digit. 48 + digit) (digits_of 10 (suc n))

-- a place, or nothing
abbrev pub place_if : Bool → ℕ → List ℕ
place_if came place = if came then place_text place ++ codes " " else []

-- the places below this length that are among these, in order and each once
abbrev pub outcome_text : List ℕ → ℕ → List ℕ
outcome_text places len = flat_map (λ place. place_if (list_any (nat_eq place) places) place) (below len)

-- so many marks, of which those of these places are set
pub record Marks (marks : List Bool) (places : List ℕ) (len : ℕ) : Type 0 where
  pub all : length marks ≡ len
  pub each : (k : ℕ) → k < len → slice_index_or marks k false ≡ list_any (nat_eq k) places
