-- Where a number falls among the pieces of a list, by their lengths. This is part of the code: what `order_of` returns
-- is said by `orders` alone.
use Rattle.std.specs.Prelude.{◌≡◌, ◌+◌, ◌-◌, ◌<◌, ◌≤◌, ℕ, zero, suc, Option, None, Some, List, [], ◌∷◌, length}
use Rattle.dv_orders.specs.Sequencing.{left_over, sequences_by}
use Rattle.dv_orders.specs.declared.ranking.Place.{Place}

-- how long the pieces before this one are together
abbrev pub length_before : (ℕ → ℕ) → ℕ → ℕ
length_before sizes zero = 0
length_before sizes (suc piece) = length_before sizes piece + sizes piece

-- the piece in which a number falls, and its number there; none where it is past so many pieces
abbrev pub FallsIn : Option Place → (ℕ → ℕ) → ℕ → ℕ → Type 0
FallsIn None sizes pieces number = length_before sizes pieces ≤ number
FallsIn (Some place) sizes pieces number =
    (place.piece < pieces) × (place.number < sizes place.piece)
    × (number ≡ length_before sizes place.piece + place.number)

-- how many posts each caller has left
abbrev pub left_counts : List ℕ → List ℕ → List ℕ
left_counts [] taken = []
left_counts (count ∷ counts) [] = count ∷ left_counts counts []
left_counts (count ∷ counts) (t ∷ taken) = (count - t) ∷ left_counts counts taken

-- how many sequences go on with the next post of this caller
abbrev pub number_by : List ℕ → List ℕ → ℕ → ℕ
number_by counts taken caller = length (sequences_by counts (left_over counts taken - 1) taken caller)
