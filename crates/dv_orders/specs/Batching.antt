-- The ways to cut a sequence into batches, from one on: how many posts each drain takes, and which batches these are.
use Rattle.std.specs.Prelude.{◌+◌, ◌-◌, ℕ, suc, List, [], ◌∷◌, ◌++◌, length, map, flat_map, min, reverse, take, drop}
use Rattle.std.specs.List.{range_with_len}
use Rattle.dv_posts.specs.Batches.{Batch}

-- how many posts each drain takes, in every way: the first one none, one and so on, no more than it may and than there
-- are, and then the others
unfoldable pub lengths_of : List ℕ → ℕ → List (List ℕ)
lengths_of [] count = [] ∷ []
lengths_of (most ∷ drains) count =
    flat_map (λ taken. map (λ lengths. taken ∷ lengths) (lengths_of drains (count - taken)))
    (range_with_len 0 (suc (min most count)))

-- those in which the first drain takes so many, or more
unfoldable pub lengths_from : List ℕ → ℕ → ℕ → List (List ℕ)
lengths_from [] count least = []
lengths_from (most ∷ drains) count least =
    flat_map (λ taken. map (λ lengths. taken ∷ lengths) (lengths_of drains (count - taken)))
    (range_with_len least (suc (min most count) - least))

-- those that are listed after all in which the first drains take so many, of which the last stands first, and leave a
-- count of posts: the last one takes more, and then the one before it does
unfoldable pub lengths_beyond : List ℕ → ℕ → List ℕ → List (List ℕ)
lengths_beyond drains left [] = []
lengths_beyond drains left (taken ∷ before) =
    map (λ lengths. reverse before ++ lengths) (lengths_from (drop (length before) drains) (left + taken) (taken + 1))
    ++ lengths_beyond drains (left + taken) before

-- the ways that are listed after this one, which leaves a count of posts for the end
abbrev pub later_lengths : List ℕ → ℕ → List ℕ → List (List ℕ)
later_lengths drains left lengths = lengths_beyond drains left (reverse lengths)

-- the batches of these lengths, and one more with what is left
abbrev pub cut_by : List ℕ → Batch → List Batch
cut_by [] posts = posts ∷ []
cut_by (length ∷ lengths) posts = take length posts ∷ cut_by lengths (drop length posts)
