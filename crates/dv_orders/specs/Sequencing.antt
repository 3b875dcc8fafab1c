-- The sequences of the callers' posts, from one on: each caller has so many posts, and so many of them are taken.
use Rattle.std.specs.Prelude.{◌≡◌, ◌+◌, ◌-◌, ◌^◌, ◌<◌, ◌≤◌, nat_lt, if◌then◌else◌, Bool, ℕ, zero, suc, Option, None}
use Rattle.std.specs.Prelude.{Some, List, [], ◌∷◌, ◌++◌, length, map, flat_map, reverse, slice_index, slice_set, sum, ⊤}
use Rattle.std.specs.List.{range_with_len}
use Rattle.dv_posts.specs.Batches.{Batch}
use Rattle.dv_posts.specs.Posts.{post}
use Rattle.dv_posts.specs.declared.posted.Posted.{Posted}

-- whether the caller has a post that isn't taken
abbrev pub has_left : List ℕ → List ℕ → ℕ → Bool
has_left counts taken caller = nat_lt (slice_index taken caller) (slice_index counts caller)

-- one more post of the caller is taken
abbrev pub with_taken : List ℕ → ℕ → List ℕ
with_taken taken caller = slice_set taken caller (slice_index taken caller + 1)

-- how many posts aren't taken
abbrev pub left_over : List ℕ → List ℕ → ℕ
left_over counts taken = sum counts - sum taken

-- every sequence of so many more posts: the next one of a caller that has one left, of each caller in turn, and then
-- the others
unfoldable pub sequences_on : List ℕ → ℕ → List ℕ → List Batch
sequences_on counts zero taken = [] ∷ []
sequences_on counts (suc count) taken =
    flat_map (λ caller. if has_left counts taken caller then map (λ sequence. post caller (slice_index taken caller)
    ∷ sequence) (sequences_on counts count (with_taken taken caller)) else []) (range_with_len 0 (length counts))

-- those that begin with the next post of this caller, and so many more
unfoldable pub sequences_by : List ℕ → ℕ → List ℕ → ℕ → List Batch
sequences_by counts count taken caller =
    if has_left counts taken caller then map (λ sequence. post caller (slice_index taken caller) ∷ sequence)
    (sequences_on counts count (with_taken taken caller)) else []

-- those that begin with the next post of this caller, or of one after it
unfoldable pub sequences_from : List ℕ → ℕ → List ℕ → ℕ → List Batch
sequences_from counts count taken caller =
    flat_map (sequences_by counts count taken) (range_with_len caller (length counts - caller))

-- those that are listed after all that begin with these posts, of which the last stands first: the last one is replaced
-- by the next of a later caller, and then the one before it is
unfoldable pub sequences_beyond : List ℕ → ℕ → List ℕ → List Posted → List Batch
sequences_beyond counts count taken [] = []
sequences_beyond counts count taken (posted ∷ before) =
    let back = slice_set taken posted.caller posted.index in
    map (λ sequence. reverse before ++ sequence) (sequences_from counts count back (posted.caller + 1))
    ++ sequences_beyond counts (suc count) back before

-- the sequences that are listed after all that begin with these posts, by which so many of each caller are taken
abbrev pub later_sequences : List ℕ → List ℕ → Batch → List Batch
later_sequences counts taken posts = sequences_beyond counts (left_over counts taken) taken (reverse posts)

-- those, and before them the sequences that begin with these posts, and go on with the next one of this caller or of
-- one after it
abbrev pub sequences_through : List ℕ → List ℕ → Batch → ℕ → List Batch
sequences_through counts taken posts caller =
    map (λ sequence. posts ++ sequence) (sequences_from counts (left_over counts taken - 1) taken caller)
    ++ later_sequences counts taken posts

-- those, and before them all sequences that begin with these posts
abbrev pub listed_sequences : List ℕ → List ℕ → Batch → List Batch
listed_sequences counts taken posts =
    map (λ sequence. posts ++ sequence) (sequences_on counts (left_over counts taken) taken)
    ++ later_sequences counts taken posts

-- these posts, of which the last stands first, can be given back one after the other
abbrev pub AreTaken : List ℕ → List Posted → Type 0
AreTaken taken [] = ⊤
AreTaken taken (posted ∷ before) =
    (posted.caller < length taken) × (slice_index taken posted.caller ≡ posted.index + 1)
    × AreTaken (slice_set taken posted.caller posted.index) before

-- so many posts of each caller are taken, by this sequence
pub record IsPath (counts taken : List ℕ) (posts : Batch) : Type 0 where
  pub few : length counts < 2 ^ 32
  pub len : length taken ≡ length counts
  pub within : (caller : ℕ) → slice_index taken caller ≤ slice_index counts caller
  pub count : length posts ≡ sum taken
  pub back : AreTaken taken (reverse posts)

-- what a search for a caller with a post left answers, from this caller on
abbrev pub FindsCaller : Option ℕ → List ℕ → List ℕ → ℕ → Type 0
FindsCaller None counts taken from = (caller : ℕ) → from ≤ caller → slice_index counts caller ≤ slice_index taken caller
FindsCaller (Some caller) counts taken from =
    (from ≤ caller) × (caller < length counts) × (slice_index taken caller < slice_index counts caller)
    × ((k : ℕ) → from ≤ k → k < caller → slice_index counts k ≤ slice_index taken k)
