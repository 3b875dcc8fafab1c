-- The batches that an engine has taken so far.
use Rattle.std.specs.Prelude.{ℕ, ◌≡◌, ◌<◌, ◌≤◌, List, [], ◌∷◌, ◌++◌, length, slice_index_or}
use Rattle.dv_posts.specs.Posts.{of}
use Rattle.dv_posts.specs.declared.posted.Posted.{Posted}
use Rattle.dv_posts.specs.Batches.{Batch, Callers, bodies_of, first_posts, joined}

-- the bodies of the callers, and the batches that were taken of their posts
pub record Taken : Type 0 where
  pub callers : Callers
  pub batches : List Batch

-- no batch was taken yet
abbrev pub untaken : Callers → Taken
untaken callers = record { callers = callers; batches = [] }

-- one more batch
abbrev pub with_batch : Batch → Taken → Taken
with_batch batch t = record t { batches = t.batches ++ batch ∷ [] }

-- the post is the next one of its caller, of which so many were counted
abbrev pub IsNext : Callers → List ℕ → Posted → Type 0
IsNext callers counts posted =
    (posted.index < length (bodies_of callers posted.caller)) × (posted.index ≡ slice_index_or counts posted.caller 0)

-- these hold so many first posts of a caller
abbrev pub AreCounted : Callers → ℕ → Batch → ℕ → Type 0
AreCounted callers c posts n = (n ≤ length (bodies_of callers c)) × (of c posts ≡ first_posts c n)

-- so many first posts of each caller
pub record Counted (callers : Callers) (counts : List ℕ) (posts : Batch) : Type 0 where
  pub len : length counts ≡ length callers
  pub each : (c : ℕ) → AreCounted callers c posts (slice_index_or counts c 0)

-- so many first posts of each caller are in the batches
abbrev pub CountsAll : Taken → List ℕ → Type 0
CountsAll t counts = Counted t.callers counts (joined t.batches)
