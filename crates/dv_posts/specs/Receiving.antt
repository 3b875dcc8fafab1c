-- What the inbox does at one of its rings.
use Rattle.std.specs.Prelude.{◌≡◌, ℕ, ◌<◌, ◌≤◌, List, [], ◌∷◌, ◌++◌, length, map, slice_index_or, slice_set}
use mathlib.Core.List.{IsPrefix}
use Rattle.dv_posts.specs.Posts.{Inbox, IsPassed, Poster, Receiver, post, posted_by}
use Rattle.dv_posts.specs.declared.posted.Posted.{Posted}

-- the next index is taken, and more may be seen than before
pub record Gives (old new : Receiver) (index : ℕ) : Type 0 where
  pub ring : new.ring ≡ old.ring
  pub next : new.taken ≡ old.taken ++ index ∷ []
  pub more : IsPrefix old.seen (index ∷ new.seen)

-- the post is taken where its caller's are
pub record TakesAt (old new : List Receiver) (posted : Posted) : Type 0 where
  pub before : Receiver
  pub after : Receiver
  pub within : posted.caller < length old
  pub is : before ≡ slice_index_or old posted.caller before
  pub gives : Gives before after posted.index
  pub set : new ≡ slice_set old posted.caller after

-- all that was seen there, from one caller to another, was taken
abbrev pub AreRead : ℕ → ℕ → List Receiver → Type 0
AreRead from to receivers = (k : ℕ) (d : Receiver) → from ≤ k → k < to → (slice_index_or receivers k d).seen ≡ []

-- all that was seen of the callers that are passed was taken
abbrev pub ArePassed : ℕ → ℕ → List Receiver → Type 0
ArePassed next to receivers =
    (k : ℕ) (d : Receiver) → k < length receivers → IsPassed next to k → (slice_index_or receivers k d).seen ≡ []

-- these receivers, with the first looked at first
abbrev pub inbox_of : List Receiver → Inbox
inbox_of receivers = record { receivers = receivers; next = 0 }

-- what is left of a caller's posts now stands behind others
pub record Leaves (r : Receiver) (p : Poster) (old new : List Posted) : Type 0 where
  pub left : List ℕ
  pub all : map (post p.caller) (r.taken ++ left) ≡ posted_by p
  pub moved : new ≡ old ++ map (post p.caller) left
