-- Posts from callers, each over a ring of its own, and the inbox that takes them.
use Rattle.std.specs.Prelude.{◌≡◌, ◌≢◌, ◌⊎◌, ℕ, ◌+◌, ◌^◌, ◌-◌, ◌<◌, ◌≤◌, ◌==◌, min, List, [], ◌∷◌, ◌++◌, length, map}
use Rattle.std.specs.Prelude.{slice_index_or, slice_get, Some}
use Rattle.std.specs.List.{filter}
use mathlib.Core.List.{IsPrefix}
use Rattle.dv_posts.specs.Ring.{Ring}
use Rattle.dv_posts.specs.declared.posted.Posted.{Posted}

-- the post of a caller by its index
abbrev pub post : ℕ → ℕ → Posted
post caller index = record { caller = caller; index = index }

-- the posts of a caller among these
abbrev pub of : ℕ → List Posted → List Posted
of caller posts = filter (λ posted. posted.caller == caller) posts

-- a poster: its caller, its ring, for how many posts that has room, and the posts that were accepted, in order
pub record Poster : Type 0 where
  pub caller : ℕ
  pub ring : Ring
  pub capacity : ℕ
  pub posts : List Posted

-- the posts of a poster that were accepted, in order
abbrev pub posted_by : Poster → List Posted
posted_by p = p.posts

-- for how many posts its ring has room
abbrev pub capacity_of : Poster → ℕ
capacity_of p = p.capacity

-- a post is accepted
abbrev pub with_post : Posted → Poster → Poster
with_post posted p = record p { posts = p.posts ++ posted ∷ [] }

-- the same poster, whatever it posted
abbrev pub SamePoster : Poster → Poster → Type 0
SamePoster old new = (new.caller ≡ old.caller) × (new.ring ≡ old.ring) × (new.capacity ≡ old.capacity)

-- nothing was posted yet, with this much room
abbrev pub IsFresh : ℕ → Poster → Type 0
IsFresh capacity p = (posted_by p ≡ []) × (capacity_of p ≡ capacity)

-- where a caller's posts are taken: its ring, and the indices of the posts that were taken, and of those that were seen
-- since, in order
pub record Receiver : Type 0 where
  pub ring : Ring
  pub taken : List ℕ
  pub seen : List ℕ

-- what is known of a caller's posts: those that were taken, and then those that were seen
abbrev pub known : Receiver → List ℕ
known r = r.taken ++ r.seen

-- an inbox: where the posts of each caller are taken, and the caller that is looked at first
pub record Inbox : Type 0 where
  pub receivers : List Receiver
  pub next : ℕ

-- how many callers there are
abbrev pub callers_of : Inbox → ℕ
callers_of inbox = length inbox.receivers

-- the ring of each caller
abbrev pub rings_of : Inbox → List Ring
rings_of inbox = map (λ r. r.ring) inbox.receivers

-- the same inbox, whatever was taken
abbrev pub SameInbox : Inbox → Inbox → Type 0
SameInbox old new = rings_of new ≡ rings_of old

-- the posts that were taken of a caller, in order
abbrev pub taken_of : Inbox → ℕ → List Posted
taken_of inbox caller = map (post caller) (slice_index_or (map (λ r. r.taken) inbox.receivers) caller [])

-- the posts that are known of a caller, in order, of which the first ones were taken
abbrev pub known_of : Inbox → ℕ → List Posted
known_of inbox caller = map (post caller) (slice_index_or (map known inbox.receivers) caller [])

-- all that is known of a caller was taken
abbrev pub IsTaken : Inbox → ℕ → Type 0
IsTaken inbox caller = known_of inbox caller ≡ taken_of inbox caller

-- all that is known was taken
abbrev pub AllTaken : Inbox → Type 0
AllTaken inbox = (caller : ℕ) → IsTaken inbox caller

-- there are so many callers, of which nothing is known
pub record IsNew (callers : ℕ) (inbox : Inbox) : Type 0 where
  pub count : callers_of inbox ≡ callers
  pub unknown : (caller : ℕ) → known_of inbox caller ≡ []
  pub untaken : (caller : ℕ) → taken_of inbox caller ≡ []
  pub turn : inbox.next ≡ 0

-- the poster is of this inbox: its ring is its caller's
abbrev pub IsOf : Inbox → Poster → Type 0
IsOf inbox p = slice_get (rings_of inbox) p.caller ≡ Some p.ring

-- each poster is of the caller at its place, and of that caller's ring
pub record ArePosters (rings : List Ring) (posters : List Poster) : Type 0 where
  pub count : length posters ≡ length rings
  pub each : (k : ℕ) (p : Poster) → slice_get posters k ≡ Some p
      → (p.caller ≡ k) × (slice_get rings p.caller ≡ Some p.ring)

-- these are all posters of this inbox, in the order of the callers
abbrev pub AreOf : Inbox → List Poster → Type 0
AreOf inbox posters = ArePosters (rings_of inbox) posters

-- going round the callers from `next` on, this caller is passed before the one that is reached
abbrev pub IsPassed : ℕ → ℕ → ℕ → Type 0
IsPassed next to caller = ((next ≤ caller) × (caller < to)) ⊎ ((to < next) × ((next ≤ caller) ⊎ (caller < to)))

-- a post is taken: the next one of its caller, of which more may be known than before. Nothing changes of the other
-- callers. All that was known of those that were passed had been taken, and the next time the caller after this one is
-- looked at first
pub record Takes (old new : Inbox) (posted : Posted) : Type 0 where
  pub within : posted.caller < callers_of old
  pub passed : (caller : ℕ) → IsPassed old.next posted.caller caller → IsTaken old caller
  pub turn : new.next ≡ posted.caller + 1
  pub next : taken_of new posted.caller ≡ taken_of old posted.caller ++ posted ∷ []
  pub more : IsPrefix (known_of old posted.caller) (known_of new posted.caller)
  pub others : (caller : ℕ) → caller ≢ posted.caller
      → (taken_of new caller ≡ taken_of old caller) × (known_of new caller ≡ known_of old caller)

-- all that this poster posted is known, nothing is taken, and nothing changes of the other callers
pub record Learns (old : Inbox) (p : Poster) (new : Inbox) : Type 0 where
  pub all : known_of new p.caller ≡ posted_by p
  pub untaken : (caller : ℕ) → taken_of new caller ≡ taken_of old caller
  pub others : (caller : ℕ) → caller ≢ p.caller → known_of new caller ≡ known_of old caller
  pub turn : new.next ≡ old.next

-- what a caller's poster posted, where these are the posters of all
abbrev pub posts_of : List Poster → ℕ → List Posted
posts_of posters caller = slice_index_or (map posted_by posters) caller []

-- the rest: of each caller, what was taken and then its part of the rest is all that its poster posted, in order
abbrev pub IsRest : Inbox → List Poster → List Posted → Type 0
IsRest inbox posters rest = (caller : ℕ) → taken_of inbox caller ++ of caller rest ≡ posts_of posters caller

-- how many were taken, or the greatest number of 32 bits where there were more
abbrev pub count_of : List ℕ → ℕ
count_of taken = min (length taken) (2 ^ 32 - 1)

-- how many posts of each caller were taken
abbrev pub counts_of : Inbox → List ℕ
counts_of inbox = map (λ r. count_of r.taken) inbox.receivers
