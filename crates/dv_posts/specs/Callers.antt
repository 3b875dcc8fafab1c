-- The callers of a run, each on a thread of its own.
use Rattle.std.specs.Prelude.{◌≡◌, ℕ, ◌≤◌, List, length, slice_get, Some}
use Rattle.dv_posts.specs.Batches.{Batch, Callers, bodies_of, first_posts, posts_of}
use Rattle.dv_posts.specs.Posts.{of}
use Rattle.dv_posts.specs.Posts as inbox
use Rattle.dv_posts.specs.Ring.{Ring}
use Rattle.dv_posts.specs.declared.callers.Caller.{Caller}
use Rattle.dv_posts.specs.declared.callers.Caller.TheVariants.{Running, Here}
use Rattle.dv_script.specs.declared.limits.TheConstants.{MOST_CALLERS, MOST_POSTS}

-- no more callers, and no more posts of each, than an inbox has room for
pub record AreFew (callers : Callers) : Type 0 where
  pub callers_few : length callers ≤ MOST_CALLERS
  pub posts_few : (c : ℕ) → length (bodies_of callers c) ≤ MOST_POSTS

-- from this poster on, so many first posts of its caller were posted
pub record HasPosted (first : inbox.Poster) (count : ℕ) (p : inbox.Poster) : Type 0 where
  pub same : inbox.SamePoster first p
  pub posted : p.posts ≡ first_posts first.caller count

-- this is the poster of a caller over this ring, and has posted so many
pub record HasAll (ring : Ring) (c count : ℕ) (p : inbox.Poster) : Type 0 where
  pub own : p.caller ≡ c
  pub end : p.ring ≡ ring
  pub posted : p.posts ≡ first_posts c count

-- a caller of this ring, which has promised so many posts or made them
abbrev pub Serves : Ring → ℕ → ℕ → Caller → Type 0
Serves ring c count (Running handle) =
    (handle.promise.poster.value.caller ≡ c) × (handle.promise.poster.value.ring ≡ ring)
    × (handle.promise.count ≡ count)
Serves ring c count (Here poster) = HasAll ring c count poster

-- each caller of these bodies serves a ring of the inbox
pub record AllServe (bodies : Callers) (box : inbox.Inbox) (callers : List Caller) : Type 0 where
  pub len : length callers ≡ length (inbox.rings_of box)
  pub count : length (inbox.rings_of box) ≡ length bodies
  pub each : (c : ℕ) (ring : Ring) (caller : Caller) → slice_get (inbox.rings_of box) c ≡ Some ring
      → slice_get callers c ≡ Some caller → Serves ring c (length (bodies_of bodies c)) caller

-- the posters of these bodies have posted all
abbrev pub HavePosted : Callers → List inbox.Poster → Type 0
HavePosted bodies posters = (c : ℕ) → inbox.posts_of posters c ≡ posts_of bodies c

-- the posts that were taken of each caller are those of the batches
abbrev pub TookBatches : inbox.Inbox → Batch → Type 0
TookBatches box posts = (c : ℕ) → of c posts ≡ inbox.taken_of box c
