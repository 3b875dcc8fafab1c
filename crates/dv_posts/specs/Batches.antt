-- Posts: what callers on threads of their own have a run perform, in batches (Twisted: `reactor.callFromThread`).
use Rattle.std.specs.Prelude.{ℕ, zero, suc, ◌≡◌, ◌≤◌, List, [], ◌∷◌, ◌++◌, Option, length, map, slice_get}
use Rattle.std.specs.Prelude.{slice_index_or}
use Rattle.dv_script.specs.declared.body.Body.{Body}
use Rattle.dv_script.specs.declared.event.Event.{Event}
use Rattle.dv_script.specs.declared.event.Event.TheVariants as event
use Rattle.dv_script.specs.declared.script.Script.{Script}
use Rattle.dv_posts.specs.Posts.{post, of}
use Rattle.dv_posts.specs.declared.posted.Posted.{Posted}

-- the bodies that each caller posts, in order
abbrev pub Callers : Type 0
Callers = List (List Body)

-- posts that are performed one after the other
abbrev pub Batch : Type 0
Batch = List Posted

-- the bodies that a caller posts
abbrev pub bodies_of : Callers → ℕ → List Body
bodies_of callers c = slice_index_or callers c []

-- the body of a post, where there is such a post
abbrev pub body_of : Callers → Posted → Option Body
body_of callers posted = slice_get (bodies_of callers posted.caller) posted.index

-- the posts of all batches, one batch after the other
abbrev pub joined : List Batch → Batch
joined [] = []
joined (batch ∷ batches) = batch ++ joined batches

-- the numbers below n, in order
abbrev pub below : ℕ → List ℕ
below zero = []
below (suc n) = below n ++ n ∷ []

-- the first n posts of a caller
abbrev pub first_posts : ℕ → ℕ → Batch
first_posts c n = map (post c) (below n)

-- all posts of a caller
abbrev pub posts_of : Callers → ℕ → Batch
posts_of callers c = first_posts c (length (bodies_of callers c))

-- these are first posts of a caller, in order
abbrev pub AreFirst : Callers → ℕ → Batch → Type 0
AreFirst callers c posts = (n : ℕ) × (n ≤ length (bodies_of callers c)) × (posts ≡ first_posts c n)

-- of each caller these hold its first posts, in order, and of nobody else any
abbrev pub AreNext : Callers → Batch → Type 0
AreNext callers posts = (c : ℕ) → AreFirst callers c (of c posts)

-- a batch for each drain, of no more posts than this takes, and one more
abbrev pub Fit : List Event → List Batch → Type 0
Fit [] [] = ⊥
Fit [] (batch ∷ batches) = batches ≡ []
Fit (event.Action action ∷ events) batches = Fit events batches
Fit (event.Advance ticks ∷ events) batches = Fit events batches
Fit (event.Expect name expected ∷ events) batches = Fit events batches
Fit (event.Drain most ∷ events) [] = ⊥
Fit (event.Drain most ∷ events) (batch ∷ batches) = (length batch ≤ most) × Fit events batches

-- a run of the script may have taken these batches
pub record AreLawful (script : Script) (batches : List Batch) : Type 0 where
  pub fit : Fit script.events batches
  pub next : AreNext script.callers (joined batches)

-- they hold all posts of the script
abbrev pub AreComplete : Script → List Batch → Type 0
AreComplete script batches = (c : ℕ) → of c (joined batches) ≡ posts_of script.callers c
