-- Every order in which the posts of a script may be taken, in batches.
use Rattle.std.specs.Prelude.{ℕ, zero, suc, ◌+◌, List, [], ◌∷◌, length, map, flat_map}
use Rattle.dv_script.specs.declared.event.Event.{Event}
use Rattle.dv_script.specs.declared.event.Event.TheVariants as event
use Rattle.dv_script.specs.declared.script.Script.{Script}
use Rattle.dv_posts.specs.Batches.{Batch, Callers, first_posts}
use Rattle.dv_posts.specs.declared.posted.Posted.{Posted}

-- a post that may be taken next, and what is then left of the posts of each caller
pub record Choice : Type 0 where
  pub posted : Posted
  pub left : List Batch

-- the choice among the posts of other callers, where these posts of one more caller are left
abbrev pub beside : Batch → Choice → Choice
beside posts choice = record { posted = choice.posted; left = posts ∷ choice.left }

-- what may be taken next: the first post that is left of a caller, of each caller in turn
abbrev pub choices : List Batch → List Choice
choices [] = []
choices ([] ∷ callers) = map (beside []) (choices callers)
choices ((posted ∷ posts) ∷ callers) =
    record { posted = posted; left = posts ∷ callers } ∷ map (beside (posted ∷ posts)) (choices callers)

-- every sequence in which so many posts may be taken: one that may be taken next, and then the others
abbrev pub sequences : ℕ → List Batch → List Batch
sequences zero left = [] ∷ []
sequences (suc count) left =
    flat_map (λ choice. map (λ sequence. choice.posted ∷ sequence) (sequences count choice.left)) (choices left)

-- the first posts of a sequence, and those that follow
pub record Split : Type 0 where
  pub taken : Batch
  pub left : Batch

-- the same split, with one post more before it
abbrev pub after_post : Posted → Split → Split
after_post posted split = record { taken = posted ∷ split.taken; left = split.left }

-- every way to take first posts of a sequence, so many at most: none, one, and so on
abbrev pub splits : ℕ → Batch → List Split
splits zero sequence = record { taken = []; left = sequence } ∷ []
splits (suc most) [] = record { taken = []; left = [] } ∷ []
splits (suc most) (posted ∷ sequence) =
    record { taken = []; left = posted ∷ sequence } ∷ map (after_post posted) (splits most sequence)

-- every way to cut a sequence into batches: first posts of it at each drain, no more than the drain takes, and at the
-- end what is left
abbrev pub cuts : List Event → Batch → List (List Batch)
cuts [] sequence = (sequence ∷ []) ∷ []
cuts (event.Action action ∷ events) sequence = cuts events sequence
cuts (event.Advance ticks ∷ events) sequence = cuts events sequence
cuts (event.Expect name expected ∷ events) sequence = cuts events sequence
cuts (event.Drain most ∷ events) sequence =
    flat_map (λ split. map (λ batches. split.taken ∷ batches) (cuts events split.left)) (splits most sequence)

-- the posts of these callers, the first of whom has this number
abbrev pub posts_from : ℕ → Callers → List Batch
posts_from c [] = []
posts_from c (bodies ∷ callers) = first_posts c (length bodies) ∷ posts_from (suc c) callers

-- how many posts each caller has
abbrev pub counts_of : {A : Type 0} → List (List A) → List ℕ
counts_of callers = map (λ posts. length posts) callers

-- how many these are together
abbrev pub total : List ℕ → ℕ
total [] = 0
total (count ∷ counts) = count + total counts

-- every sequence of all posts of these callers, each cut in every way
abbrev pub orders_of : Callers → List Event → List (List Batch)
orders_of callers events = flat_map (cuts events) (sequences (total (counts_of callers)) (posts_from 0 callers))

-- an empty batch for each drain, and one for the end
abbrev pub empty_batches : List Event → List Batch
empty_batches [] = [] ∷ []
empty_batches (event.Action action ∷ events) = empty_batches events
empty_batches (event.Advance ticks ∷ events) = empty_batches events
empty_batches (event.Expect name expected ∷ events) = empty_batches events
empty_batches (event.Drain most ∷ events) = [] ∷ empty_batches events

-- every order in which the posts of a script may be taken
abbrev pub orders : Script → List (List Batch)
orders script = orders_of script.callers script.events
