-- The orders of a script from one on: a sequence of all posts, and a way to cut it.
use Rattle.std.specs.Prelude.{◌≡◌, ◌+◌, ◌^◌, ◌<◌, ℕ, List, ◌++◌, length, map, flat_map, sum}
use Rattle.dv_posts.specs.Batches.{Batch}
use Rattle.dv_orders.specs.Batching.{cut_by, later_lengths, lengths_of}
use Rattle.dv_orders.specs.Sequencing.{IsPath, later_sequences}
use Rattle.dv_orders.specs.declared.order.Order.{Order}

-- the batches of an order
abbrev pub batches_of : Order → List Batch
batches_of order = cut_by order.cut.lengths.items order.sequence.posts.items

-- a sequence, cut in every way
abbrev pub all_cuts : List ℕ → Batch → List (List Batch)
all_cuts drains posts = map (λ lengths. cut_by lengths posts) (lengths_of drains (length posts))

-- the orders that are listed after this one: its sequence is cut in the ways after its own, and each sequence after it
-- in every way
abbrev pub later_orders : Order → List (List Batch)
later_orders order =
    map (λ lengths. cut_by lengths order.sequence.posts.items)
    (later_lengths order.drains.items order.cut.left order.cut.lengths.items)
    ++ flat_map (all_cuts order.drains.items)
    (later_sequences order.sequence.counts.items order.sequence.taken.items order.sequence.posts.items)

-- its sequence has all posts, and its batches have those of the sequence
pub record IsWhole (order : Order) : Type 0 where
  pub path : IsPath order.sequence.counts.items order.sequence.taken.items order.sequence.posts.items
  pub all : length order.sequence.posts.items ≡ sum order.sequence.counts.items
  pub drains : length order.cut.lengths.items ≡ length order.drains.items
  pub cut : sum order.cut.lengths.items + order.cut.left ≡ length order.sequence.posts.items
  pub fits : length order.sequence.posts.items < 2 ^ 64
