-- The batches that a text says: JSON, an array for each batch, whose posts are `[CALLER,POST]`.
use Rattle.std.specs.Prelude.{◌^◌, ◌-◌, ℕ, List, Option, option_and_then, option_map}
use Rattle.serde_json.specs.Data.{Data}
use Rattle.serde_json.specs.Find.{as_array}
use Rattle.serde_json.specs.Read.{read}
use Rattle.dv_forms.specs.Parts.{list_at, number_at, two}
use Rattle.dv_posts.specs.Batches.{Batch}
use Rattle.dv_posts.specs.Posts.{post}
use Rattle.dv_posts.specs.declared.posted.Posted.{Posted}

-- a caller, or the index of a post among its caller's
abbrev pub count_at : Data → Option ℕ
count_at d = number_at 0 (2 ^ 32 - 1) d

-- a post: its caller, and its index
abbrev pub posted_at : Data → Option Posted
posted_at d =
    option_and_then (λ p. option_and_then (λ caller. option_map (post caller) (count_at p.1)) (count_at p.0))
    (option_and_then two (as_array d))

-- a batch: its posts
abbrev pub batch_at : Data → Option Batch
batch_at d = list_at posted_at d

-- all batches
abbrev pub batches_at : Data → Option (List Batch)
batches_at d = list_at batch_at d

-- the batches that the value of a JSON text is
abbrev pub batches_in : List ℕ → Option (List Batch)
batches_in text = option_and_then batches_at (read text)
