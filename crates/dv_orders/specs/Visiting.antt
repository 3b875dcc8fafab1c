-- Visiting the orders of a script, one after the other.
use Rattle.std.specs.Prelude.{ℕ, List, ◌++◌}
use Rattle.dv_posts.specs.Batches.{Batch}

-- where any orders were seen before, under any mark, these were seen after them
abbrev pub SeesMore : {V : Type 0} → (V → List ℕ → List (List Batch) → Type 0) → V → V → List (List Batch) → Type 0
SeesMore has_seen old new orders =
    (mark : List ℕ) (seen : List (List Batch)) → has_seen old mark seen → has_seen new mark (seen ++ orders)
