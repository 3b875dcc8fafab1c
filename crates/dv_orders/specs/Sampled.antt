-- The orders of a script that a seed draws.
use Rattle.std.specs.Prelude.{ℕ, zero, suc, ◌%◌, List, [], ◌∷◌, length, slice_index_or, All}
use Rattle.dv_posts.specs.Batches.{Batch}
use Rattle.dv_script.specs.declared.script.Script.{Script}
use Rattle.dv_orders.specs.Listed.{AreOrder}
use Rattle.dv_orders.specs.Orders.{orders}
use Rattle.dv_orders.specs.Sampling.{next_state, number_of, state_used}

-- the order at the place in the list that a state of the generator gives
abbrev pub drawn_at : Script → ℕ → List Batch
drawn_at script state = slice_index_or (orders script) (number_of state % length (orders script)) []

-- so many orders, each drawn from all of them, where the generator has this state before the first
abbrev pub sampled : Script → ℕ → ℕ → List (List Batch)
sampled script zero state = []
sampled script (suc size) state =
    let next = state_used (length (orders script)) 63 (next_state state) in
    drawn_at script next ∷ sampled script size next

-- what is drawn are orders of the script
abbrev pub SamplesAreOrders : Type 0
SamplesAreOrders = (script : Script) (size state : ℕ) → All (AreOrder script) (sampled script size state)
