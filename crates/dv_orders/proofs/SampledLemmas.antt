-- The orders that are drawn are in the list.
use Rattle.std.proofs.Common.{arith, ◌≡◌, ℕ, zero, suc, ◌%◌, ◌-◌, ◌<◌, ◌∙◌, List, [], ◌∷◌, Some, length, slice_get}
use Rattle.std.proofs.Common.{slice_index_or, refl, ap, sym}
use Rattle.std.proofs.Math.Nat.{mod-lt}
use Rattle.std.proofs.lemmas.List.Elements.{All-cons, All-nil}
use mathlib.Core.Logic.{inl, inr}
use Rattle.dv_posts.specs.Batches.{Batch}
use Rattle.dv_script.specs.declared.script.Script.{Script}
use Rattle.dv_orders.specs.Listed.{AreOrder}
use Rattle.dv_orders.specs.Orders.{orders}
use Rattle.dv_orders.specs.Sampled.{SamplesAreOrders, drawn_at, sampled}
use Rattle.dv_orders.specs.Sampling.{next_state, number_of, state_used}
use Rattle.dv_orders.proofs.Listing.{every_order}
use Rattle.dv_orders.proofs.Members.{In, contains_from}
use Rattle.dv_orders.proofs.NumberLemmas.{there_is_one}

pub some_there : {X : Type 0} (xs : List X) (n : ℕ) (other : X) → n < length xs
    → slice_get xs n ≡ Some (slice_index_or xs n other)
some_there [] n other low = absurd (omega (arith, low))
some_there (x ∷ xs) zero other low = refl
some_there (x ∷ xs) (suc n) other low = some_there xs n other (omega (arith, low))

in_there : {X : Type 0} (xs : List X) (n : ℕ) (other : X) → n < length xs → In (slice_index_or xs n other) xs
in_there [] n other low = absurd (omega (arith, low))
in_there (x ∷ xs) zero other low = inl refl
in_there (x ∷ xs) (suc n) other low = inr (in_there xs n other (omega (arith, low)))

-- what stands at a place of the list is an order
pub order_there : (script : Script) (n : ℕ) → n < length (orders script)
    → AreOrder script (slice_index_or (orders script) n [])
order_there script n low =
    (every_order script (slice_index_or (orders script) n [])).1
    (contains_from (slice_index_or (orders script) n []) (orders script) (in_there (orders script) n [] low))

pub all_orders : SamplesAreOrders
all_orders script zero state = All-nil (AreOrder script)
all_orders script (suc size) state =
    let next = state_used (length (orders script)) 63 (next_state state) in
    All-cons (AreOrder script) (drawn_at script next) (sampled script size next)
    (order_there script (number_of next % length (orders script)) (mod-lt (number_of next) (there_is_one script)))
    (all_orders script size next)

-- the first that is drawn, and those after it
pub sampled_next : (script : Script) (left state count next : ℕ) → 0 < left → count ≡ length (orders script)
    → next ≡ state_used count 63 (next_state state)
    → sampled script left state ≡ drawn_at script next ∷ sampled script (left - 1) next
sampled_next script zero state count next some number is = absurd (omega (arith, some))
sampled_next script (suc left) state count next some number is =
    let e : suc left - 1 ≡ left = omega arith in
    ap (λ s. drawn_at script s ∷ sampled script left s) (sym (is ∙ ap (λ n. state_used n 63 (next_state state)) number))
    ∙ ap (λ k. drawn_at script next ∷ sampled script k next) (sym e)
