-- What was put into a queue is what was taken and what it holds, however the items are weighed.
use Rattle.std.specs.Prelude.{◌≡◌, ℕ, ◌+◌, List, [], ◌∷◌}
use mathlib.Core.Option.{some}
use lib.ListN.{get_elem?}
use Rattle.dv_pool.specs.declared.rule.Hand.{Hand}

-- the parts that there are of the right to know the whole
abbrev pub all_parts : ℕ
all_parts = 1024

module _ {T : Type 0} where
  -- so many parts, and what was put and taken
  abbrev pub hand : ℕ → List T → List T → Hand T
  hand parts put taken = record { parts = parts; put = put; taken = taken }

  -- the weights of the items, added up
  abbrev pub weigh : (T → ℕ) → List T → ℕ
  weigh h [] = 0
  weigh h (x ∷ xs) = h x + weigh h xs

  -- f of each hand, added up
  abbrev pub total : (Hand T → ℕ) → List (Hand T) → ℕ
  total f [] = 0
  total f (v ∷ vs) = f v + total f vs

  -- a hand with no part has put and taken nothing
  abbrev pub IdleIsEmpty : List (Hand T) → Type 0
  IdleIsEmpty hands =
      (port : ℕ) (v : Hand T) → get_elem? hands port ≡ some v → v.parts ≡ 0 → (v.put ≡ []) × (v.taken ≡ [])

  -- all parts are in some hand, and what the hands have put weighs what they have taken and what the queue holds
  abbrev pub Balanced : List T → List (Hand T) → Type 0
  Balanced items hands =
      (total (λ v. v.parts) hands ≡ all_parts)
      × ((h : T → ℕ) → total (λ v. weigh h v.put) hands ≡ total (λ v. weigh h v.taken) hands + weigh h items)
      × IdleIsEmpty hands

  -- what a hand with every part knows of the items
  abbrev pub Settles : Hand T → List T → Type 0
  Settles v items = v.parts ≡ all_parts → (h : T → ℕ) → weigh h v.put ≡ weigh h v.taken + weigh h items

  -- all that was put was taken
  abbrev pub IsEmptied : Hand T → Type 0
  IsEmptied v = (h : T → ℕ) → weigh h v.put ≡ weigh h v.taken

  -- what a hand with every part knows where it finds the queue empty
  abbrev pub FindsEmptied : Hand T → Type 0
  FindsEmptied v = v.parts ≡ all_parts → IsEmptied v
