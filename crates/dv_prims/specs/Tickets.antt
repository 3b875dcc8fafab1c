-- The tickets by which those that wait are kept, in order of asking.
use Rattle.std.specs.Prelude.{◌≡◌, ◌≤◌, ◌<◌, ℕ, Bool, true, false, nat_eq, if◌then◌else◌, List, [], ◌∷◌, Option, None}
use Rattle.std.specs.Prelude.{Some}
use Rattle.std.specs.BTreeMap.{BTreeMap, IsOrdered, get, is_at}
use Rattle.std.specs.BTreeSet.{BTreeSet, contains}
use Rattle.std.specs.Map.{values_of}
use Rattle.std.specs.Ordering.{nat_cmp, ordering_then}
use Rattle.std.specs.declared.cmp.Ordering.{Ordering}

-- a ticket, and the number of the Deferred that has it
abbrev pub Ticket : Type 0
Ticket = ℕ × ℕ

-- the Deferreds that have tickets
abbrev pub waiting_of : List Ticket → List ℕ
waiting_of tickets = values_of tickets

-- tickets below n have been given
abbrev pub AreBelow : ℕ → List Ticket → Type 0
AreBelow n [] = Unit
AreBelow n (t ∷ tickets) = (t.0 < n) × AreBelow n tickets

-- by the numbers of Deferreds, and then by their tickets
abbrev pub by_number : ℕ × ℕ → ℕ × ℕ → Ordering
by_number a b = ordering_then (nat_cmp a.0 b.0) (nat_cmp a.1 b.1)

-- whether it is d that has a ticket
abbrev pub is_held_by : ℕ → Option ℕ → Bool
is_held_by d None = false
is_held_by d (Some holder) = nat_eq d holder

-- the tickets that are held, the same by their holders, and how many were given
pub record IsKept (order : BTreeMap ℕ ℕ) (tickets : BTreeSet (ℕ × ℕ)) (given : ℕ) : Type 0 where
  pub ascends : IsOrdered nat_cmp order
  pub below : AreBelow given order.entries
  pub found : (place : ℕ × ℕ) → contains by_number tickets place ≡ is_held_by place.0 (get nat_cmp order place.1)

-- the first ticket of d, or that it has none
abbrev pub IsFirstTicket : BTreeSet (ℕ × ℕ) → ℕ → Option ℕ → Type 0
IsFirstTicket tickets d None = (t : ℕ) → contains by_number tickets (d, t) ≡ false
IsFirstTicket tickets d (Some ticket) =
    (contains by_number tickets (d, ticket) ≡ true) × ((t : ℕ) → contains by_number tickets (d, t) ≡ true → ticket ≤ t)

-- a ticket is held by d, and the others as before
abbrev pub Gives : BTreeMap ℕ ℕ → BTreeMap ℕ ℕ → ℕ → ℕ → Type 0
Gives old new ticket d = (t : ℕ) → get nat_cmp new t ≡ (if is_at (nat_cmp ticket) t then Some d else get nat_cmp old t)

-- a ticket isn't held any longer, and the others are as before
abbrev pub Frees : BTreeMap ℕ ℕ → BTreeMap ℕ ℕ → ℕ → Type 0
Frees old new ticket = (t : ℕ) → get nat_cmp new t ≡ (if is_at (nat_cmp ticket) t then None else get nat_cmp old t)

-- d is found by one ticket more
abbrev pub Joins : BTreeSet (ℕ × ℕ) → BTreeSet (ℕ × ℕ) → ℕ × ℕ → Type 0
Joins old new place =
    (other : ℕ × ℕ)
    → contains by_number new other ≡ (if is_at (by_number place) other then true else contains by_number old other)

-- d is found by one ticket less
abbrev pub Leaves : BTreeSet (ℕ × ℕ) → BTreeSet (ℕ × ℕ) → ℕ × ℕ → Type 0
Leaves old new place =
    (other : ℕ × ℕ)
    → contains by_number new other ≡ (if is_at (by_number place) other then false else contains by_number old other)

-- all are found as before
abbrev pub Keeps : BTreeSet (ℕ × ℕ) → BTreeSet (ℕ × ℕ) → Type 0
Keeps old new = (other : ℕ × ℕ) → contains by_number new other ≡ contains by_number old other
