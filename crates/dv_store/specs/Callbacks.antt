-- One item used (Twisted: the Deferred Reference, "Callbacks" and "Chaining Deferreds"; `Deferred.addCallbacks`).
use Rattle.std.specs.Prelude.{ℕ, Bool, true, false, not, ◌&&◌, nat_eq, is_none, option_and_then, if◌then◌else◌, List}
use Rattle.std.specs.Prelude.{[], ◌∷◌, drop, Option, Some, None, slice_get, slice_set}
use Rattle.dv_value.specs.Failure.{is_fault}
use Rattle.dv_value.specs.declared.value.Value.{Value}
use Rattle.dv_value.specs.declared.value.Value.TheVariants.{Null}
use Rattle.dv_journal.specs.declared.entry.Entry.TheVariants as entry
use Rattle.dv_store.specs.Record.{changing}
use Rattle.dv_journal.specs.Telling.{untold, telling}
use Rattle.dv_store.specs.State.{State, Told}
use Rattle.dv_store.specs.declared.record.Item.{Item}
use Rattle.dv_store.specs.declared.record.Item.TheVariants as item
use Rattle.dv_store.specs.declared.record.Record.{Record}
use Rattle.dv_store.specs.declared.store.Step.{Step}
use Rattle.dv_store.specs.declared.store.Step.TheVariants.{Nothing, Passed, Run, Handed}

-- what a step did, and what it leaves
abbrev pub Stepped : Type 0 → Type 0 → Type 0
Stepped P K = Told (Step P) P K

-- a Deferred is ready once it is fired, while no side of it runs, it isn't paused, and it waits for no other
abbrev pub is_ready : {P K : Type 0} → Record P K → Bool
is_ready r = r.fired && not r.running && nat_eq r.pauses 0 && is_none r.waits_for

-- a Deferred that waited gets a value, and waits no longer
abbrev pub with_handed : {P K : Type 0} → Value → Record P K → Record P K
with_handed value r = record r { value = value; waits_for = None }

-- the value is handed over to c, and this one's is null
abbrev pub hand : {P K : Type 0} → ℕ → ℕ → Record P K → List (Item P) → State P K → Stepped P K
hand id c r rest s =
    telling (entry.Hand id c r.value) (Handed c)
    (changing c (with_handed r.value) (slice_set s.0 id (record r { items = rest; value = Null }))) s

-- the first item of the Deferred that is found is used up so; an id of no record changes nothing
abbrev pub hand_found : {P K : Type 0} → ℕ → ℕ → Option (Record P K) → State P K → Stepped P K
hand_found id c None s = untold Nothing s
hand_found id c (Some r) s = hand id c r (drop 1 r.items) s

-- its first item is used up
abbrev pub without_first : {P K : Type 0} → Record P K → Record P K
without_first r = record r { items = drop 1 r.items }

-- the first item of a Deferred, where it has one
abbrev pub first_of : {P K : Type 0} → ℕ → List (Record P K) → Option (Item P)
first_of id rs = option_and_then (λ r. slice_get r.items 0) (slice_get rs id)

-- an item is there, and is a pair
abbrev pub is_pair : {P : Type 0} → Option (Item P) → Bool
is_pair None = false
is_pair (Some (item.Pair pair)) = true
is_pair (Some (item.HandOver c)) = false

-- the side of a pair runs, and the pair is used up
abbrev pub run_pair : {P K : Type 0} → ℕ → Record P K → P → List (Item P) → State P K → Stepped P K
run_pair id r pair rest s =
    telling (entry.Run id) (Run pair) (slice_set s.0 id (record r { items = rest; running = true })) s

-- the side of this item runs, where it is a pair
abbrev pub run_item : {P K : Type 0} → ℕ → Record P K → Option (Item P) → State P K → Stepped P K
run_item id r None s = untold Nothing s
run_item id r (Some (item.Pair pair)) s = run_pair id r pair (drop 1 r.items) s
run_item id r (Some (item.HandOver c)) s = untold Nothing s

-- the side of the first item of the Deferred that is found runs; an id of no record changes nothing
abbrev pub run_found : {P K : Type 0} → ℕ → Option (Record P K) → State P K → Stepped P K
run_found id None s = untold Nothing s
run_found id (Some r) s = run_item id r (slice_get r.items 0) s

module _ {P K : Type 0} (passes_at : P → Bool → Bool) where
  -- a pair without a side for the value passes it on, which isn't logged; else its side runs
  abbrev pub use_pair : ℕ → Record P K → P → List (Item P) → State P K → Stepped P K
  use_pair id r pair rest s =
      if passes_at pair (is_fault r.value)
      then untold Passed (slice_set s.0 id (record r { items = rest }), s.1)
      else run_pair id r pair rest s

  -- a pair is run or passes the value on, and a hand-over hands it over
  abbrev pub use_item : ℕ → Record P K → Item P → List (Item P) → State P K → Stepped P K
  use_item id r (item.Pair pair) rest s = use_pair id r pair rest s
  use_item id r (item.HandOver c) rest s = hand id c r rest s

  -- items are used in the order in which they were added, each once
  abbrev pub use_first : ℕ → Record P K → List (Item P) → State P K → Stepped P K
  use_first id r [] s = untold Nothing s
  use_first id r (item ∷ rest) s = use_item id r item rest s

  -- only a ready Deferred uses an item; an id of no record changes nothing
  abbrev pub step_found : ℕ → Option (Record P K) → State P K → Stepped P K
  step_found id None s = untold Nothing s
  step_found id (Some r) s = if is_ready r then use_first id r r.items s else untold Nothing s

  -- one step of a Deferred
  unfoldable pub step : ℕ → State P K → Stepped P K
  step id s = step_found id (slice_get s.0 id) s

-- what a side gave is the value, and no side runs
abbrev pub with_result : {P K : Type 0} → Value → Record P K → Record P K
with_result value r = record r { value = value; running = false }

-- a side of the Deferred that is found has ended; an id of no record changes nothing
abbrev pub put_found : {P K : Type 0} → ℕ → Value → Option (Record P K) → State P K → Told Unit P K
put_found id value None s = untold tt s
put_found id value (Some r) s = telling (entry.Set id value) tt (slice_set s.0 id (with_result value r)) s

-- a side of a Deferred has ended with this
abbrev pub put : {P K : Type 0} → ℕ → Value → State P K → Told Unit P K
put id value s = put_found id value (slice_get s.0 id) s
