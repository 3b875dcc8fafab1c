-- What is kept of a Deferred, and how one is made (Twisted: the Deferred Reference, "Deferreds").
use Rattle.std.specs.Prelude.{ℕ, false, List, [], ◌∷◌, ◌++◌, ◌-◌, length, take, Option, Some, None, slice_get}
use Rattle.std.specs.Prelude.{slice_set}
use Rattle.dv_value.specs.declared.value.Value.TheVariants.{Null}
use Rattle.dv_journal.specs.declared.entry.Entry.TheVariants.{New, Name, Add}
use Rattle.dv_journal.specs.Telling.{untold, telling}
use Rattle.dv_store.specs.State.{State, Told}
use Rattle.dv_store.specs.declared.record.Item.{Item}
use Rattle.dv_store.specs.declared.record.Item.TheVariants.{Pair}
use Rattle.dv_store.specs.declared.record.Record.{Record}

-- a new Deferred is unfired, and has no pairs
abbrev pub new_record : {P K : Type 0} → Option (List ℕ) → Option K → Record P K
new_record name canceller =
    record {
      name = name;
      fired = false;
      value = Null;
      items = [];
      pauses = 0;
      waits_for = None;
      running = false;
      swallows = false;
      canceller = canceller;
    }

-- a Deferred is made after the others, and known by their number
abbrev pub make : {P K : Type 0} → Option (List ℕ) → Option K → State P K → Told ℕ P K
make name canceller s = telling (New (length s.0) name) (length s.0) (s.0 ++ new_record name canceller ∷ []) s

-- the name that a Deferred gets is logged; what is kept of it is its name at its making
abbrev pub log_name : {P K : Type 0} → ℕ → List ℕ → State P K → Told Unit P K
log_name id name s = telling (Name id (Some name)) tt s.0 s

-- an item is added after those that aren't used yet
abbrev pub with_item : {P K : Type 0} → Item P → Record P K → Record P K
with_item item r = record r { items = r.items ++ item ∷ [] }

-- the item that was added last is dropped
abbrev pub without_last : {P K : Type 0} → Record P K → Record P K
without_last r = record r { items = take (length r.items - 1) r.items }

-- a pair is added to the Deferred that is found; an id of no record changes nothing
abbrev pub append_found : {P K : Type 0} → ℕ → P → Option (Record P K) → State P K → Told Unit P K
append_found id pair None s = untold tt s
append_found id pair (Some r) s = telling (Add id) tt (slice_set s.0 id (with_item (Pair pair) r)) s

-- a pair is added to a Deferred
abbrev pub append : {P K : Type 0} → ℕ → P → State P K → Told Unit P K
append id pair s = append_found id pair (slice_get s.0 id) s

-- the record that is found is changed; an id of no record changes nothing
abbrev pub changed : {P K : Type 0} → ℕ → (Record P K → Record P K) → Option (Record P K) → List (Record P K)
    → List (Record P K)
changed id change None rs = rs
changed id change (Some r) rs = slice_set rs id (change r)

-- one record is changed
abbrev pub changing : {P K : Type 0} → ℕ → (Record P K → Record P K) → List (Record P K) → List (Record P K)
changing id change rs = changed id change (slice_get rs id) rs
