-- A side that gives a Deferred (Twisted: the Deferred Reference, "Chaining Deferreds"; `Deferred._runCallbacks`).
use Rattle.std.specs.Prelude.{ℕ, Bool, false, not, ◌||◌, nat_eq, is_some, if◌then◌else◌, List, Option, Some, None}
use Rattle.std.specs.Prelude.{slice_get}
use Rattle.std.specs.Option.{option_map_or}
use Rattle.dv_value.specs.declared.value.Value.{Value}
use Rattle.dv_value.specs.declared.value.Value.TheVariants.{Null}
use Rattle.dv_journal.specs.declared.entry.Entry.TheVariants as entry
use Rattle.dv_store.specs.Callbacks.{with_result}
use Rattle.dv_store.specs.Record.{with_item, changing}
use Rattle.dv_journal.specs.Telling.{untold, telling}
use Rattle.dv_store.specs.State.{State, Told}
use Rattle.dv_store.specs.declared.record.Item.TheVariants.{HandOver}
use Rattle.dv_store.specs.declared.record.Record.{Record}
use Rattle.dv_store.specs.declared.store.Placed.{Placed}
use Rattle.dv_store.specs.declared.store.Placed.TheVariants.{Taken, Waits}

-- no side of it runs, and it waits for e
abbrev pub with_wait : {P K : Type 0} → ℕ → Record P K → Record P K
with_wait e r = record r { waits_for = Some e; running = false }

-- its value is null
abbrev pub without_value : {P K : Type 0} → Record P K → Record P K
without_value r = record r { value = Null }

-- e has no value to take yet: it is d itself, unfired, paused, or waits for another
abbrev pub is_pending : {P K : Type 0} → ℕ → ℕ → Record P K → Bool
is_pending d e r = nat_eq d e || not r.fired || not (nat_eq r.pauses 0) || is_some r.waits_for

-- e is to hand its value over to d, which waits for it
abbrev pub waiting : {P K : Type 0} → ℕ → ℕ → List (Record P K) → List (Record P K)
waiting d e rs = changing d (with_wait e) (changing e (with_item (HandOver d)) rs)

-- d gets the value of e, and that of e is null
abbrev pub taking : {P K : Type 0} → ℕ → ℕ → Value → List (Record P K) → List (Record P K)
taking d e value rs = changing d (with_result value) (changing e without_value rs)

-- the value of a Deferred; null where there is none
abbrev pub value_at : {P K : Type 0} → ℕ → List (Record P K) → Value
value_at e rs = option_map_or (λ r. r.value) (slice_get rs e) Null

-- d waits for e, or takes its value at once
abbrev pub put_from : {P K : Type 0} → ℕ → ℕ → Record P K → State P K → Told Placed P K
put_from d e r s =
    if is_pending d e r
    then telling (entry.Wait d e) Waits (waiting d e s.0) s
    else telling (entry.Take d e r.value) Taken (taking d e r.value s.0) s

-- an id of no record changes nothing
abbrev pub put_deferred_found : {P K : Type 0} → ℕ → ℕ → Option (Record P K) → Option (Record P K) → State P K
    → Told Placed P K
put_deferred_found d e None given s = untold Waits s
put_deferred_found d e (Some r) None s = untold Waits s
put_deferred_found d e (Some r) (Some given) s = put_from d e given s

-- a side of d has ended with the Deferred e
unfoldable pub put_deferred : {P K : Type 0} → ℕ → ℕ → State P K → Told Placed P K
put_deferred d e s = put_deferred_found d e (slice_get s.0 d) (slice_get s.0 e) s
