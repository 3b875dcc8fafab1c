-- Firing (Twisted: the Deferred Reference; `Deferred.callback`, `Deferred.errback`).
use Rattle.std.specs.Prelude.{◌≡◌, ◌≢◌, ℕ, Bool, true, false, if◌then◌else◌, List, Option, Some, None, Result, Ok, Err}
use Rattle.std.specs.Prelude.{slice_get, slice_set}
use Rattle.dv_value.specs.declared.value.Value.{Value}
use Rattle.dv_journal.specs.Journal.{fits, with_entry}
use Rattle.dv_journal.specs.declared.entry.Entry.{Entry}
use Rattle.dv_journal.specs.declared.entry.Entry.TheVariants as entry
use Rattle.dv_journal.specs.declared.error.Stop.{Stop}
use Rattle.dv_journal.specs.declared.error.Stop.TheVariants as stop
use Rattle.dv_store.specs.State.{State}
use Rattle.dv_store.specs.declared.record.Record.{Record}
use Rattle.dv_store.specs.declared.error.AlreadyCalled.{AlreadyCalled}
use Rattle.dv_journal.specs.declared.error.Fault.{Fault}
use Rattle.dv_journal.specs.declared.error.Fault.TheVariants as fault
use Rattle.dv_store.specs.declared.store.Fired.{Fired}
use Rattle.dv_store.specs.declared.store.Fired.TheVariants.{Set, Swallowed}

-- what a firing answers, and what it leaves
abbrev pub Firing : Type 0 → Type 0 → Type 0
Firing P K = Result Fired (Fault AlreadyCalled) × State P K

-- the entry is written and then the change is made, or the entry doesn't fit and nothing changes
abbrev pub telling_firing : {P K : Type 0} → Entry → Result Fired (Fault AlreadyCalled) → List (Record P K) → State P K
    → Firing P K
telling_firing entry answer changed s =
    if fits s.1 entry then (answer, (changed, with_entry s.1 entry)) else (Err fault.Limit, s)

-- a fired record has the value that it was fired with
abbrev pub with_firing : {P K : Type 0} → Value → Record P K → Record P K
with_firing value r = record r { fired = true; value = value }

-- the next firing after the first is swallowed, or not
abbrev pub with_swallows : {P K : Type 0} → Bool → Record P K → Record P K
with_swallows swallows r = record r { swallows = swallows }

-- a firing of a fired Deferred is swallowed, once, if it is one to be swallowed; else it is called already, and no
-- record changes. Both are logged
abbrev pub fire_again : {P K : Type 0} → ℕ → Record P K → State P K → Firing P K
fire_again id r s =
    if r.swallows
    then telling_firing (entry.Swallow id) (Ok Swallowed) (slice_set s.0 id (with_swallows false r)) s
    else telling_firing (entry.Refuse id) (Err (fault.Refused (record {}))) s.0 s

-- the Deferred that is found is fired already; an id of no record changes nothing
abbrev pub fire_again_found : {P K : Type 0} → ℕ → Option (Record P K) → State P K → Firing P K
fire_again_found id None s = (Ok Set, s)
fire_again_found id (Some r) s = fire_again id r s

-- an unfired Deferred is fired; an id of no record changes nothing
abbrev pub fire_found : {P K : Type 0} → ℕ → Value → Option (Record P K) → State P K → Firing P K
fire_found id value None s = (Ok Set, s)
fire_found id value (Some r) s =
    if r.fired then fire_again id r s
    else telling_firing (entry.Fire id value) (Ok Set) (slice_set s.0 id (with_firing value r)) s

-- a Deferred is fired once, with one value
abbrev pub fire : {P K : Type 0} → ℕ → Value → State P K → Firing P K
fire id value s = fire_found id value (slice_get s.0 id) s

-- a firing did what the rule says, or ran out of memory where the rule's entry fits, and nothing changed
abbrev pub FiresUnlessMemory : {P K : Type 0} → Result Fired (Fault AlreadyCalled) → State P K → State P K → Firing P K
    → Type 0
FiresUnlessMemory (Ok fired) before after rule = (Ok fired, after) ≡ rule
FiresUnlessMemory (Err (fault.Refused reason)) before after rule = (Err (fault.Refused reason), after) ≡ rule
FiresUnlessMemory (Err fault.Limit) before after rule = (Err fault.Limit, after) ≡ rule
FiresUnlessMemory (Err fault.OutOfMemory) before after rule = (rule.0 ≢ Err fault.Limit) × (after ≡ before)
