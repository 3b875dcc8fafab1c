-- Pausing (Twisted: `Deferred.pause`, `Deferred.unpause`).
use Rattle.std.specs.Prelude.{◌≡◌, ◌≢◌, ℕ, ◌+◌, ◌-◌, nat_eq, if◌then◌else◌, List, Option, Some, None, Result, Ok, Err}
use Rattle.std.specs.Prelude.{slice_get, slice_set}
use Rattle.std.specs.Option.{option_map_or}
use Rattle.dv_journal.specs.Journal.{fits, with_entry}
use Rattle.dv_journal.specs.declared.entry.Entry.TheVariants as entry
use Rattle.dv_journal.specs.declared.error.Stop.{Stop}
use Rattle.dv_journal.specs.declared.error.Stop.TheVariants as stop
use Rattle.dv_journal.specs.Telling.{untold, telling}
use Rattle.dv_store.specs.State.{State, Told}
use Rattle.dv_store.specs.declared.record.Record.{Record}
use Rattle.dv_store.specs.declared.error.NotPaused.{NotPaused}
use Rattle.dv_journal.specs.declared.error.Fault.{Fault}
use Rattle.dv_journal.specs.declared.error.Fault.TheVariants as fault

-- how often a Deferred is paused; never where there is none
abbrev pub pauses_of : {P K : Type 0} → ℕ → List (Record P K) → ℕ
pauses_of id rs = option_map_or (λ r. r.pauses) (slice_get rs id) 0

-- so many pauses
abbrev pub with_pauses : {P K : Type 0} → ℕ → Record P K → Record P K
with_pauses n r = record r { pauses = n }

-- the Deferred that is found is paused once more; an id of no record changes nothing
abbrev pub pause_found : {P K : Type 0} → ℕ → Option (Record P K) → State P K → Told Unit P K
pause_found id None s = untold tt s
pause_found id (Some r) s = telling (entry.Pause id) tt (slice_set s.0 id (with_pauses (r.pauses + 1) r)) s

-- a Deferred is paused once more
abbrev pub pause : {P K : Type 0} → ℕ → State P K → Told Unit P K
pause id s = pause_found id (slice_get s.0 id) s

-- what an unpausing answers, and what it leaves
abbrev pub Unpaused : Type 0 → Type 0 → Type 0
Unpaused P K = Result Unit (Fault NotPaused) × State P K

-- the entry is written and the count goes down, or the entry doesn't fit and nothing changes
abbrev pub less_paused : {P K : Type 0} → ℕ → Record P K → State P K → Unpaused P K
less_paused id r s =
    if fits s.1 (entry.Unpause id)
    then (Ok tt, (slice_set s.0 id (with_pauses (r.pauses - 1) r), with_entry s.1 (entry.Unpause id)))
    else (Err fault.Limit, s)

-- the Deferred that is found is paused once less, where it is paused; an id of no record changes nothing
abbrev pub unpause_found : {P K : Type 0} → ℕ → Option (Record P K) → State P K → Unpaused P K
unpause_found id None s = (Ok tt, s)
unpause_found id (Some r) s = if nat_eq r.pauses 0 then (Err (fault.Refused (record {})), s) else less_paused id r s

-- a Deferred is paused once less
abbrev pub unpause : {P K : Type 0} → ℕ → State P K → Unpaused P K
unpause id s = unpause_found id (slice_get s.0 id) s

-- an unpausing did what the rule says, or ran out of memory where the rule has no other reason to refuse it, and
-- nothing changed
abbrev pub UnpausesUnlessMemory : {P K : Type 0} → Result Unit (Fault NotPaused) → State P K → State P K → Unpaused P K
    → Type 0
UnpausesUnlessMemory (Ok done) before after rule = (Ok done, after) ≡ rule
UnpausesUnlessMemory (Err (fault.Refused reason)) before after rule = (Err (fault.Refused reason), after) ≡ rule
UnpausesUnlessMemory (Err fault.Limit) before after rule = (Err fault.Limit, after) ≡ rule
UnpausesUnlessMemory (Err fault.OutOfMemory) before after rule =
    ((reason : NotPaused) → rule.0 ≢ Err (fault.Refused reason)) × (rule.0 ≢ Err fault.Limit) × (after ≡ before)
