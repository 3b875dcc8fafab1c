-- What an entry aside logs about the clock.
use Rattle.std.specs.Prelude.{◌≡◌, ◌≤◌, ℕ, List, None, Some, slice_get}
use Rattle.dv_journal.specs.declared.entry.Entry.{Entry}
use Rattle.dv_journal.specs.declared.entry.Entry.TheVariants as entry
use Rattle.dv_clock.specs.Clock.{Clock, Upcoming, next_call, with_call, ended, moved}
use Rattle.dv_clock.specs.Due.{scheduling, entry_when_due}
use Rattle.dv_clock.specs.declared.call.CallState.TheVariants as call_state
use Rattle.dv_clock.specs.declared.due.Due.{Due}
use Rattle.dv_clock.specs.declared.due.Due.TheVariants as what
use Rattle.dv_laws.specs.Calls.{scheduled_by, ended_by}
use Rattle.dv_laws.specs.Times.{timing_of, Untimed}

-- an entry logs nothing that waits for its time, and no time
abbrev pub IsPlain : Entry → Type 0
IsPlain e = (timing_of e ≡ Untimed) × (scheduled_by e ≡ None) × (ended_by e ≡ None)

-- the clock stays, or something is scheduled, runs, is cancelled or is due at another time, which is logged, or
-- something is dropped
pub data Clocks (e : Entry) (c : Clock) : Clock → Type 0 where
  Leaves : IsPlain e → Clocks e c c
  Adds : (due_for : Due) (due : ℕ) → e ≡ scheduling due_for due → c.time ≤ due → Clocks e c (with_call due due_for c)
  Runs : (call : Upcoming) → next_call c ≡ Some call → e ≡ entry_when_due call.what
      → Clocks e c (ended call.number call_state.Called c)
  Cancels : (number due : ℕ) (name : List ℕ) (key : ℕ)
      → slice_get c.calls number ≡ Some (record { due = due; state = call_state.Waiting (what.Call name key) })
      → e ≡ entry.Uncall name → Clocks e c (ended number call_state.Cancelled c)
  Moves : (number before due : ℕ) (name : List ℕ) (key : ℕ)
      → slice_get c.calls number ≡ Some (record { due = before; state = call_state.Waiting (what.Call name key) })
      → e ≡ entry.Reset name due → c.time ≤ due → Clocks e c (moved number due c)
  Drops : (number : ℕ) → IsPlain e → Clocks e c (ended number call_state.Dropped c)

-- what isn't logged about the clock: it stays, or something is dropped
pub data Arranges (c : Clock) : Clock → Type 0 where
  Stays : Arranges c c
  Loses : (number : ℕ) → Arranges c (ended number call_state.Dropped c)
