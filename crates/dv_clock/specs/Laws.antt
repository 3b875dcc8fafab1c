-- What holds of every clock.
use Rattle.std.specs.Prelude.{◌≡◌, ◌≢◌, ◌≤◌, ◌<◌, ℕ, true, false, Some, None, slice_get}
use Rattle.dv_journal.specs.Journal.{Written, fits}
use Rattle.dv_clock.specs.Clock.{Clock, Upcoming, is_waiting, next_call, scheduled_at, advance_to, due, cancel, reset}
use Rattle.dv_clock.specs.Clock.{ended}
use Rattle.dv_clock.specs.Due.{entry_when_due}
use Rattle.dv_clock.specs.LoopingCall.{loop_next, IsNextTurn}
use Rattle.dv_clock.specs.Turns.{Turns, is_among, joined, left, turn_of}
use Rattle.dv_script.specs.declared.turn_rule.TurnRule.{TurnRule}
use Rattle.dv_clock.specs.declared.call.Call.{Call}
use Rattle.dv_clock.specs.declared.call.CallState.TheVariants.{Waiting, Dropped}
use Rattle.dv_clock.specs.declared.delay_from.DelayFrom.{DelayFrom}
use Rattle.dv_clock.specs.declared.due.Due.{Due}

-- a call is due, and of all that wait it is due first, and of those that are due with it, it was scheduled first
pub record RunsBeforeOthers (c : Clock) (next : Upcoming) : Type 0 where
  pub waits : slice_get c.calls next.number ≡ Some (record { due = next.due; state = Waiting next.what })
  pub is_due : next.due ≤ c.time
  pub soonest : (n due : ℕ) (what : Due) → slice_get c.calls n ≡ Some (record { due = due; state = Waiting what })
      → next.due ≤ due
  pub in_order : (n : ℕ) (what : Due) → slice_get c.calls n ≡ Some (record { due = next.due; state = Waiting what })
      → next.number ≤ n

-- so is the call that runs next
abbrev pub TheFirstRunsNext : Type 0
TheFirstRunsNext = (c : Clock) (next : Upcoming) → next_call c ≡ Some next → RunsBeforeOthers c next

-- where no call runs next, each that waits is due later than now
abbrev pub WhatIsDueRuns : Type 0
WhatIsDueRuns =
    (c : Clock) → next_call c ≡ None → (n due : ℕ) (what : Due)
    → slice_get c.calls n ≡ Some (record { due = due; state = Waiting what }) → c.time < due

-- what a clock results in, whatever is done with it
pub data Becomes (c : Clock) : Clock → Type 0 where
  Same : Becomes c c
  Schedules : (d : Clock) (j : Written) (what : Due) (due : ℕ) → Becomes c d
      → Becomes c (scheduled_at what due (d, j)).1.0
  Advances : (d : Clock) (j : Written) (time : ℕ) → d.time ≤ time → Becomes c d → Becomes c (advance_to time (d, j)).1.0
  Runs : (d : Clock) (j : Written) → Becomes c d → Becomes c (due (d, j)).1.0
  Cancels : (d : Clock) (j : Written) (n : ℕ) → Becomes c d → Becomes c (cancel n (d, j)).1.0
  Resets : (d : Clock) (j : Written) (n : ℕ) (from : DelayFrom) (delay : ℕ) → Becomes c d
      → Becomes c (reset n from delay (d, j)).1.0
  Drops : (d : Clock) (n : ℕ) → Becomes c d → Becomes c (ended n Dropped d)

-- time never goes back
abbrev pub TimeNeverGoesBack : Type 0
TimeNeverGoesBack = (c d : Clock) → Becomes c d → c.time ≤ d.time

-- a call that was called, cancelled or dropped never runs again
abbrev pub EndedCallsNeverRun : Type 0
EndedCallsNeverRun =
    (c d : Clock) (n : ℕ) (call : Call) (next : Upcoming) → slice_get c.calls n ≡ Some call
    → is_waiting call.state ≡ false → Becomes c d → next_call d ≡ Some next → next.number ≢ n

-- a call that runs never runs again
abbrev pub CallsRunOnceAtMost : Type 0
CallsRunOnceAtMost =
    (c d : Clock) (j : Written) (once again : Upcoming) → next_call c ≡ Some once
    → fits j (entry_when_due once.what) ≡ true
    → Becomes (due (c, j)).1.0 d → next_call d ≡ Some again → again.number ≢ once.number

-- a loop's next turn is at the first time after now that is a whole number of intervals after its start
abbrev pub TheNextTurnIsTheFirstLater : Type 0
TheNextTurnIsTheFirstLater =
    (start interval now : ℕ) → start ≤ now → 0 < interval → IsNextTurn start interval now (loop_next start interval now)

-- by the rules that skip nobody, when a task leaves, it is still the turn of the task whose turn it was, if that is
-- another
abbrev pub SkipsNobody : TurnRule → Type 0
SkipsNobody rule =
    (t : Turns) (task u : ℕ) → t.rule ≡ rule → turn_of t ≡ Some u → u ≢ task → turn_of (left task t) ≡ Some u

-- a task that joins after one that took turns has left doesn't take the turn of another
abbrev pub NobodyOvertakes : TurnRule → Type 0
NobodyOvertakes rule =
    (t : Turns) (task other u : ℕ) → t.rule ≡ rule → is_among task t.tasks ≡ true → turn_of (left task t) ≡ Some u
    → turn_of (joined other (left task t)) ≡ Some u
