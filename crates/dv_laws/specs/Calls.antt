-- What a journal logs of delayed calls, and of what else waits for its time (Twisted: `callLater`,
-- `DelayedCall.cancel`).
use Rattle.std.specs.Prelude.{ℕ, ◌≡◌, ◌≤◌, Bool, true, false, nat_eq, bytes_eq, if◌then◌else◌, List, ◌∷◌, ◌++◌, Option}
use Rattle.std.specs.Prelude.{None, Some, fold, sum_by}
use Rattle.dv_journal.specs.declared.entry.Entry.{Entry}
use Rattle.dv_journal.specs.declared.entry.Entry.TheVariants as entry
use Rattle.dv_journal.specs.Told as tells
use Rattle.dv_journal.specs.Told.{Timed, Called, Ticking, TickingIn, Delivered, TimedOut, Told, told_of}
use Rattle.dv_script.specs.declared.script.Script.{Script}
use Rattle.dv_engine.specs.Report.{Reports}
use Rattle.dv_engine.specs.declared.report.Report.{Report}
use Rattle.dv_laws.specs.Once.{Stands}
use Rattle.dv_laws.specs.Places.{AtEachPlace, OfEachEntry}
use Rattle.dv_laws.specs.Times.{Timing, timing_of, Untimed, Advances, Schedules}

-- the two are the same
abbrev pub is_same : Timed → Timed → Bool
is_same (Called name) (Called other) = bytes_eq name other
is_same (Called name) Ticking = false
is_same (Called name) (TickingIn other) = false
is_same (Called name) (Delivered other) = false
is_same (Called name) (TimedOut other) = false
is_same Ticking (Called other) = false
is_same Ticking Ticking = true
is_same Ticking (TickingIn other) = false
is_same Ticking (Delivered other) = false
is_same Ticking (TimedOut other) = false
is_same (TickingIn name) (Called other) = false
is_same (TickingIn name) Ticking = false
is_same (TickingIn name) (TickingIn other) = bytes_eq name other
is_same (TickingIn name) (Delivered other) = false
is_same (TickingIn name) (TimedOut other) = false
is_same (Delivered job) (Called other) = false
is_same (Delivered job) Ticking = false
is_same (Delivered job) (TickingIn other) = false
is_same (Delivered job) (Delivered other) = nat_eq job other
is_same (Delivered job) (TimedOut other) = false
is_same (TimedOut d) (Called other) = false
is_same (TimedOut d) Ticking = false
is_same (TimedOut d) (TickingIn other) = false
is_same (TimedOut d) (Delivered other) = false
is_same (TimedOut d) (TimedOut other) = nat_eq d other

-- it counts one where it is the same
abbrev pub count_of : Timed → Option Timed → ℕ
count_of t None = 0
count_of t (Some other) = if is_same t other then 1 else 0

-- what an entry logs as scheduled
abbrev pub scheduled_in : Told → Option Timed
scheduled_in tells.Other = None
scheduled_in (tells.Changes change) = None
scheduled_in (tells.Schedules timed due) = Some timed
scheduled_in (tells.SchedulesTurn due) = None
scheduled_in (tells.Ends timed) = None
scheduled_in (tells.Reschedules timed due) = Some timed
scheduled_in (tells.Advances time) = None
scheduled_in tells.IsUnhandled = None
scheduled_in tells.IsUnmet = None

abbrev pub scheduled_by : Entry → Option Timed
scheduled_by e = scheduled_in (told_of e)

-- what it logs as waiting no longer: it is run, or is a delayed call that is cancelled, or that is due at another time
abbrev pub ended_in : Told → Option Timed
ended_in tells.Other = None
ended_in (tells.Changes change) = None
ended_in (tells.Schedules timed due) = None
ended_in (tells.SchedulesTurn due) = None
ended_in (tells.Ends timed) = Some timed
ended_in (tells.Reschedules timed due) = Some timed
ended_in (tells.Advances time) = None
ended_in tells.IsUnhandled = None
ended_in tells.IsUnmet = None

abbrev pub ended_by : Entry → Option Timed
ended_by e = ended_in (told_of e)

-- how often it is scheduled, and how often it waits no longer, as is logged
abbrev pub schedulings : Timed → List Entry → ℕ
schedulings t entries = sum_by (λ e. count_of t (scheduled_by e)) entries

abbrev pub endings : Timed → List Entry → ℕ
endings t entries = sum_by (λ e. count_of t (ended_by e)) entries

-- what is logged when it is scheduled, and when it is run
abbrev pub later_of : Timed → ℕ → Entry
later_of (Called name) due = entry.LaterCall name due
later_of Ticking due = entry.LaterTick due
later_of (TickingIn name) due = entry.LaterTickIn name due
later_of (Delivered job) due = entry.LaterJob job due
later_of (TimedOut d) due = entry.LaterTimeout d due

abbrev pub run_of : Timed → Entry
run_of (Called name) = entry.Call name
run_of Ticking = entry.Tick
run_of (TickingIn name) = entry.TickIn name
run_of (Delivered job) = entry.Deliver job
run_of (TimedOut d) = entry.Timeout d

-- the time after one more entry, and by all that was logged
abbrev pub time_after : ℕ → Timing → ℕ
time_after time Untimed = time
time_after time (Advances later) = later
time_after time (Schedules due) = time

abbrev pub time_by : List Entry → ℕ
time_by entries = fold (λ time e. time_after time (timing_of e)) 0 entries

-- it was scheduled for this time, or is a delayed call that was given this time anew
pub data IsSetFor (t : Timed) (due : ℕ) (told : List Entry) : Type 0 where
  Scheduled : Stands (later_of t due) told → IsSetFor t due told
  Reset : (name : List ℕ) → t ≡ Called name → Stands (entry.Reset name due) told → IsSetFor t due told

-- it was scheduled, or scheduled anew, and is due by now
pub record WasDue (t : Timed) (told : List Entry) : Type 0 where
  pub due : ℕ
  pub scheduled : IsSetFor t due told
  pub by_now : due ≤ time_by told

-- what is scheduled is run, cancelled or scheduled anew once at most each time, and not run before its time
pub record RunsInTime (t : Timed) (entries : List Entry) : Type 0 where
  pub once : AtEachPlace (λ told. endings t told ≤ schedulings t told) entries
  pub due : OfEachEntry (λ told x. x ≡ run_of t → WasDue t told) entries

-- in a run each call that is scheduled is run once at most, not after it was cancelled and not before its time, by its
-- report
abbrev pub CallsRunOnceInTime : Type 0
CallsRunOnceInTime =
    (script : Script) (report : Report) → Reports script report → (t : Timed) → RunsInTime t report.journal.entries

-- it was scheduled once, due at this time, and never anew
pub record ScheduledOnce (t : Timed) (due : ℕ) (told : List Entry) : Type 0 where
  pub once : schedulings t told ≡ 1
  pub scheduled : Stands (later_of t due) told

-- it was scheduled once by then, due at this time, and has run
pub record HasRun (t : Timed) (due : ℕ) (told : List Entry) : Type 0 where
  pub before : List Entry
  pub later : List Entry
  pub ran : told ≡ before ++ run_of t ∷ later
  pub scheduled : ScheduledOnce t due before

-- one entry stands before another
pub record Precedes (x y : Entry) (entries : List Entry) : Type 0 where
  pub before : List Entry
  pub between : List Entry
  pub later : List Entry
  pub among : entries ≡ before ++ x ∷ (between ++ y ∷ later)

-- the one is due earlier than the other, or both at one time, and then it was scheduled first
pub record IsFirst (t u : Timed) (first second : ℕ) (told : List Entry) : Type 0 where
  pub earlier : first ≤ second
  pub in_order : first ≡ second → Precedes (later_of t first) (later_of u second) told

-- of two that are scheduled once each, the one that is due earlier runs first, and of those that are due at one time
-- the one that was scheduled first
abbrev pub RunsInOrder : Timed → Timed → List Entry → Type 0
RunsInOrder t u entries =
    OfEachEntry (λ told x. x ≡ run_of u → (first second : ℕ) → HasRun t first told → ScheduledOnce u second told
    → IsFirst t u first second told) entries

-- in a run calls run in the order of the times that they are due at, and then in that of their scheduling, by its
-- report
abbrev pub CallsRunInOrder : Type 0
CallsRunInOrder =
    (script : Script) (report : Report) → Reports script report → (t u : Timed) → RunsInOrder t u report.journal.entries
