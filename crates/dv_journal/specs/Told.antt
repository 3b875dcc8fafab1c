-- What an entry logs: about Deferreds, about what waits for its time, about the time, and about failures.
use Rattle.std.specs.Prelude.{ℕ, Bool, true, false, List, Option}
use Rattle.dv_value.specs.declared.value.Value.{Value}
use Rattle.dv_journal.specs.declared.entry.Entry.{Entry}
use Rattle.dv_journal.specs.declared.entry.Entry.TheVariants as entry

-- no Deferred changes; or one is made, gets a pair, is fired, has a further firing swallowed or refused, has a side
-- run, gets what a side gave, takes the value of another, waits for another, hands its value to another, is paused, is
-- unpaused, or is cancelled
pub data Change : Type 0 where
  Aside : Change
  Makes : (d : ℕ) (name : Option (List ℕ)) → Change
  Adds : (d : ℕ) → Change
  Fires : (d : ℕ) (value : Value) → Change
  Swallows : (d : ℕ) → Change
  Refuses : (d : ℕ) → Change
  Runs : (d : ℕ) → Change
  Sets : (d : ℕ) (value : Value) → Change
  Takes : (d e : ℕ) (value : Value) → Change
  Waits : (d e : ℕ) → Change
  Hands : (e d : ℕ) (value : Value) → Change
  Pauses : (d : ℕ) → Change
  Unpauses : (d : ℕ) → Change
  Cancels : (d : ℕ) → Change

-- what waits for its time: a delayed call of the script, by its name; the cooperator's tick, or that of one that the script names; the delivery of a job's
-- result; a timer of a Deferred. A turn of a loop isn't among these, since a first turn may be taken without waiting
pub data Timed : Type 0 where
  Called : (name : List ℕ) → Timed
  Ticking : Timed
  TickingIn : (name : List ℕ) → Timed
  Delivered : (job : ℕ) → Timed
  TimedOut : (d : ℕ) → Timed

-- nothing that is asked for below; or what changes of a Deferred; or that something is scheduled, which is due then; or
-- that a turn of a loop is; or that something waits no longer: it is run, or is a delayed call that is cancelled; or
-- that it is scheduled anew, and waits no longer for the time before; or that time goes on to this; or that a failure
-- is unhandled; or that a Deferred isn't as the script expects
pub data Told : Type 0 where
  Other : Told
  Changes : (change : Change) → Told
  Schedules : (timed : Timed) (due : ℕ) → Told
  SchedulesTurn : (due : ℕ) → Told
  Ends : (timed : Timed) → Told
  Reschedules : (timed : Timed) (due : ℕ) → Told
  Advances : (time : ℕ) → Told
  IsUnhandled : Told
  IsUnmet : Told

-- what an entry logs
abbrev pub told_of : Entry → Told
told_of (entry.New id name) = Changes (Makes id name)
told_of (entry.Name id name) = Other
told_of (entry.Add id) = Changes (Adds id)
told_of (entry.Fire id value) = Changes (Fires id value)
told_of (entry.Swallow id) = Changes (Swallows id)
told_of (entry.Refuse id) = Changes (Refuses id)
told_of (entry.Run id) = Changes (Runs id)
told_of (entry.Set id value) = Changes (Sets id value)
told_of (entry.Take id from value) = Changes (Takes id from value)
told_of (entry.Wait id on) = Changes (Waits id on)
told_of (entry.Hand from id value) = Changes (Hands from id value)
told_of (entry.Pause id) = Changes (Pauses id)
told_of (entry.Unpause id) = Changes (Unpauses id)
told_of (entry.Cancel id) = Changes (Cancels id)
told_of (entry.Note text) = Other
told_of (entry.Unhandled failure) = IsUnhandled
told_of (entry.Lock name) = Other
told_of (entry.Semaphore name tokens) = Other
told_of (entry.Acquire name id) = Other
told_of (entry.Release name) = Other
told_of (entry.Queue name most_stored most_waiting) = Other
told_of (entry.Put name value) = Other
told_of (entry.Get name id) = Other
told_of (entry.LaterCall name due) = Schedules (Called name) due
told_of (entry.LaterLoop name due) = SchedulesTurn due
told_of (entry.LaterTick due) = Schedules Ticking due
told_of (entry.LaterTickIn name due) = Schedules (TickingIn name) due
told_of (entry.LaterJob job due) = Schedules (Delivered job) due
told_of (entry.LaterTimeout id due) = Schedules (TimedOut id) due
told_of (entry.Uncall name) = Ends (Called name)
told_of (entry.Reset name due) = Reschedules (Called name) due
told_of (entry.Call name) = Ends (Called name)
told_of entry.Tick = Ends Ticking
told_of (entry.TickIn name) = Ends (TickingIn name)
told_of (entry.Deliver job) = Ends (Delivered job)
told_of (entry.Timeout id) = Ends (TimedOut id)
told_of (entry.Loop name id) = Other
told_of (entry.Turn name) = Other
told_of (entry.Stop name) = Other
told_of (entry.Task name) = Other
told_of (entry.TaskIn name of) = Other
told_of (entry.Step name) = Other
told_of (entry.Hold name id) = Other
told_of (entry.End name value) = Other
told_of (entry.PauseTask name) = Other
told_of (entry.ResumeTask name) = Other
told_of (entry.WhenDone name id) = Other
told_of (entry.Await id on) = Other
told_of (entry.Job job id) = Other
told_of (entry.Advance time) = Advances time
told_of entry.Drain = Other
told_of (entry.Post caller index) = Other
told_of (entry.Body name) = Other
told_of (entry.Units units) = Other
told_of (entry.UnitsIn name units) = Other
told_of (entry.StopCooperator name) = Other
told_of (entry.Expect id state) = Other
told_of (entry.Unmet id state expected) = IsUnmet
told_of (entry.Unbound name) = IsUnmet

-- what it logs about Deferreds
abbrev pub change_in : Told → Change
change_in Other = Aside
change_in (Changes change) = change
change_in (Schedules timed due) = Aside
change_in (SchedulesTurn due) = Aside
change_in (Ends timed) = Aside
change_in (Reschedules timed due) = Aside
change_in (Advances time) = Aside
change_in IsUnhandled = Aside
change_in IsUnmet = Aside

abbrev pub change_of : Entry → Change
change_of e = change_in (told_of e)

-- it logs that a failure is unhandled
abbrev pub is_unhandled_in : Told → Bool
is_unhandled_in Other = false
is_unhandled_in (Changes change) = false
is_unhandled_in (Schedules timed due) = false
is_unhandled_in (SchedulesTurn due) = false
is_unhandled_in (Ends timed) = false
is_unhandled_in (Reschedules timed due) = false
is_unhandled_in (Advances time) = false
is_unhandled_in IsUnhandled = true
is_unhandled_in IsUnmet = false

abbrev pub is_unhandled : Entry → Bool
is_unhandled e = is_unhandled_in (told_of e)

-- it logs that a Deferred isn't as the script expects
abbrev pub is_unmet_in : Told → Bool
is_unmet_in Other = false
is_unmet_in (Changes change) = false
is_unmet_in (Schedules timed due) = false
is_unmet_in (SchedulesTurn due) = false
is_unmet_in (Ends timed) = false
is_unmet_in (Reschedules timed due) = false
is_unmet_in (Advances time) = false
is_unmet_in IsUnhandled = false
is_unmet_in IsUnmet = true

abbrev pub is_unmet : Entry → Bool
is_unmet e = is_unmet_in (told_of e)
