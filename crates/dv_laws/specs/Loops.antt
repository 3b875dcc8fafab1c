-- When the turns of a loop are, as the journal logs them (Twisted: `LoopingCall`).
use Rattle.std.specs.Prelude.{ℕ, ◌≡◌, ◌≤◌, if◌then◌else◌, bytes_eq, List, ◌∷◌, ◌++◌, sum_by}
use Rattle.dv_clock.specs.LoopingCall.{IsNextTurn}
use Rattle.dv_journal.specs.declared.entry.Entry.{Entry}
use Rattle.dv_journal.specs.declared.entry.Entry.TheVariants as entry
use Rattle.dv_script.specs.declared.script.Script.{Script}
use Rattle.dv_engine.specs.Report.{Reports}
use Rattle.dv_engine.specs.declared.report.Report.{Report}
use Rattle.dv_laws.specs.Calls.{time_by}
use Rattle.dv_laws.specs.Places.{OfEachEntry}

-- nothing of a loop; or that one is started, or that the next turn of one is scheduled, which is due then
pub data Looping : Type 0 where
  Unlooped : Looping
  StartsLoop : (name : List ℕ) → Looping
  SchedulesTurn : (name : List ℕ) (due : ℕ) → Looping

-- what an entry logs about loops
abbrev pub looping_of : Entry → Looping
looping_of (entry.New id name) = Unlooped
looping_of (entry.Name id name) = Unlooped
looping_of (entry.Add id) = Unlooped
looping_of (entry.Fire id value) = Unlooped
looping_of (entry.Swallow id) = Unlooped
looping_of (entry.Refuse id) = Unlooped
looping_of (entry.Run id) = Unlooped
looping_of (entry.Set id value) = Unlooped
looping_of (entry.Take id from value) = Unlooped
looping_of (entry.Wait id on) = Unlooped
looping_of (entry.Hand from id value) = Unlooped
looping_of (entry.Pause id) = Unlooped
looping_of (entry.Unpause id) = Unlooped
looping_of (entry.Cancel id) = Unlooped
looping_of (entry.Note text) = Unlooped
looping_of (entry.Unhandled failure) = Unlooped
looping_of (entry.Lock name) = Unlooped
looping_of (entry.Semaphore name tokens) = Unlooped
looping_of (entry.Acquire name id) = Unlooped
looping_of (entry.Release name) = Unlooped
looping_of (entry.Queue name most_stored most_waiting) = Unlooped
looping_of (entry.Put name value) = Unlooped
looping_of (entry.Get name id) = Unlooped
looping_of (entry.LaterCall name due) = Unlooped
looping_of (entry.LaterLoop name due) = SchedulesTurn name due
looping_of (entry.LaterTick due) = Unlooped
looping_of (entry.LaterTickIn name due) = Unlooped
looping_of (entry.LaterJob job due) = Unlooped
looping_of (entry.LaterTimeout id due) = Unlooped
looping_of (entry.Uncall name) = Unlooped
looping_of (entry.Reset name due) = Unlooped
looping_of (entry.Call name) = Unlooped
looping_of entry.Tick = Unlooped
looping_of (entry.TickIn name) = Unlooped
looping_of (entry.Deliver job) = Unlooped
looping_of (entry.Timeout id) = Unlooped
looping_of (entry.Loop name id) = StartsLoop name
looping_of (entry.Turn name) = Unlooped
looping_of (entry.Stop name) = Unlooped
looping_of (entry.Task name) = Unlooped
looping_of (entry.TaskIn name of) = Unlooped
looping_of (entry.Step name) = Unlooped
looping_of (entry.Hold name id) = Unlooped
looping_of (entry.End name value) = Unlooped
looping_of (entry.PauseTask name) = Unlooped
looping_of (entry.ResumeTask name) = Unlooped
looping_of (entry.WhenDone name id) = Unlooped
looping_of (entry.Await id on) = Unlooped
looping_of (entry.Job job id) = Unlooped
looping_of (entry.Advance time) = Unlooped
looping_of entry.Drain = Unlooped
looping_of (entry.Post caller index) = Unlooped
looping_of (entry.Body name) = Unlooped
looping_of (entry.Units units) = Unlooped
looping_of (entry.UnitsIn name units) = Unlooped
looping_of (entry.StopCooperator name) = Unlooped
looping_of (entry.Expect id state) = Unlooped
looping_of (entry.Unmet id state expected) = Unlooped
looping_of (entry.Unbound name) = Unlooped

-- it counts one where it is that a loop of this name is started
abbrev pub starts_by : List ℕ → Looping → ℕ
starts_by name Unlooped = 0
starts_by name (StartsLoop other) = if bytes_eq other name then 1 else 0
starts_by name (SchedulesTurn other due) = 0

-- how many loops of this name are started, as is logged
abbrev pub starts : List ℕ → List Entry → ℕ
starts name entries = sum_by (λ e. starts_by name (looping_of e)) entries

-- one loop of this name was started, at this time
pub record StartedOnce (name : List ℕ) (start : ℕ) (told : List Entry) : Type 0 where
  pub once : starts name told ≡ 1
  pub d : ℕ
  pub before : List Entry
  pub later : List Entry
  pub among : told ≡ before ++ entry.Loop name d ∷ later
  pub at : start ≡ time_by before

-- each turn that is scheduled of a loop whose name was given once is due at the first time after now that is a whole
-- number of these intervals after its start
abbrev pub TurnsAt : List ℕ → ℕ → List Entry → Type 0
TurnsAt name interval entries =
    OfEachEntry (λ told x. (due start : ℕ) → x ≡ entry.LaterLoop name due → StartedOnce name start told
    → IsNextTurn start interval (time_by told) due) entries

-- so it is with one interval
pub record TurnsAtIntervals (name : List ℕ) (entries : List Entry) : Type 0 where
  pub interval : ℕ
  pub some : 1 ≤ interval
  pub turns : TurnsAt name interval entries

-- in a run the turns of a loop are at whole intervals after its start, and none that is past is made up for, by its
-- report
abbrev pub LoopsTurnAtIntervals : Type 0
LoopsTurnAtIntervals =
    (script : Script) (report : Report) → Reports script report → (name : List ℕ)
    → TurnsAtIntervals name report.journal.entries
