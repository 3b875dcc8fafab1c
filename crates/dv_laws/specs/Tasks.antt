-- How often a task ends, as the journal logs it (Twisted: `CooperativeTask`).
use Rattle.std.specs.Prelude.{ℕ, ◌≡◌, ◌≤◌, ◌<◌, if◌then◌else◌, bytes_eq, List, sum_by}
use Rattle.dv_journal.specs.declared.entry.Entry.{Entry}
use Rattle.dv_journal.specs.declared.entry.Entry.TheVariants as entry
use Rattle.dv_script.specs.declared.script.Script.{Script}
use Rattle.dv_engine.specs.Report.{Reports}
use Rattle.dv_engine.specs.declared.report.Report.{Report}
use Rattle.dv_laws.specs.Places.{AtEachPlace, OfEachEntry}

-- nothing of a task; or that one is made, takes a step, or ends
pub data Tasking : Type 0 where
  Untasked : Tasking
  MakesTask : (name : List ℕ) → Tasking
  StepsTask : (name : List ℕ) → Tasking
  EndsTask : (name : List ℕ) → Tasking

-- what an entry logs about tasks
abbrev pub tasking_of : Entry → Tasking
tasking_of (entry.New id name) = Untasked
tasking_of (entry.Name id name) = Untasked
tasking_of (entry.Add id) = Untasked
tasking_of (entry.Fire id value) = Untasked
tasking_of (entry.Swallow id) = Untasked
tasking_of (entry.Refuse id) = Untasked
tasking_of (entry.Run id) = Untasked
tasking_of (entry.Set id value) = Untasked
tasking_of (entry.Take id from value) = Untasked
tasking_of (entry.Wait id on) = Untasked
tasking_of (entry.Hand from id value) = Untasked
tasking_of (entry.Pause id) = Untasked
tasking_of (entry.Unpause id) = Untasked
tasking_of (entry.Cancel id) = Untasked
tasking_of (entry.Note text) = Untasked
tasking_of (entry.Unhandled failure) = Untasked
tasking_of (entry.Lock name) = Untasked
tasking_of (entry.Semaphore name tokens) = Untasked
tasking_of (entry.Acquire name id) = Untasked
tasking_of (entry.Release name) = Untasked
tasking_of (entry.Queue name most_stored most_waiting) = Untasked
tasking_of (entry.Put name value) = Untasked
tasking_of (entry.Get name id) = Untasked
tasking_of (entry.LaterCall name due) = Untasked
tasking_of (entry.LaterLoop name due) = Untasked
tasking_of (entry.LaterTick due) = Untasked
tasking_of (entry.LaterTickIn name due) = Untasked
tasking_of (entry.LaterJob job due) = Untasked
tasking_of (entry.LaterTimeout id due) = Untasked
tasking_of (entry.Uncall name) = Untasked
tasking_of (entry.Reset name due) = Untasked
tasking_of (entry.Call name) = Untasked
tasking_of entry.Tick = Untasked
tasking_of (entry.TickIn name) = Untasked
tasking_of (entry.Deliver job) = Untasked
tasking_of (entry.Timeout id) = Untasked
tasking_of (entry.Loop name id) = Untasked
tasking_of (entry.Turn name) = Untasked
tasking_of (entry.Stop name) = Untasked
tasking_of (entry.Task name) = MakesTask name
tasking_of (entry.TaskIn name of) = MakesTask name
tasking_of (entry.Step name) = StepsTask name
tasking_of (entry.Hold name id) = Untasked
tasking_of (entry.End name value) = EndsTask name
tasking_of (entry.PauseTask name) = Untasked
tasking_of (entry.ResumeTask name) = Untasked
tasking_of (entry.WhenDone name id) = Untasked
tasking_of (entry.Await id on) = Untasked
tasking_of (entry.Job job id) = Untasked
tasking_of (entry.Advance time) = Untasked
tasking_of entry.Drain = Untasked
tasking_of (entry.Post caller index) = Untasked
tasking_of (entry.Body name) = Untasked
tasking_of (entry.Units units) = Untasked
tasking_of (entry.UnitsIn name units) = Untasked
tasking_of (entry.StopCooperator name) = Untasked
tasking_of (entry.Expect id state) = Untasked
tasking_of (entry.Unmet id state expected) = Untasked
tasking_of (entry.Unbound name) = Untasked

-- it counts one where it is that a task of this name is made, or ends
abbrev pub makes_by : List ℕ → Tasking → ℕ
makes_by name Untasked = 0
makes_by name (MakesTask other) = if bytes_eq other name then 1 else 0
makes_by name (StepsTask other) = 0
makes_by name (EndsTask other) = 0

abbrev pub ends_by : List ℕ → Tasking → ℕ
ends_by name Untasked = 0
ends_by name (MakesTask other) = 0
ends_by name (StepsTask other) = 0
ends_by name (EndsTask other) = if bytes_eq other name then 1 else 0

-- how many tasks of this name are made, and how many end, as is logged
abbrev pub tasks_made : List ℕ → List Entry → ℕ
tasks_made name entries = sum_by (λ e. makes_by name (tasking_of e)) entries

abbrev pub tasks_ended : List ℕ → List Entry → ℕ
tasks_ended name entries = sum_by (λ e. ends_by name (tasking_of e)) entries

-- no more tasks of a name have ended than were made, and one takes a step only while there is one that hasn't ended: of
-- one task, that it ends once at most, and takes no step after that
pub record EndsOnce (name : List ℕ) (entries : List Entry) : Type 0 where
  pub once : AtEachPlace (λ told. tasks_ended name told ≤ tasks_made name told) entries
  pub steps : OfEachEntry (λ told x. x ≡ entry.Step name → tasks_ended name told < tasks_made name told) entries

-- in a run each task ends once at most, and takes no step after that, by its report
abbrev pub TasksEndOnce : Type 0
TasksEndOnce =
    (script : Script) (report : Report) → Reports script report → (name : List ℕ) → EndsOnce name report.journal.entries
