-- How often tokens are asked for and released, as the journal logs it (Twisted: `DeferredLock`, `DeferredSemaphore`).
use Rattle.std.specs.Prelude.{ℕ, ◌≡◌, ◌≤◌, if◌then◌else◌, bytes_eq, List, Some, slice_get, sum_by}
use Rattle.dv_definition.specs.Scripts.{Leads}
use Rattle.dv_posts.specs.Batches.{Batch}
use Rattle.dv_prims.specs.Laws.{GivesAllBeforeAnyWaits}
use Rattle.dv_prims.specs.Tokens.{Semaphore}
use Rattle.dv_world.specs.World.{World}
use Rattle.dv_journal.specs.declared.entry.Entry.{Entry}
use Rattle.dv_journal.specs.declared.entry.Entry.TheVariants as entry
use Rattle.dv_script.specs.declared.script.Script.{Script}
use Rattle.dv_engine.specs.Report.{Reports}
use Rattle.dv_engine.specs.declared.report.Report.{Report}
use Rattle.dv_laws.specs.Places.{AtEachPlace}

-- nothing of a token; or that a lock is made, which has so many; or that one of a lock is asked for, or released
pub data Holding : Type 0 where
  Unheld : Holding
  MakesTokens : (lock : List ℕ) (tokens : ℕ) → Holding
  AsksOf : (lock : List ℕ) → Holding
  ReleasesOf : (lock : List ℕ) → Holding

-- what an entry logs about tokens
abbrev pub holding_of : Entry → Holding
holding_of (entry.New id name) = Unheld
holding_of (entry.Name id name) = Unheld
holding_of (entry.Add id) = Unheld
holding_of (entry.Fire id value) = Unheld
holding_of (entry.Swallow id) = Unheld
holding_of (entry.Refuse id) = Unheld
holding_of (entry.Run id) = Unheld
holding_of (entry.Set id value) = Unheld
holding_of (entry.Take id from value) = Unheld
holding_of (entry.Wait id on) = Unheld
holding_of (entry.Hand from id value) = Unheld
holding_of (entry.Pause id) = Unheld
holding_of (entry.Unpause id) = Unheld
holding_of (entry.Cancel id) = Unheld
holding_of (entry.Note text) = Unheld
holding_of (entry.Unhandled failure) = Unheld
holding_of (entry.Lock name) = MakesTokens name 1
holding_of (entry.Semaphore name tokens) = MakesTokens name tokens
holding_of (entry.Acquire name id) = AsksOf name
holding_of (entry.Release name) = ReleasesOf name
holding_of (entry.Queue name most_stored most_waiting) = Unheld
holding_of (entry.Put name value) = Unheld
holding_of (entry.Get name id) = Unheld
holding_of (entry.LaterCall name due) = Unheld
holding_of (entry.LaterLoop name due) = Unheld
holding_of (entry.LaterTick due) = Unheld
holding_of (entry.LaterTickIn name due) = Unheld
holding_of (entry.LaterJob job due) = Unheld
holding_of (entry.LaterTimeout id due) = Unheld
holding_of (entry.Uncall name) = Unheld
holding_of (entry.Reset name due) = Unheld
holding_of (entry.Call name) = Unheld
holding_of entry.Tick = Unheld
holding_of (entry.TickIn name) = Unheld
holding_of (entry.Deliver job) = Unheld
holding_of (entry.Timeout id) = Unheld
holding_of (entry.Loop name id) = Unheld
holding_of (entry.Turn name) = Unheld
holding_of (entry.Stop name) = Unheld
holding_of (entry.Task name) = Unheld
holding_of (entry.TaskIn name of) = Unheld
holding_of (entry.Step name) = Unheld
holding_of (entry.Hold name id) = Unheld
holding_of (entry.End name value) = Unheld
holding_of (entry.PauseTask name) = Unheld
holding_of (entry.ResumeTask name) = Unheld
holding_of (entry.WhenDone name id) = Unheld
holding_of (entry.Await id on) = Unheld
holding_of (entry.Job job id) = Unheld
holding_of (entry.Advance time) = Unheld
holding_of entry.Drain = Unheld
holding_of (entry.Post caller index) = Unheld
holding_of (entry.Body name) = Unheld
holding_of (entry.Units units) = Unheld
holding_of (entry.UnitsIn name units) = Unheld
holding_of (entry.StopCooperator name) = Unheld
holding_of (entry.Expect id state) = Unheld
holding_of (entry.Unmet id state expected) = Unheld
holding_of (entry.Unbound name) = Unheld

-- it counts one where it is that a token of a lock of this name is asked for, or released
abbrev pub asks_by : List ℕ → Holding → ℕ
asks_by name Unheld = 0
asks_by name (MakesTokens lock tokens) = 0
asks_by name (AsksOf lock) = if bytes_eq lock name then 1 else 0
asks_by name (ReleasesOf lock) = 0

abbrev pub releases_by : List ℕ → Holding → ℕ
releases_by name Unheld = 0
releases_by name (MakesTokens lock tokens) = 0
releases_by name (AsksOf lock) = 0
releases_by name (ReleasesOf lock) = if bytes_eq lock name then 1 else 0

-- how often that is logged
abbrev pub asks : List ℕ → List Entry → ℕ
asks name entries = sum_by (λ e. asks_by name (holding_of e)) entries

abbrev pub releases : List ℕ → List Entry → ℕ
releases name entries = sum_by (λ e. releases_by name (holding_of e)) entries

-- in a run no more tokens of a lock are released than were asked for, by its report
abbrev pub TokensAreAskedFor : Type 0
TokensAreAskedFor =
    (script : Script) (report : Report) → Reports script report → (name : List ℕ)
    → AtEachPlace (λ told. releases name told ≤ asks name told) report.journal.entries

-- at the end of a run, also where its journal is full, no more tokens of a lock are held than it has, and a Deferred
-- waits for one only if all are held
abbrev pub AllAreHeldBeforeAnyWaits : Type 0
AllAreHeldBeforeAnyWaits =
    (script : Script) (batches : List Batch) (w : World) → Leads script batches w → (l : ℕ) (s : Semaphore)
    → slice_get w.objects.semaphores l ≡ Some s → GivesAllBeforeAnyWaits s
