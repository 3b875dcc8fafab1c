-- How many values a queue stores, as the journal logs it (Twisted: `DeferredQueue`).
use Rattle.std.specs.Prelude.{ℕ, ◌≡◌, ◌≤◌, ◌+◌, if◌then◌else◌, bytes_eq, List, Option, None, Some, slice_get, sum_by}
use Rattle.dv_definition.specs.Scripts.{Leads}
use Rattle.dv_posts.specs.Batches.{Batch}
use Rattle.dv_prims.specs.Laws.{StoresOrIsWaitedFor}
use Rattle.dv_prims.specs.Queue.{Queue}
use Rattle.dv_world.specs.World.{World}
use Rattle.dv_journal.specs.declared.entry.Entry.{Entry}
use Rattle.dv_journal.specs.declared.entry.Entry.TheVariants as entry
use Rattle.dv_script.specs.declared.script.Script.{Script}
use Rattle.dv_engine.specs.Report.{Reports}
use Rattle.dv_engine.specs.declared.report.Report.{Report}
use Rattle.dv_laws.specs.Places.{AtEachPlace}

-- nothing of a queue; or that one is made, which stores so many values at most, or any number; or that a value is put
-- into one, or asked for
pub data Queueing : Type 0 where
  Unqueued : Queueing
  MakesQueue : (name : List ℕ) (size : Option ℕ) → Queueing
  PutsInto : (name : List ℕ) → Queueing
  GetsFrom : (name : List ℕ) → Queueing

-- what an entry logs about queues
abbrev pub queueing_of : Entry → Queueing
queueing_of (entry.New id name) = Unqueued
queueing_of (entry.Name id name) = Unqueued
queueing_of (entry.Add id) = Unqueued
queueing_of (entry.Fire id value) = Unqueued
queueing_of (entry.Swallow id) = Unqueued
queueing_of (entry.Refuse id) = Unqueued
queueing_of (entry.Run id) = Unqueued
queueing_of (entry.Set id value) = Unqueued
queueing_of (entry.Take id from value) = Unqueued
queueing_of (entry.Wait id on) = Unqueued
queueing_of (entry.Hand from id value) = Unqueued
queueing_of (entry.Pause id) = Unqueued
queueing_of (entry.Unpause id) = Unqueued
queueing_of (entry.Cancel id) = Unqueued
queueing_of (entry.Note text) = Unqueued
queueing_of (entry.Unhandled failure) = Unqueued
queueing_of (entry.Lock name) = Unqueued
queueing_of (entry.Semaphore name tokens) = Unqueued
queueing_of (entry.Acquire name id) = Unqueued
queueing_of (entry.Release name) = Unqueued
queueing_of (entry.Queue name most_stored most_waiting) = MakesQueue name most_stored
queueing_of (entry.Put name value) = PutsInto name
queueing_of (entry.Get name id) = GetsFrom name
queueing_of (entry.LaterCall name due) = Unqueued
queueing_of (entry.LaterLoop name due) = Unqueued
queueing_of (entry.LaterTick due) = Unqueued
queueing_of (entry.LaterTickIn name due) = Unqueued
queueing_of (entry.LaterJob job due) = Unqueued
queueing_of (entry.LaterTimeout id due) = Unqueued
queueing_of (entry.Uncall name) = Unqueued
queueing_of (entry.Reset name due) = Unqueued
queueing_of (entry.Call name) = Unqueued
queueing_of entry.Tick = Unqueued
queueing_of (entry.TickIn name) = Unqueued
queueing_of (entry.Deliver job) = Unqueued
queueing_of (entry.Timeout id) = Unqueued
queueing_of (entry.Loop name id) = Unqueued
queueing_of (entry.Turn name) = Unqueued
queueing_of (entry.Stop name) = Unqueued
queueing_of (entry.Task name) = Unqueued
queueing_of (entry.TaskIn name of) = Unqueued
queueing_of (entry.Step name) = Unqueued
queueing_of (entry.Hold name id) = Unqueued
queueing_of (entry.End name value) = Unqueued
queueing_of (entry.PauseTask name) = Unqueued
queueing_of (entry.ResumeTask name) = Unqueued
queueing_of (entry.WhenDone name id) = Unqueued
queueing_of (entry.Await id on) = Unqueued
queueing_of (entry.Job job id) = Unqueued
queueing_of (entry.Advance time) = Unqueued
queueing_of entry.Drain = Unqueued
queueing_of (entry.Post caller index) = Unqueued
queueing_of (entry.Body name) = Unqueued
queueing_of (entry.Units units) = Unqueued
queueing_of (entry.UnitsIn name units) = Unqueued
queueing_of (entry.StopCooperator name) = Unqueued
queueing_of (entry.Expect id state) = Unqueued
queueing_of (entry.Unmet id state expected) = Unqueued
queueing_of (entry.Unbound name) = Unqueued

-- the room of a queue, and whether it has no bound, as a count
abbrev pub room_in : Option ℕ → ℕ
room_in None = 0
room_in (Some size) = size

abbrev pub unbound_in : Option ℕ → ℕ
unbound_in None = 1
unbound_in (Some size) = 0

-- how many values are put into a queue of this name, how many are asked for, how much room is made, and how many such
-- queues have no bound
abbrev pub puts_by : List ℕ → Queueing → ℕ
puts_by name Unqueued = 0
puts_by name (MakesQueue other size) = 0
puts_by name (PutsInto other) = if bytes_eq other name then 1 else 0
puts_by name (GetsFrom other) = 0

abbrev pub gets_by : List ℕ → Queueing → ℕ
gets_by name Unqueued = 0
gets_by name (MakesQueue other size) = 0
gets_by name (PutsInto other) = 0
gets_by name (GetsFrom other) = if bytes_eq other name then 1 else 0

abbrev pub room_by : List ℕ → Queueing → ℕ
room_by name Unqueued = 0
room_by name (MakesQueue other size) = if bytes_eq other name then room_in size else 0
room_by name (PutsInto other) = 0
room_by name (GetsFrom other) = 0

abbrev pub unbound_by : List ℕ → Queueing → ℕ
unbound_by name Unqueued = 0
unbound_by name (MakesQueue other size) = if bytes_eq other name then unbound_in size else 0
unbound_by name (PutsInto other) = 0
unbound_by name (GetsFrom other) = 0

abbrev pub puts : List ℕ → List Entry → ℕ
puts name entries = sum_by (λ e. puts_by name (queueing_of e)) entries

abbrev pub gets : List ℕ → List Entry → ℕ
gets name entries = sum_by (λ e. gets_by name (queueing_of e)) entries

abbrev pub room : List ℕ → List Entry → ℕ
room name entries = sum_by (λ e. room_by name (queueing_of e)) entries

abbrev pub unbound : List ℕ → List Entry → ℕ
unbound name entries = sum_by (λ e. unbound_by name (queueing_of e)) entries

-- a queue stores no more values than it has room for: at each place at most as many more were put than asked for. Where
-- a name stands for several queues, the room of all of them counts
abbrev pub StoresWithinItsRoom : List ℕ → List Entry → Type 0
StoresWithinItsRoom name entries =
    AtEachPlace (λ told. unbound name told ≡ 0 → puts name told ≤ gets name told + room name told) entries

-- in a run no queue stores more values than it may, by its report
abbrev pub QueuesKeepTheirSize : Type 0
QueuesKeepTheirSize =
    (script : Script) (report : Report) → Reports script report → (name : List ℕ)
    → StoresWithinItsRoom name report.journal.entries

-- at the end of a run, also where its journal is full, a queue stores no value while a Deferred waits for one
abbrev pub NothingIsStoredWhileAnyWaits : Type 0
NothingIsStoredWhileAnyWaits =
    (script : Script) (batches : List Batch) (w : World) → Leads script batches w → (k : ℕ) (q : Queue)
    → slice_get w.objects.queues k ≡ Some q → StoresOrIsWaitedFor q
