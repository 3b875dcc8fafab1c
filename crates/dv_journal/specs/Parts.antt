-- The line of an entry in parts: its word, and what follows, each part after a space.
use Rattle.std.specs.Prelude.{ℕ, ◌+◌, length, List, [], ◌∷◌, Option, codes}
use Rattle.dv_value.specs.Size.{size, failure_size, expected_size}
use Rattle.dv_value.specs.declared.expected.Expected as of_expected
use Rattle.dv_value.specs.declared.failure.Failure as of_failure
use Rattle.dv_value.specs.declared.value.Value as of_value
use Rattle.dv_journal.specs.declared.form.ObjectKind.{ObjectKind}
use Rattle.dv_journal.specs.declared.form.ObjectKind.TheVariants as object
use Rattle.dv_journal.specs.declared.form.Naming.{Naming}
use Rattle.dv_journal.specs.declared.form.Naming.TheVariants as naming
use Rattle.dv_journal.specs.declared.entry.Entry.{Entry}
use Rattle.dv_journal.specs.declared.entry.Entry.TheVariants as entry
use Rattle.dv_journal.specs.declared.state.State as of_state
use Rattle.dv_journal.specs.State.{state_size}

-- what stands in a line after its word
pub data Part : Type 0 where
  -- a Deferred; one that is fired; the name that one is made with; a name for one that was made already
  Deferred : (id : ℕ) → Part
  Fired : (id : ℕ) → Part
  NewName : (name : Option (List ℕ)) → Part
  Name : (name : Option (List ℕ)) → Part
  -- the name of another object; the number of a job; another number; a bound of a queue
  Object : (kind : ObjectKind) (naming : Naming) (name : List ℕ) → Part
  Job : (job : ℕ) → Part
  Number : (number : ℕ) → Part
  Bound : (most : Option ℕ) → Part
  -- the time at which something is due; the time to which the clock advances
  Due : (time : ℕ) → Part
  Time : (time : ℕ) → Part
  -- what an outcome shows of a value; the JSON of a value; a failure; the JSON of a text; what has become of a Deferred
  Outcome : (value : of_value.Value) → Part
  Value : (value : of_value.Value) → Part
  Failure : (failure : of_failure.Failure) → Part
  Text : (text : List ℕ) → Part
  State : (state : of_state.State) → Part
  -- what a script expects of a Deferred
  Expected : (expected : of_expected.Expected) → Part

-- the word of a line, and its other parts
pub record Wording : Type 0 where
  pub word : List ℕ
  pub parts : List Part

-- a word, and these parts after it
abbrev pub says : List ℕ → List Part → Wording
says word parts = record { word = word; parts = parts }

-- what the line of an entry says
abbrev pub wording_of : Entry → Wording
wording_of (entry.New id name) = says (codes "new") (Deferred id ∷ NewName name ∷ [])
wording_of (entry.Name id name) = says (codes "name") (Deferred id ∷ Name name ∷ [])
wording_of (entry.Add id) = says (codes "add") (Deferred id ∷ [])
wording_of (entry.Fire id value) = says (codes "fire") (Fired id ∷ Outcome value ∷ [])
wording_of (entry.Swallow id) = says (codes "swallow") (Deferred id ∷ [])
wording_of (entry.Refuse id) = says (codes "refuse") (Deferred id ∷ [])
wording_of (entry.Run id) = says (codes "run") (Deferred id ∷ [])
wording_of (entry.Set id value) = says (codes "set") (Deferred id ∷ Outcome value ∷ [])
wording_of (entry.Take id from value) = says (codes "take") (Deferred id ∷ Deferred from ∷ Outcome value ∷ [])
wording_of (entry.Wait id on) = says (codes "wait") (Deferred id ∷ Deferred on ∷ [])
wording_of (entry.Hand from id value) = says (codes "hand") (Deferred from ∷ Deferred id ∷ Outcome value ∷ [])
wording_of (entry.Pause id) = says (codes "pause") (Deferred id ∷ [])
wording_of (entry.Unpause id) = says (codes "unpause") (Deferred id ∷ [])
wording_of (entry.Cancel id) = says (codes "cancel") (Deferred id ∷ [])
wording_of (entry.Note text) = says (codes "note") (Text text ∷ [])
wording_of (entry.Unhandled failure) = says (codes "unhandled") (Failure failure ∷ [])
wording_of (entry.Lock name) = says (codes "lock") (Object object.Lock naming.Made name ∷ [])
wording_of (entry.Semaphore name tokens) =
    says (codes "semaphore") (Object object.Lock naming.Made name ∷ Number tokens ∷ [])
wording_of (entry.Acquire name id) = says (codes "acquire") (Object object.Lock naming.Last name ∷ Deferred id ∷ [])
wording_of (entry.Release name) = says (codes "release") (Object object.Lock naming.Any name ∷ [])
wording_of (entry.Queue name most_stored most_waiting) =
    says (codes "queue") (Object object.Queue naming.Made name ∷ Bound most_stored ∷ Bound most_waiting ∷ [])
wording_of (entry.Put name value) = says (codes "put") (Object object.Queue naming.Last name ∷ Value value ∷ [])
wording_of (entry.Get name id) = says (codes "get") (Object object.Queue naming.Last name ∷ Deferred id ∷ [])
wording_of (entry.LaterCall name due) = says (codes "later call") (Object object.Call naming.Made name ∷ Due due ∷ [])
wording_of (entry.LaterLoop name due) = says (codes "later loop") (Object object.Loop naming.Any name ∷ Due due ∷ [])
wording_of (entry.LaterTick due) = says (codes "later tick") (Due due ∷ [])
wording_of (entry.LaterTickIn name due) =
    says (codes "later tickin") (Object object.Cooperator naming.Any name ∷ Due due ∷ [])
wording_of (entry.LaterJob job due) = says (codes "later job") (Job job ∷ Due due ∷ [])
wording_of (entry.LaterTimeout id due) = says (codes "later timeout") (Deferred id ∷ Due due ∷ [])
wording_of (entry.Uncall name) = says (codes "uncall") (Object object.Call naming.Last name ∷ [])
wording_of (entry.Reset name due) = says (codes "reset") (Object object.Call naming.Last name ∷ Due due ∷ [])
wording_of (entry.Call name) = says (codes "call") (Object object.Call naming.Any name ∷ [])
wording_of entry.Tick = says (codes "tick") []
wording_of (entry.TickIn name) = says (codes "tickin") (Object object.Cooperator naming.Any name ∷ [])
wording_of (entry.Deliver job) = says (codes "deliver") (Job job ∷ [])
wording_of (entry.Timeout id) = says (codes "timeout") (Deferred id ∷ [])
wording_of (entry.Loop name id) = says (codes "loop") (Object object.Loop naming.Made name ∷ Deferred id ∷ [])
wording_of (entry.Turn name) = says (codes "turn") (Object object.Loop naming.Any name ∷ [])
wording_of (entry.Stop name) = says (codes "stop") (Object object.Loop naming.Last name ∷ [])
wording_of (entry.Task name) = says (codes "task") (Object object.Task naming.Made name ∷ [])
wording_of (entry.TaskIn name of) =
    says (codes "taskin") (Object object.Task naming.Made name ∷ Object object.Cooperator naming.Any of ∷ [])
wording_of (entry.Step name) = says (codes "step") (Object object.Task naming.Any name ∷ [])
wording_of (entry.Hold name id) = says (codes "hold") (Object object.Task naming.Any name ∷ Deferred id ∷ [])
wording_of (entry.End name value) = says (codes "end") (Object object.Task naming.Any name ∷ Outcome value ∷ [])
wording_of (entry.PauseTask name) = says (codes "pausetask") (Object object.Task naming.Last name ∷ [])
wording_of (entry.ResumeTask name) = says (codes "resumetask") (Object object.Task naming.Any name ∷ [])
wording_of (entry.WhenDone name id) = says (codes "whendone") (Object object.Task naming.Last name ∷ Deferred id ∷ [])
wording_of (entry.Await id on) = says (codes "await") (Deferred id ∷ Deferred on ∷ [])
wording_of (entry.Job job id) = says (codes "job") (Job job ∷ Deferred id ∷ [])
wording_of (entry.Advance time) = says (codes "advance") (Time time ∷ [])
wording_of entry.Drain = says (codes "drain") []
wording_of (entry.Post caller index) = says (codes "post") (Number caller ∷ Number index ∷ [])
wording_of (entry.Body name) = says (codes "body") (Object object.Body naming.Any name ∷ [])
wording_of (entry.Units units) = says (codes "units") (Number units ∷ [])
wording_of (entry.UnitsIn name units) =
    says (codes "unitsin") (Object object.Cooperator naming.Any name ∷ Number units ∷ [])
wording_of (entry.StopCooperator name) = says (codes "stopcooperator") (Object object.Cooperator naming.Any name ∷ [])
wording_of (entry.Expect id state) = says (codes "expect") (Deferred id ∷ State state ∷ [])
wording_of (entry.Unmet id state expected) =
    says (codes "unmet") (Deferred id ∷ State state ∷ Expected expected ∷ [])
wording_of (entry.Unbound name) = says (codes "unbound") (Text name ∷ [])

-- the parts after its word
abbrev pub parts_of : Entry → List Part
parts_of e = (wording_of e).parts

-- the size of the value, the failure or the noted text that a part shows
abbrev pub size_shown : Part → ℕ
size_shown (Deferred id) = 0
size_shown (Fired id) = 0
size_shown (NewName name) = 0
size_shown (Name name) = 0
size_shown (Object k n name) = 0
size_shown (Job job) = 0
size_shown (Number number) = 0
size_shown (Bound most) = 0
size_shown (Due time) = 0
size_shown (Time time) = 0
size_shown (Outcome value) = size value
size_shown (Value value) = size value
size_shown (Failure failure) = failure_size failure
size_shown (Text text) = 1 + length text
size_shown (State state) = state_size state
size_shown (Expected expected) = expected_size expected
