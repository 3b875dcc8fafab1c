-- In which order a queue serves those that ask, as its journal logs it (Twisted: `DeferredQueue`).
use Rattle.std.specs.Prelude.{ℕ, ◌≡◌, ◌≤◌, Bool, true, false, if◌then◌else◌, bytes_eq, List, [], ◌∷◌, ◌++◌, Option}
use Rattle.std.specs.Prelude.{None}
use Rattle.std.specs.Prelude.{Some, sum_by}
use Rattle.dv_value.specs.declared.value.Value.{Value}
use Rattle.dv_journal.specs.declared.entry.Entry.{Entry}
use Rattle.dv_journal.specs.declared.entry.Entry.TheVariants as entry
use Rattle.dv_objects.specs.Refusals.{cancelled}
use Rattle.dv_prims.specs.Tokens.{is_waiting, without}
use Rattle.dv_script.specs.declared.script.Script.{Script}
use Rattle.dv_engine.specs.Report.{Reports}
use Rattle.dv_engine.specs.declared.report.Report.{Report}
use Rattle.dv_laws.specs.Stored.{Queueing, Unqueued, MakesQueue, PutsInto, GetsFrom, queueing_of, puts_by, gets_by}
use Rattle.dv_laws.specs.Swallowed.{Reaches}

-- how many queues of a name are made, as is logged
abbrev pub made_by : List ℕ → Queueing → ℕ
made_by name Unqueued = 0
made_by name (MakesQueue other size) = if bytes_eq other name then 1 else 0
made_by name (PutsInto other) = 0
made_by name (GetsFrom other) = 0

abbrev pub queues_made : List ℕ → List Entry → ℕ
queues_made name entries = sum_by (λ e. made_by name (queueing_of e)) entries

-- a queue by what was logged: the values that it stores, from the one that was put first; the waiters for one, from the
-- one that asked first; and the one that was given a value by the last entry, with that value
pub record Line : Type 0 where
  pub stored : List Value
  pub waiting : List ℕ
  pub given : Option (ℕ × Value)

abbrev pub line : List Value → List ℕ → Option (ℕ × Value) → Line
line stored waiting given = record { stored = stored; waiting = waiting; given = given }

-- d is fired with a value; or that is refused, and the value is lost, since other code has fired d
pub data Firing (d : ℕ) (value : Value) : Entry → Type 0 where
  Fired : Firing d value (entry.Fire d value)
  Refused : Firing d value (entry.Refuse d)

-- what was logged last is a cancel that reaches d
pub record IsCancelled (d : ℕ) (told : List Entry) : Type 0 where
  pub of : ℕ
  pub before : List Entry
  pub last : told ≡ before ++ entry.Cancel of ∷ []
  pub reaches : Reaches of d before

-- an entry is that d, which waits, is fired by that cancel
pub record IsTakenOut (d : ℕ) (waiting : List ℕ) (told : List Entry) (e : Entry) : Type 0 where
  pub waits : is_waiting d waiting ≡ true
  pub cancelled_now : IsCancelled d told
  pub fires : e ≡ entry.Fire d cancelled

-- what the next entry makes of a queue. A value that is put goes to the first waiter, or is stored, last. A Deferred
-- that asks is given the value that is stored first, or waits, last. One that is given a value is fired with it by the
-- entry after that. One that waits leaves where a cancel fires it. Any other entry leaves the queue as it is
pub data Next (name : List ℕ) (told : List Entry) : Line → Entry → Line → Type 0 where
  Gives : (stored : List Value) (d : ℕ) (rest : List ℕ) (value : Value)
      → Next name told (line stored (d ∷ rest) None) (entry.Put name value) (line stored rest (Some (d, value)))
  Stores : (stored : List Value) (value : Value)
      → Next name told (line stored [] None) (entry.Put name value) (line (stored ++ value ∷ []) [] None)
  Takes : (value : Value) (rest : List Value) (waiting : List ℕ) (d : ℕ)
      → Next name told (line (value ∷ rest) waiting None) (entry.Get name d) (line rest waiting (Some (d, value)))
  Waits : (waiting : List ℕ) (d : ℕ)
      → Next name told (line [] waiting None) (entry.Get name d) (line [] (waiting ++ d ∷ []) None)
  Fires : (stored : List Value) (waiting : List ℕ) (d : ℕ) (value : Value) (e : Entry) → Firing d value e
      → Next name told (line stored waiting (Some (d, value))) e (line stored waiting None)
  Leaves : (stored : List Value) (waiting : List ℕ) (d : ℕ) (e : Entry) → IsTakenOut d waiting told e
      → Next name told (line stored waiting None) e (line stored (without d waiting) None)
  Rests : (stored : List Value) (waiting : List ℕ) (e : Entry) → puts_by name (queueing_of e) ≡ 0
      → gets_by name (queueing_of e) ≡ 0 → ((d : ℕ) → IsTakenOut d waiting told e → ⊥)
      → Next name told (line stored waiting None) e (line stored waiting None)

-- what all entries make of a queue, in which nothing is stored and for which nobody waits at first
pub data Leads (name : List ℕ) : List Entry → Line → Type 0 where
  Begins : Leads name [] (line [] [] None)
  Goes : (told : List Entry) (e : Entry) (before after : Line) → Leads name told before → Next name told before e after
      → Leads name (told ++ e ∷ []) after

-- each entry is one that may be next; at the end of a run that hasn't stopped, each that was given a value was fired
pub record ServesInOrder (name : List ℕ) (entries : List Entry) (stopped : Bool) : Type 0 where
  pub after : Line
  pub leads : Leads name entries after
  pub fired : stopped ≡ false → after.given ≡ None

-- in a run a queue whose name is given once serves those that ask in the order in which they ask, with the values in
-- the order in which they were put, each once, by its report
abbrev pub QueuesServeInOrder : Type 0
QueuesServeInOrder =
    (script : Script) (report : Report) → Reports script report → (name : List ℕ)
    → queues_made name report.journal.entries ≤ 1 → ServesInOrder name report.journal.entries report.stopped
