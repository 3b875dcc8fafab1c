-- When a Deferred uses what was added to it, as its journal logs it (Twisted: the Deferred Reference, "Callbacks";
-- `Deferred.pause`).
use Rattle.std.specs.Prelude.{ℕ, ◌≡◌, true, List, Some, None}
use Rattle.dv_value.specs.declared.value.Value.{Value}
use Rattle.dv_journal.specs.declared.entry.Entry.{Entry}
use Rattle.dv_journal.specs.declared.entry.Entry.TheVariants as entry
use Rattle.dv_script.specs.declared.script.Script.{Script}
use Rattle.dv_engine.specs.Report.{Reports}
use Rattle.dv_engine.specs.declared.report.Report.{Report}
use Rattle.dv_laws.specs.Places.{OfEachEntry}
use Rattle.dv_laws.specs.ReadBack.{Shown, told_by}

-- by what was logged n is fired, isn't paused, and waits for no other
pub record IsReady (n : ℕ) (told : List Entry) : Type 0 where
  pub shown : Shown
  pub reads : told_by n told ≡ Some shown
  pub fired : shown.fired ≡ true
  pub unpaused : shown.pauses ≡ 0
  pub free : shown.waits_for ≡ None

-- n is ready wherever a side of it is run, and wherever it hands its value over
pub record RunsWhereReady (n : ℕ) (entries : List Entry) : Type 0 where
  pub runs : OfEachEntry (λ told x. x ≡ entry.Run n → IsReady n told) entries
  pub hands : OfEachEntry (λ told x. (m : ℕ) (value : Value) → x ≡ entry.Hand n m value → IsReady n told) entries

-- in a run no side of a Deferred is run before that is fired, while it is paused, or while it waits, by its report
abbrev pub NothingRunsEarly : Type 0
NothingRunsEarly =
    (script : Script) (report : Report) → Reports script report → (n : ℕ) → RunsWhereReady n report.journal.entries
