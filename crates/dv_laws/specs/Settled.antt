-- What is left to run at the end of a run (Twisted: the Deferred Reference, "Callbacks"; `Deferred._runCallbacks`).
use Rattle.std.specs.Prelude.{ℕ, ◌≡◌, ◌<◌, ◌&&◌, Bool, true, false, nat_eq, List, [], Some, is_none}
use Rattle.std.specs.Prelude.{slice_get}
use Rattle.dv_definition.specs.Scripts.{Leads}
use Rattle.dv_journal.specs.declared.entry.Entry.{Entry}
use Rattle.dv_objects.specs.Pair.{Pair}
use Rattle.dv_objects.specs.declared.canceller.Canceller.{Canceller}
use Rattle.dv_posts.specs.Batches.{Batch}
use Rattle.dv_script.specs.declared.script.Script.{Script}
use Rattle.dv_store.specs.declared.record.Record.{Record}
use Rattle.dv_engine.specs.Report.{Reports}
use Rattle.dv_engine.specs.declared.report.Report.{Report}
use Rattle.dv_world.specs.World.{World}
use Rattle.dv_laws.specs.HandOvers.{waiters, receivers}
use Rattle.dv_laws.specs.OneAtATime.{runs, ends}
use Rattle.dv_laws.specs.ReadBack.{Shown, told_by}
use Rattle.dv_laws.specs.Ready.{IsReady}
use Rattle.dv_laws.specs.Swallowed.{Reaches, waited_for, led_to}

-- whether nothing holds a Deferred back: it is fired, isn't paused, and waits for no other
abbrev pub may_go_on : Record Pair Canceller → Bool
may_go_on r = r.fired && nat_eq r.pauses 0 && is_none r.waits_for

-- no side of a Deferred runs, and if nothing holds it back, it has no item left
pub record IsAtRest (r : Record Pair Canceller) : Type 0 where
  pub idle : r.running ≡ false
  pub used : may_go_on r ≡ true → r.items ≡ []

-- at the end of a run that hasn't stopped each Deferred is at rest
abbrev pub AllThatMayRunHasRun : Type 0
AllThatMayRunHasRun =
    (script : Script) (batches : List Batch) (w : World) → Leads script batches w → w.stopped ≡ false
    → (n : ℕ) (r : Record Pair Canceller) → slice_get w.records n ≡ Some r → IsAtRest r

-- and each side that was run has ended, by its report
abbrev pub EachSideEnds : Type 0
EachSideEnds =
    (script : Script) (report : Report) → Reports script report → report.stopped ≡ false → (n : ℕ)
    → runs n report.journal.entries ≡ ends n report.journal.entries

-- nobody waits for a Deferred that is ready: each that began to wait for it was handed its value
abbrev pub NobodyIsLeftWaiting : Type 0
NobodyIsLeftWaiting =
    (script : Script) (report : Report) → Reports script report → report.stopped ≡ false → (n : ℕ)
    → IsReady n report.journal.entries → waiters n report.journal.entries ≡ receivers n report.journal.entries

-- by what was logged d is made, and is unfired or paused
pub record IsHeldBack (d : ℕ) (told : List Entry) : Type 0 where
  pub shown : Shown
  pub reads : told_by d told ≡ Some shown
  pub held : (shown.fired && nat_eq shown.pauses 0) ≡ false

-- by what was logged the waits of n lead to one that is held back and doesn't wait itself, or lead to one a second time
pub data Hangs (n : ℕ) (told : List Entry) : Type 0 where
  HangsAt : (d : ℕ) → Reaches n d told → IsHeldBack d told → Hangs n told
  GoesRound : (first again d : ℕ) → first < again → led_to first n told ≡ Some d → led_to again n told ≡ Some d
      → Hangs n told

-- at the end of a run that hasn't stopped each Deferred that waits hangs so
abbrev pub WaitersHang : Type 0
WaitersHang =
    (script : Script) (report : Report) → Reports script report → report.stopped ≡ false → (n m : ℕ)
    → waited_for n report.journal.entries ≡ Some m → Hangs n report.journal.entries
