-- What a journal logs about time (Twisted: `Clock.advance`, `callLater`).
use Rattle.std.specs.Prelude.{ℕ, ◌≤◌, List}
use Rattle.dv_journal.specs.declared.entry.Entry.{Entry}
use Rattle.dv_journal.specs.declared.entry.Entry.TheVariants as entry
use Rattle.dv_journal.specs.Told as tells
use Rattle.dv_journal.specs.Told.{Told, told_of}
use Rattle.dv_script.specs.declared.script.Script.{Script}
use Rattle.dv_engine.specs.Report.{Reports}
use Rattle.dv_engine.specs.declared.report.Report.{Report}
use Rattle.dv_laws.specs.Once.{Stands}
use Rattle.dv_laws.specs.Places.{OfEachEntry}

-- nothing of time; or that time goes on to this, or that something is scheduled which is due then
pub data Timing : Type 0 where
  Untimed : Timing
  Advances : (time : ℕ) → Timing
  Schedules : (due : ℕ) → Timing

-- what an entry logs about time
abbrev pub timing_in : Told → Timing
timing_in tells.Other = Untimed
timing_in (tells.Changes change) = Untimed
timing_in (tells.Schedules timed due) = Schedules due
timing_in (tells.SchedulesTurn due) = Schedules due
timing_in (tells.Ends timed) = Untimed
timing_in (tells.Reschedules timed due) = Schedules due
timing_in (tells.Advances time) = Advances time
timing_in tells.IsUnhandled = Untimed
timing_in tells.IsUnmet = Untimed

abbrev pub timing_of : Entry → Timing
timing_of e = timing_in (told_of e)

-- what is logged is of no time before this one
abbrev pub IsNoEarlier : ℕ → Timing → Type 0
IsNoEarlier time Untimed = Unit {0}
IsNoEarlier time (Advances later) = time ≤ later
IsNoEarlier time (Schedules due) = time ≤ due

-- once time has gone on to a time, it goes on to no earlier one, and nothing is scheduled for an earlier one
abbrev pub TimeGoesOn : List Entry → Type 0
TimeGoesOn entries =
    OfEachEntry (λ told x. (time : ℕ) → Stands (entry.Advance time) told → IsNoEarlier time (timing_of x)) entries

-- in a run time never falls, by its report
abbrev pub TimeNeverFalls : Type 0
TimeNeverFalls = (script : Script) (report : Report) → Reports script report → TimeGoesOn report.journal.entries
