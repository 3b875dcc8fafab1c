-- How the pairs of a Deferred are used, as its journal logs it (Twisted: the Deferred Reference, "Callbacks";
-- `Deferred._runCallbacks`).
use Rattle.std.specs.Prelude.{ℕ, ◌≤◌, ◌+◌, if◌then◌else◌, nat_eq, List, sum_by}
use Rattle.dv_journal.specs.Told.{Change, change_of, Aside, Makes, Adds, Fires, Swallows, Refuses, Runs, Sets, Takes}
use Rattle.dv_journal.specs.Told.{Waits, Hands, Pauses, Unpauses, Cancels}
use Rattle.dv_journal.specs.declared.entry.Entry.{Entry}
use Rattle.dv_script.specs.declared.script.Script.{Script}
use Rattle.dv_engine.specs.Report.{Reports}
use Rattle.dv_engine.specs.declared.report.Report.{Report}
use Rattle.dv_laws.specs.Places.{AtEachPlace}

-- what is logged counts one where it is that a pair is added to n
abbrev pub adds_of : ℕ → Change → ℕ
adds_of n Aside = 0
adds_of n (Makes d name) = 0
adds_of n (Adds d) = if nat_eq d n then 1 else 0
adds_of n (Fires d value) = 0
adds_of n (Swallows d) = 0
adds_of n (Refuses d) = 0
adds_of n (Runs d) = 0
adds_of n (Sets d value) = 0
adds_of n (Takes d e value) = 0
adds_of n (Waits d e) = 0
adds_of n (Hands e d value) = 0
adds_of n (Pauses d) = 0
adds_of n (Unpauses d) = 0
adds_of n (Cancels d) = 0

abbrev pub adding : ℕ → Entry → ℕ
adding n x = adds_of n (change_of x)

-- how many pairs are added to n
abbrev pub additions : ℕ → List Entry → ℕ
additions n entries = sum_by (adding n) entries

-- or that a side of n runs
abbrev pub runs_of : ℕ → Change → ℕ
runs_of n Aside = 0
runs_of n (Makes d name) = 0
runs_of n (Adds d) = 0
runs_of n (Fires d value) = 0
runs_of n (Swallows d) = 0
runs_of n (Refuses d) = 0
runs_of n (Runs d) = if nat_eq d n then 1 else 0
runs_of n (Sets d value) = 0
runs_of n (Takes d e value) = 0
runs_of n (Waits d e) = 0
runs_of n (Hands e d value) = 0
runs_of n (Pauses d) = 0
runs_of n (Unpauses d) = 0
runs_of n (Cancels d) = 0

abbrev pub running : ℕ → Entry → ℕ
running n x = runs_of n (change_of x)

-- how many sides of n are run
abbrev pub runs : ℕ → List Entry → ℕ
runs n entries = sum_by (running n) entries

-- or that a side of n ends: what it gave becomes its value, or n takes the value of another, or waits for another
abbrev pub ends_of : ℕ → Change → ℕ
ends_of n Aside = 0
ends_of n (Makes d name) = 0
ends_of n (Adds d) = 0
ends_of n (Fires d value) = 0
ends_of n (Swallows d) = 0
ends_of n (Refuses d) = 0
ends_of n (Runs d) = 0
ends_of n (Sets d value) = if nat_eq d n then 1 else 0
ends_of n (Takes d e value) = if nat_eq d n then 1 else 0
ends_of n (Waits d e) = if nat_eq d n then 1 else 0
ends_of n (Hands e d value) = 0
ends_of n (Pauses d) = 0
ends_of n (Unpauses d) = 0
ends_of n (Cancels d) = 0

abbrev pub ending : ℕ → Entry → ℕ
ending n x = ends_of n (change_of x)

-- how many sides of n end
abbrev pub ends : ℕ → List Entry → ℕ
ends n entries = sum_by (ending n) entries

-- each pair of n is used once at most: at each place no more sides of n have run than pairs were added to it
abbrev pub UsesEachPairOnce : ℕ → List Entry → Type 0
UsesEachPairOnce n entries = AtEachPlace (λ told. runs n told ≤ additions n told) entries

-- the sides of n run one at a time: at each place all that have run have ended, or all but one, and no more have ended
-- than have run
pub record RunsOneAtATime (n : ℕ) (entries : List Entry) : Type 0 where
  pub alone : AtEachPlace (λ told. runs n told ≤ ends n told + 1) entries
  pub begun : AtEachPlace (λ told. ends n told ≤ runs n told) entries

-- a run uses each pair once at most, by its report
abbrev pub EachPairIsUsedOnce : Type 0
EachPairIsUsedOnce =
    (script : Script) (report : Report) → Reports script report → (n : ℕ) → UsesEachPairOnce n report.journal.entries

-- and the sides of a Deferred run one at a time
abbrev pub SidesRunOneAtATime : Type 0
SidesRunOneAtATime =
    (script : Script) (report : Report) → Reports script report → (n : ℕ) → RunsOneAtATime n report.journal.entries
