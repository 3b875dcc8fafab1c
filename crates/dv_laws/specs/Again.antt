-- Further firings of a Deferred, as its journal logs them (Twisted: `Deferred.cancel`, `AlreadyCalledError`).
use Rattle.std.specs.Prelude.{ℕ, ◌≡◌, if◌then◌else◌, nat_eq, List, ◌∷◌, ◌++◌, sum_by}
use Rattle.dv_journal.specs.Told.{Change, change_of, Aside, Makes, Adds, Fires, Swallows, Refuses, Runs, Sets, Takes}
use Rattle.dv_journal.specs.Told.{Waits, Hands, Pauses, Unpauses, Cancels}
use Rattle.dv_journal.specs.declared.entry.Entry.{Entry}
use Rattle.dv_journal.specs.declared.entry.Entry.TheVariants as entry
use Rattle.dv_script.specs.declared.script.Script.{Script}
use Rattle.dv_engine.specs.Report.{Reports}
use Rattle.dv_engine.specs.declared.report.Report.{Report}
use Rattle.dv_laws.specs.Once.{firings, swallowings}

-- what is logged counts one where it is that a further firing of n is refused
abbrev pub refuses_of : ℕ → Change → ℕ
refuses_of n Aside = 0
refuses_of n (Makes d name) = 0
refuses_of n (Adds d) = 0
refuses_of n (Fires d value) = 0
refuses_of n (Swallows d) = 0
refuses_of n (Refuses d) = if nat_eq d n then 1 else 0
refuses_of n (Runs d) = 0
refuses_of n (Sets d value) = 0
refuses_of n (Takes d e value) = 0
refuses_of n (Waits d e) = 0
refuses_of n (Hands e d value) = 0
refuses_of n (Pauses d) = 0
refuses_of n (Unpauses d) = 0
refuses_of n (Cancels d) = 0

abbrev pub refusing : ℕ → Entry → ℕ
refusing n x = refuses_of n (change_of x)

-- how many firings of n are refused
abbrev pub refusals : ℕ → List Entry → ℕ
refusals n entries = sum_by (refusing n) entries

-- a firing of n that is swallowed is the first after the one that fired it: none was refused before, and each one after
-- it is refused, since none fires n or is swallowed
pub record SwallowsTheFirst (n : ℕ) (entries : List Entry) : Type 0 where
  pub first : (before later : List Entry) → entries ≡ before ++ entry.Swallow n ∷ later → refusals n before ≡ 0
  pub refused : (before later : List Entry) → entries ≡ before ++ entry.Swallow n ∷ later → firings n later ≡ 0
  pub only : (before later : List Entry) → entries ≡ before ++ entry.Swallow n ∷ later → swallowings n later ≡ 0

-- in a run only the next firing after the first may be swallowed, by its report
abbrev pub OnlyTheNextFiringIsSwallowed : Type 0
OnlyTheNextFiringIsSwallowed =
    (script : Script) (report : Report) → Reports script report → (n : ℕ) → SwallowsTheFirst n report.journal.entries
