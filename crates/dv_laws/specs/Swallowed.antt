-- When a firing is swallowed, as the journal logs it (Twisted: `Deferred.cancel`).
use Rattle.std.specs.Prelude.{ℕ, zero, suc, ◌≡◌, List, ◌∷◌, ◌++◌, Option, None, Some, option_and_then}
use Rattle.dv_journal.specs.declared.entry.Entry.{Entry}
use Rattle.dv_journal.specs.declared.entry.Entry.TheVariants as entry
use Rattle.dv_script.specs.declared.script.Script.{Script}
use Rattle.dv_engine.specs.Report.{Reports}
use Rattle.dv_engine.specs.declared.report.Report.{Report}
use Rattle.dv_objects.specs.Refusals.{cancelled}
use Rattle.dv_laws.specs.Places.{OfEachEntry}
use Rattle.dv_laws.specs.ReadBack.{told_by}

-- the Deferred that d waits for, by what was logged
abbrev pub waited_for : ℕ → List Entry → Option ℕ
waited_for d told = option_and_then (λ s. s.waits_for) (told_by d told)

-- the Deferred to which so many waits lead from d, by what was logged
abbrev pub led_to : ℕ → ℕ → List Entry → Option ℕ
led_to zero d told = Some d
led_to (suc waits) d told = option_and_then (λ e. led_to waits e told) (waited_for d told)

-- by what was logged a cancel of d reaches n: waits lead from d to n, or d is n, and n waits for none
pub record Reaches (d n : ℕ) (told : List Entry) : Type 0 where
  pub waits : ℕ
  pub leads : led_to waits d told ≡ Some n
  pub free : waited_for n told ≡ None

-- a cancel that reaches n is logged, and directly after it that n is fired with CancelledError and an empty message
pub record IsFiredByACancel (n : ℕ) (told : List Entry) : Type 0 where
  pub of : ℕ
  pub before : List Entry
  pub later : List Entry
  pub among : told ≡ before ++ entry.Cancel of ∷ (entry.Fire n cancelled ∷ later)
  pub reaches : Reaches of n before

-- wherever a firing of n is swallowed, a cancel has fired n
abbrev pub SwallowsAfterACancel : ℕ → List Entry → Type 0
SwallowsAfterACancel n entries = OfEachEntry (λ told x. x ≡ entry.Swallow n → IsFiredByACancel n told) entries

-- in a run a firing of a Deferred is swallowed only if a cancel has fired that, by its report
abbrev pub OnlyACancelHasOneSwallowed : Type 0
OnlyACancelHasOneSwallowed =
    (script : Script) (report : Report) → Reports script report → (n : ℕ)
    → SwallowsAfterACancel n report.journal.entries
