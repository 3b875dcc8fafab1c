-- Laws of several runs: what their texts depend on, and what a survey of every order says of them.
use Rattle.std.specs.Prelude.{◌≡◌, ◌≢◌, ◌↔◌, ℕ, List, Some, Contains, length}
use Rattle.dv_engine.specs.declared.report.Report.{Report}
use Rattle.dv_journal.specs.declared.ending.Ending.TheVariants.{Unmet}
use Rattle.dv_orders.specs.Orders.{counts_of, orders, total}
use Rattle.dv_run.specs.Output.{report_text}
use Rattle.dv_run.specs.Headline.{IsRun, SaysReport}
use Rattle.dv_replay.specs.Exit.{survey_status}
use Rattle.dv_replay.specs.Surveying.{HasSurveyed, run_of}
use Rattle.dv_replay.specs.declared.exit.Sums.{Sums}
use Rattle.dv_script.specs.declared.script.Script.{Script}
use Rattle.dv_survey.specs.Laws.{HasLinesOf}
use Rattle.dv_survey.specs.Tallies.{count_of}
use Rattle.dv_survey.specs.declared.format.Format.{Format}
use Rattle.dv_survey.specs.declared.survey.Survey.{Survey}

-- two reports have one journal and the same outcomes, and print one text, and both runs stopped or neither did
pub record AreAlike (script other : Script) (a b : Report) : Type 0 where
  pub journal : a.journal ≡ b.journal
  pub outcomes : a.outcomes ≡ b.outcomes
  pub text : report_text script.classes a ≡ report_text other.classes b
  pub stopped : a.stopped ≡ b.stopped

-- two runs of one input in the same batches are alike
abbrev pub BatchesDecide : Type 0
BatchesDecide =
    (input : List ℕ) (s t : Script) (a b : Report) → SaysReport (Some input) s a → SaysReport (Some input) t b
    → a.batches ≡ b.batches → AreAlike s t a b

-- two runs of one input in which nobody posts are alike
abbrev pub AloneAllIsDecided : Type 0
AloneAllIsDecided =
    (input : List ℕ) (s t : Script) (a b : Report) → SaysReport (Some input) s a → SaysReport (Some input) t b
    → total (counts_of s.callers) ≡ 0 → AreAlike s t a b

-- the batches of every run are one of the orders of its script
abbrev pub EveryRunIsListed : Type 0
EveryRunIsListed = (script : Script) (report : Report) → IsRun script report → Contains (orders script) report.batches

-- whatever a run of a script prints, a run in one of the orders that were surveyed prints, too
abbrev pub EveryRunIsSurveyed : Type 0
EveryRunIsSurveyed =
    (format : Format) (script : Script) (survey : Survey) (all : HasSurveyed format script (orders script) survey)
    (report : Report) → IsRun script report
    → (other : Report) × Contains all.reports other × AreAlike script script report other

-- a run ended since a Deferred wasn't as the script expects
abbrev pub EndsUnmet : Report → Type 0
EndsUnmet report = (run_of report).ending ≡ Unmet

-- in how many ways the runs of a survey ended, and how many ended unmet
pub record AreSumsOf (survey : Survey) (sums : Sums) : Type 0 where
  pub ways : sums.outcomes ≡ length survey.outcomes
  pub unmet : sums.unmet ≡ count_of survey.unmet

-- two runs have each line of the other, NAME PLACE STATE or as JSON, and neither ends unmet
pub record EndAlike (format : Format) (script : Script) (a b : Report) : Type 0 where
  pub lines : HasLinesOf format script.classes (run_of a) (run_of b)
  pub other_lines : HasLinesOf format script.classes (run_of b) (run_of a)
  pub met : (run_of a).ending ≢ Unmet
  pub other_met : (run_of b).ending ≢ Unmet

-- where a survey of every order has status 0, any two runs of the script have the same lines, and neither ends unmet
abbrev pub OneOutcomeHoldsOfEveryRun : Type 0
OneOutcomeHoldsOfEveryRun =
    (format : Format) (script : Script) (survey : Survey) (sums : Sums)
    → HasSurveyed format script (orders script) survey → AreSumsOf survey sums → survey_status sums ≡ 0
    → (a b : Report) → IsRun script a → IsRun script b → EndAlike format script a b

-- a survey of every order has status 8 exactly where some run of the script ends unmet
abbrev pub UnmetIsFoundExactly : Type 0
UnmetIsFoundExactly =
    (format : Format) (script : Script) (survey : Survey) (sums : Sums)
    → HasSurveyed format script (orders script) survey → AreSumsOf survey sums
    → (survey_status sums ≡ 8) ↔ ((report : Report) × IsRun script report × EndsUnmet report)
