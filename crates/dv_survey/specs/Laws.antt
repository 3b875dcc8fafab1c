-- Laws of surveys: what their numbers say of the runs.
use Rattle.std.specs.Prelude.{◌≡◌, ◌≤◌, ℕ, List, Contains, count_by, length, map}
use Rattle.dv_journal.specs.Ending.{is_unmet_end}
use Rattle.dv_value.specs.declared.classes.Class.{Class}
use Rattle.dv_survey.specs.Lines.{lines_of}
use Rattle.dv_survey.specs.Survey.{Run, survey_of}
use Rattle.dv_survey.specs.Tallies.{count_of}
use Rattle.dv_survey.specs.declared.format.Format.{Format}

-- the lines of a run: what became of each Deferred
abbrev pub texts_of : Format → List Class → Run → List (List ℕ)
texts_of format table run = map (λ line. line.text) (lines_of format table run.outcomes)

-- a run has each line of another
abbrev pub HasLinesOf : Format → List Class → Run → Run → Type 0
HasLinesOf format table run other =
    (text : List ℕ) → Contains (texts_of format table other) text → Contains (texts_of format table run) text

-- where a survey has one outcome at most, each of its runs has each line of every other
abbrev pub OneOutcomeIsOneSetOfLines : Type 0
OneOutcomeIsOneSetOfLines =
    (format : Format) (table : List Class) (runs : List Run) (run other : Run)
    → length (survey_of format table runs).outcomes ≤ 1 → Contains runs run → Contains runs other
    → HasLinesOf format table run other

-- a survey counts the runs that ended since a Deferred wasn't as the script expects
abbrev pub UnmetIsCounted : Type 0
UnmetIsCounted =
    (format : Format) (table : List Class) (runs : List Run)
    → count_of (survey_of format table runs).unmet ≡ count_by (λ run. is_unmet_end run.ending) runs
