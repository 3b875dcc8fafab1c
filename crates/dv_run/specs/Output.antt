-- The lines that print the outcomes of a run.
use Rattle.std.specs.Prelude.{ℕ, suc, nat_eq, if◌then◌else◌, List, [], ◌∷◌, ◌++◌, codes}
use Rattle.dv_value.specs.declared.classes.Class.{Class}
use Rattle.dv_journal.specs.Line.{text_of, name_text}
use Rattle.dv_journal.specs.State.{hash, state_text}
use Rattle.dv_store.specs.declared.outcome.Outcome.{Outcome}
use Rattle.dv_engine.specs.declared.report.Report.{Report}

-- a paused one is printed as such
abbrev pub pauses_text : ℕ → List ℕ
pauses_text pauses = if nat_eq pauses 0 then [] else codes "paused "

-- #N NAME STATE
abbrev pub outcome_line : List Class → ℕ → Outcome → List ℕ
outcome_line table number o =
    hash number ++ codes " " ++ name_text o.name ++ codes " " ++ pauses_text o.pauses ++ state_text table o.state
    ++ codes "\n"

-- a line for each outcome, numbered from this number on
abbrev pub lines_from : List Class → ℕ → List Outcome → List ℕ
lines_from table number [] = []
lines_from table number (o ∷ outcomes) = outcome_line table number o ++ lines_from table (suc number) outcomes

-- a line for each Deferred, in order of making
abbrev pub output : List Class → List Outcome → List ℕ
output table outcomes = lines_from table 0 outcomes

-- the journal, and then the outcomes
abbrev pub report_text : List Class → Report → List ℕ
report_text table report = text_of table report.journal.entries ++ output table report.outcomes
