-- A script in every order of its posts, or in each of a sample: what is gathered of its runs, and what is written of
-- that.
use Rattle.std.specs.Prelude.{◌≡◌, ◌<◌, ◌⊎◌, ◌++◌, ◌^◌, ◌-◌, ℕ, nat_le, Bool, true, false, ⊤, None, Some, List, [], ◌∷◌}
use Rattle.std.specs.Prelude.{length, map, All, Result, Ok, Err}
use Rattle.std.specs.Io.KnownBytes.{Appends, Keeps}
use Rattle.dv_engine.specs.declared.report.Report.{Report}
use Rattle.dv_journal.specs.Ending.{ending_of}
use Rattle.dv_journal.specs.Sink.{AppendsPrefix}
use Rattle.dv_orders.specs.Orders.{orders}
use Rattle.dv_orders.specs.Sampled.{sampled}
use Rattle.dv_orders.specs.declared.number.Number.{Number}
use Rattle.dv_orders.specs.declared.number.Number.TheVariants.{Exactly, More}
use Rattle.dv_run.specs.declared.error.RunFault.TheVariants.{ScriptRefused, OutOfMemory, ReadFault, WriteFault}
use Rattle.dv_posts.specs.Batches.{Batch}
use Rattle.dv_replay.specs.declared.error.SurveyFault.{SurveyFault}
use Rattle.dv_replay.specs.declared.error.SurveyFault.TheVariants.{Run, TooMany}
use Rattle.dv_replay.specs.declared.exit.Sums.{Sums}
use Rattle.dv_run.specs.declared.orders.Chosen.{Chosen}
use Rattle.dv_run.specs.declared.orders.Chosen.TheVariants.{Every, Sample}
use Rattle.dv_run.specs.Headline.{IsRun, Told}
use Rattle.dv_run.specs.Run as run
use Rattle.dv_run.specs.Run.{HasRead, RefusesInput, SaysScript}
use Rattle.dv_script.specs.declared.script.Script.{Script}
use Rattle.dv_survey.specs.Survey as gathering
use Rattle.dv_survey.specs.Tallies.{count_of}
use Rattle.dv_survey.specs.Text.{number_text, survey_text}
use Rattle.dv_survey.specs.declared.format.Format.{Format}
use Rattle.dv_survey.specs.declared.format.Format.TheVariants.{Lines, Json}
use Rattle.dv_survey.specs.declared.survey.Survey.{Survey}

-- what a survey keeps of the report of a run
abbrev pub run_of : Report → gathering.Run
run_of report = gathering.run_of report.batches report.outcomes (ending_of report.stopped report.journal.entries)

-- the survey is that of runs of the script, one in each of these orders
pub record HasSurveyed (format : Format) (script : Script) (seen : List (List Batch)) (survey : Survey) : Type 0 where
  pub reports : List Report
  pub runs : All (IsRun script) reports
  pub took : map (λ report. report.batches) reports ≡ seen
  pub gathers : survey ≡ gathering.survey_of format script.classes (map run_of reports)

-- the format that a mark stands for
abbrev pub format_of : List ℕ → Format
format_of [] = Lines None
format_of (size ∷ []) = Lines (Some size)
format_of (size ∷ second ∷ []) = Json None
format_of (size ∷ second ∷ third ∷ mark) = Json (Some size)

-- the orders that are chosen
abbrev pub chosen_orders : Chosen → Script → List (List Batch)
chosen_orders (Every most) script = orders script
chosen_orders (Sample size seed) script = sampled script size seed

-- whether so many orders are no more than may run
abbrev pub is_few : Chosen → ℕ → Bool
is_few (Every most) count = nat_le count most
is_few (Sample size seed) count = true

-- how many run, of so many orders
abbrev pub ran : Chosen → ℕ → ℕ
ran (Every most) count = count
ran (Sample size seed) count = size

-- how many orders there are, and then what became of the Deferreds in those that ran
abbrev pub orders_text : Format → Chosen → ℕ → Survey → List ℕ
orders_text format chosen count survey = number_text format count ++ survey_text survey (ran chosen count)

-- what became of the Deferreds in the chosen orders was written, of which there are no more than may run, in so many
-- ways; and in so many of them a Deferred wasn't as the script expects
pub record PrintsOrders (format : Format) (chosen : Chosen) (old new : Told) (sums : Sums)
    (script : Script) : Type 0 where
  pub few : is_few chosen (length (orders script)) ≡ true
  pub survey : Survey
  pub surveyed : HasSurveyed format script (chosen_orders chosen script) survey
  pub written : Appends old new (orders_text format chosen (length (orders script)) survey)
  pub ways : sums.outcomes ≡ length survey.outcomes
  pub unmet : sums.unmet ≡ count_of survey.unmet

-- a prefix of that was written
pub record PrintsSome (format : Format) (chosen : Chosen) (old new : Told) (script : Script) : Type 0 where
  pub survey : Survey
  pub surveyed : HasSurveyed format script (chosen_orders chosen script) survey
  pub written : AppendsPrefix old new (orders_text format chosen (length (orders script)) survey)

-- a prefix of the line of their number was written
abbrev pub PrintsNumber : Format → Told → Told → Script → Type 0
PrintsNumber format old new script = AppendsPrefix old new (number_text format (length (orders script)))

-- the script has so many orders, which are more than may run, or more than 64 bits count
abbrev pub Exceeds : Number → Chosen → Script → Type 0
Exceeds (Exactly number) chosen script = (number ≡ length (orders script)) × (is_few chosen number ≡ false)
Exceeds More chosen script = 2 ^ 64 - 2 < length (orders script)

-- the input says a script, of which this holds
pub record InputSays (input : Told) (Holds : Script → Type 0) : Type 0 where
  pub script : Script
  pub says : SaysScript input script
  pub holds : Holds script

-- the input says a script, and what became of its Deferreds in every order was written
abbrev pub Surveys : Format → Chosen → Told → Told → Told → Sums → Type 0
Surveys format chosen input old new sums = InputSays input (PrintsOrders format chosen old new sums)

-- why the orders of a script aren't performed: an allocation failed, or there are too many
abbrev pub CountFails : SurveyFault → Chosen → Script → Type 0
CountFails (Run (ScriptRefused fault)) chosen script = ⊥
CountFails (Run OutOfMemory) chosen script = ⊤
CountFails (Run ReadFault) chosen script = ⊥
CountFails (Run WriteFault) chosen script = ⊥
CountFails (TooMany number) chosen script = Exceeds number chosen script

-- what was written before each fault, once there is a script: where there are too many orders, nothing
abbrev pub OrdersGiveUp : Format → SurveyFault → Chosen → Told → Told → Script → Type 0
OrdersGiveUp format (Run (ScriptRefused fault)) chosen old new script = ⊥
OrdersGiveUp format (Run OutOfMemory) chosen old new script =
    PrintsNumber format old new script ⊎ PrintsSome format chosen old new script
OrdersGiveUp format (Run ReadFault) chosen old new script = ⊥
OrdersGiveUp format (Run WriteFault) chosen old new script =
    PrintsNumber format old new script ⊎ PrintsSome format chosen old new script
OrdersGiveUp format (TooMany number) chosen old new script = Exceeds number chosen script × Keeps old new

-- what was written before each fault: nothing where there is no script
abbrev pub GivesUp : Format → SurveyFault → Chosen → Told → Told → Told → Type 0
GivesUp format (Run (ScriptRefused fault)) chosen input old new = RefusesInput input old new fault
GivesUp format (Run OutOfMemory) chosen input old new =
    Keeps old new ⊎ InputSays input (OrdersGiveUp format (Run OutOfMemory) chosen old new)
GivesUp format (Run ReadFault) chosen input old new = Keeps old new
GivesUp format (Run WriteFault) chosen input old new =
    InputSays input (OrdersGiveUp format (Run WriteFault) chosen old new)
GivesUp format (TooMany number) chosen input old new =
    InputSays input (OrdersGiveUp format (TooMany number) chosen old new)

-- after a read fault the reader has failed meanwhile, and after any other it hasn't
abbrev pub ReaderFailedBy : SurveyFault → ℕ → ℕ → Type 0
ReaderFailedBy (Run fault) old new = run.ReaderFailedBy fault old new
ReaderFailedBy (TooMany number) old new = new ≡ old

abbrev pub ReaderFailed : {A : Type 0} → Result A SurveyFault → ℕ → ℕ → Type 0
ReaderFailed (Ok answer) old new = new ≡ old
ReaderFailed (Err fault) old new = ReaderFailedBy fault old new

-- after a write fault the writer has failed meanwhile, and after any other it hasn't
abbrev pub WriterFailedBy : SurveyFault → ℕ → ℕ → Type 0
WriterFailedBy (Run fault) old new = run.WriterFailedBy fault old new
WriterFailedBy (TooMany number) old new = new ≡ old

abbrev pub WriterFailed : {A : Type 0} → Result A SurveyFault → ℕ → ℕ → Type 0
WriterFailed (Ok answer) old new = new ≡ old
WriterFailed (Err fault) old new = WriterFailedBy fault old new

-- what a reader has left after a fault
abbrev pub LeavesAfter : SurveyFault → Told → Told → Type 0
LeavesAfter (Run fault) input rest = run.LeavesAfter fault input rest
LeavesAfter (TooMany number) input rest = HasRead input rest

abbrev pub Leaves : {A : Type 0} → Result A SurveyFault → Told → Told → Type 0
Leaves (Ok answer) input rest = HasRead input rest
Leaves (Err fault) input rest = LeavesAfter fault input rest
