-- How a program tells how its run in given batches ended: as `dv_run` has it of a report.
use Rattle.std.specs.Prelude.{ℕ, nat_le, nat_lt, if◌then◌else◌, List, [], Option, None, Some, Result, Ok, Err}
use Rattle.dv_journal.specs.declared.ending.Ending.{Ending}
use Rattle.dv_orders.specs.declared.fault.OrderFault.{OrderFault}
use Rattle.dv_run.specs.Exit as output
use Rattle.dv_orders.specs.declared.number.Number.{Number}
use Rattle.dv_replay.specs.declared.error.ReplayFault.{ReplayFault}
use Rattle.dv_replay.specs.declared.error.ReplayFault.TheVariants.{Run, BatchesRefused}
use Rattle.dv_replay.specs.declared.error.SurveyFault.{SurveyFault}
use Rattle.dv_replay.specs.declared.error.SurveyFault.TheVariants as survey
use Rattle.dv_replay.specs.declared.exit.Sums.{Sums}

-- 5 where the batches are refused, and otherwise that of the run
abbrev pub fault_status : ReplayFault → ℕ
fault_status (Run fault) = output.fault_status fault
fault_status (BatchesRefused fault) = 5

abbrev pub status : Result Ending ReplayFault → ℕ
status (Ok ending) = output.status_of ending
status (Err fault) = fault_status fault

-- what goes to standard error, as a line where it isn't empty; why batches are refused is said apart
abbrev pub fault_text : ReplayFault → List ℕ
fault_text (Run fault) = output.fault_text fault
fault_text (BatchesRefused fault) = []

abbrev pub error_text : Result Ending ReplayFault → List ℕ
error_text (Ok ending) = []
error_text (Err fault) = fault_text fault

-- why the batches are refused, where they are
abbrev pub fault_refusal : ReplayFault → Option OrderFault
fault_refusal (Run fault) = None
fault_refusal (BatchesRefused fault) = Some fault

abbrev pub refusal : Result Ending ReplayFault → Option OrderFault
refusal (Ok ending) = None
refusal (Err fault) = fault_refusal fault

-- 8 where a Deferred wasn't as the script expects in some order, else 0 where all orders end in one way, and 6 where they
-- don't
abbrev pub survey_status : Sums → ℕ
survey_status sums = if nat_lt 0 sums.unmet then 8 else if nat_le sums.outcomes 1 then 0 else 6

-- 7 where there are too many orders, and otherwise that of a run
abbrev pub survey_fault_status : SurveyFault → ℕ
survey_fault_status (survey.Run fault) = output.fault_status fault
survey_fault_status (survey.TooMany number) = 7

abbrev pub survey_fault_text : SurveyFault → List ℕ
survey_fault_text (survey.Run fault) = output.fault_text fault
survey_fault_text (survey.TooMany number) = []

-- how many orders there are, where these are too many
abbrev pub too_many : SurveyFault → Option Number
too_many (survey.Run fault) = None
too_many (survey.TooMany number) = Some number

-- how a survey ends
abbrev pub survey_ended : Result Sums SurveyFault → ℕ
survey_ended (Ok sums) = survey_status sums
survey_ended (Err fault) = survey_fault_status fault

abbrev pub survey_said : Result Sums SurveyFault → List ℕ
survey_said (Ok sums) = []
survey_said (Err fault) = survey_fault_text fault

abbrev pub survey_too_many : Result Sums SurveyFault → Option Number
survey_too_many (Ok sums) = None
survey_too_many (Err fault) = too_many fault
