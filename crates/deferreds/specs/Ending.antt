-- How the program ends, by how what it did with its script has ended.
use Rattle.std.specs.Prelude.{◌≡◌, ◌⊎◌, ℕ, nat_eq, if◌then◌else◌, List, [], Option, None, Some, Result, IfErr}
use Rattle.std.specs.Prelude.{IfOk, codes}
use Rattle.std.specs.Io.KnownBytes.{Keeps}
use Rattle.dv_engine.specs.declared.report.Report.{Report}
use Rattle.dv_journal.specs.Ending.{ending_of}
use Rattle.dv_journal.specs.declared.ending.Ending.{Ending}
use Rattle.dv_json.specs.Exit.{error_text as json_text, status as json_status}
use Rattle.dv_json.specs.Lines.{GivesUp as GivesUpAsJson, HasRun}
use Rattle.dv_json.specs.Replayed.{GivesUpIn, HasRunIn}
use Rattle.dv_orders.specs.Reading.{batches_in}
use Rattle.dv_orders.specs.declared.fault.OrderFault.{OrderFault}
use Rattle.dv_run.specs.Exit.{error_text, status, status_of}
use Rattle.dv_run.specs.declared.error.RunFault.{RunFault}
use Rattle.dv_posts.specs.Batches.{Batch}
use Rattle.dv_reader.specs.declared.error.ScriptFault.{ScriptFault}
use Rattle.dv_orders.specs.declared.number.Number.{Number}
use Rattle.dv_replay.specs.Exit.{fault_refusal, fault_status, fault_text, survey_ended, survey_said, survey_too_many}
use Rattle.dv_replay.specs.Replay as replay
use Rattle.dv_replay.specs.Replay.{PrintsIn}
use Rattle.dv_replay.specs.Surveying as surveying
use Rattle.dv_replay.specs.Surveying.{Surveys}
use Rattle.dv_replay.specs.declared.error.ReplayFault.{ReplayFault}
use Rattle.dv_replay.specs.declared.error.SurveyFault.{SurveyFault}
use Rattle.dv_replay.specs.declared.exit.Sums.{Sums}
use Rattle.dv_run.specs.Headline.{Prints, Told}
use Rattle.dv_run.specs.Run.{GivesUp}
use Rattle.dv_run.specs.declared.orders.Chosen.{Chosen}
use Rattle.dv_run.specs.declared.orders.Chosen.TheVariants as chosen
use Rattle.dv_run.specs.declared.words.Form.{Form}
use Rattle.dv_run.specs.declared.words.Form.TheVariants as form
use Rattle.dv_run.specs.declared.words.Task.{Task}
use Rattle.dv_run.specs.declared.words.Task.TheVariants as task
use Rattle.dv_survey.specs.declared.format.Format.{Format}
use Rattle.dv_survey.specs.declared.format.Format.TheVariants as format
use Rattle.dv_why.specs.Explaining.{ended_status, ended_text, Explains, GivesUp as GivesUpToExplain}
use Rattle.dv_why.specs.declared.explaining.WhyFault.{WhyFault}

-- no line follows of batches that are refused, nor of orders that are too many
pub record IsPlain (refusal : Option OrderFault) (many : Option Number) : Type 0 where
  pub accepted : refusal ≡ None
  pub few : many ≡ None

-- a run whose text is the headline's ended, and this is its status and what goes to standard error
pub record Runs (code : ℕ) (said : List ℕ) (input old new : Told) : Type 0 where
  pub ended : Result Report RunFault
  pub ok : IfOk ended (Prints input old new)
  pub err : IfErr ended (λ fault. GivesUp fault input old new)
  pub status : code ≡ status ended
  pub text : said ≡ error_text ended

-- a run that is written as JSON Lines ended
pub record RunsAsJson (code : ℕ) (said : List ℕ) (input old new : Told) : Type 0 where
  pub ended : Result Ending RunFault
  pub ok : IfOk ended (HasRun input old new)
  pub err : IfErr ended (λ fault. GivesUpAsJson fault input old new)
  pub status : code ≡ json_status ended
  pub text : said ≡ json_text ended

-- an explanation ended
pub record ExplainsScript (code : ℕ) (said : List ℕ) (input old new : Told) : Type 0 where
  pub ended : Result (Option ScriptFault) WhyFault
  pub ok : IfOk ended (Explains input old new)
  pub err : IfErr ended (λ fault. GivesUpToExplain fault input old new)
  pub status : code ≡ ended_status ended
  pub text : said ≡ ended_text ended

-- a run in given batches went to its end
pub record HasEnded (ending : Ending) (code : ℕ) (said : List ℕ) (refusal : Option OrderFault) : Type 0 where
  pub status : code ≡ status_of ending
  pub text : said ≡ []
  pub accepted : refusal ≡ None

-- a run in given batches failed
pub record HasGivenUp (fault : ReplayFault) (code : ℕ) (said : List ℕ) (refusal : Option OrderFault) : Type 0 where
  pub status : code ≡ fault_status fault
  pub text : said ≡ fault_text fault
  pub refused : refusal ≡ fault_refusal fault

-- a run in these batches whose text is theirs ended
pub record ReplaysLines (batches : List Batch) (code : ℕ) (said : List ℕ) (refusal : Option OrderFault)
    (input old new : Told) : Type 0 where
  pub report : Report
  pub prints : PrintsIn batches input old new report
  pub ends : HasEnded (ending_of report.stopped report.journal.entries) code said refusal

-- or it failed
pub record FailsLines (batches : List Batch) (code : ℕ) (said : List ℕ) (refusal : Option OrderFault)
    (input old new : Told) : Type 0 where
  pub fault : ReplayFault
  pub gives_up : replay.GivesUp fault batches input old new
  pub ends : HasGivenUp fault code said refusal

-- the same of a run that is written as JSON Lines
pub record ReplaysJson (batches : List Batch) (code : ℕ) (said : List ℕ) (refusal : Option OrderFault)
    (input old new : Told) : Type 0 where
  pub ending : Ending
  pub runs : HasRunIn batches input old new ending
  pub ends : HasEnded ending code said refusal

pub record FailsJson (batches : List Batch) (code : ℕ) (said : List ℕ) (refusal : Option OrderFault)
    (input old new : Told) : Type 0 where
  pub fault : ReplayFault
  pub gives_up : GivesUpIn fault batches input old new
  pub ends : HasGivenUp fault code said refusal

-- a run in these batches, in each form
abbrev pub Replays : Form → List Batch → ℕ → List ℕ → Option OrderFault → Told → Told → Told → Type 0
Replays form.Lines batches code said refusal input old new =
    ReplaysLines batches code said refusal input old new ⊎ FailsLines batches code said refusal input old new
Replays form.Json batches code said refusal input old new =
    ReplaysJson batches code said refusal input old new ⊎ FailsJson batches code said refusal input old new

-- the word says batches, and the script was run in these
pub record ReplaysWord (form : Form) (word : List ℕ) (code : ℕ) (said : List ℕ) (refusal : Option OrderFault)
    (input old new : Told) : Type 0 where
  pub batches : List Batch
  pub says : batches_in word ≡ Some batches
  pub replays : Replays form batches code said refusal input old new

-- the word says no batches, and nothing was written
pub record SaysNoBatches (word : List ℕ) (code : ℕ) (old new : Told) : Type 0 where
  pub none : batches_in word ≡ None
  pub status : code ≡ 64
  pub written : Keeps old new

-- the reading of the word was out of memory, and nothing was written
pub record WordFails (code : ℕ) (said : List ℕ) (old new : Told) : Type 0 where
  pub status : code ≡ 3
  pub text : said ≡ codes "out of memory"
  pub written : Keeps old new

-- the size of a sample
abbrev pub size_of : Chosen → Option ℕ
size_of (chosen.Every most) = None
size_of (chosen.Sample size seed) = Some size

-- the format of a survey of these orders in this form
abbrev pub format_for : Form → Chosen → Format
format_for form.Lines chosen = format.Lines (size_of chosen)
format_for form.Json chosen = format.Json (size_of chosen)

-- a run in the chosen orders ended, or failed
pub record SurveysScript (format : Format) (chosen : Chosen) (code : ℕ) (said : List ℕ) (many : Option Number)
    (input old new : Told) : Type 0 where
  pub ended : Result Sums SurveyFault
  pub ok : IfOk ended (Surveys format chosen input old new)
  pub err : IfErr ended (λ fault. surveying.GivesUp format fault chosen input old new)
  pub status : code ≡ survey_ended ended
  pub text : said ≡ survey_said ended
  pub number : many ≡ survey_too_many ended

-- how each task may end, with the word of the batches
abbrev pub Does : Task → List ℕ → ℕ → List ℕ → Option OrderFault → Option Number → Told → Told → Told → Type 0
Does (task.Run form.Lines workers) word code said refusal many input old new =
    Runs code said input old new × IsPlain refusal many
Does (task.Run form.Json workers) word code said refusal many input old new =
    RunsAsJson code said input old new × IsPlain refusal many
Does (task.Replay form workers) word code said refusal many input old new =
    (ReplaysWord form word code said refusal input old new × many ≡ None)
    ⊎ (SaysNoBatches word code old new × IsPlain refusal many)
    ⊎ (WordFails code said old new × IsPlain refusal many)
Does (task.Survey form chosen) word code said refusal many input old new =
    SurveysScript (format_for form chosen) chosen code said many input old new × refusal ≡ None
Does task.Why word code said refusal many input old new = ExplainsScript code said input old new × IsPlain refusal many

-- who runs a script that is refused is pointed to what explains it
abbrev pub hint_after : ℕ → List ℕ
hint_after code = if nat_eq code 2 then codes "deferreds --why says where and why" else []
