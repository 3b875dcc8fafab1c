-- How the program ends, by how its task does.
use Rattle.std.proofs.Common.{◌≡◌, ℕ, List, [], Option, None, Some, Result, Ok, Err, IfErr, IfOk, inl, inr, codes}
use Rattle.std.proofs.KnownBytes.{Keeps-refl}
use Rattle.dv_engine.specs.declared.report.Report.{Report}
use Rattle.dv_journal.specs.Ending.{ending_of}
use Rattle.dv_journal.specs.declared.ending.Ending.{Ending}
use Rattle.dv_json.specs.Exit.{error_text as json_text, status as json_status}
use Rattle.dv_json.specs.Lines.{GivesUp as GivesUpAsJson, HasRun}
use Rattle.dv_json.specs.Replayed.{GivesUpIn, HasRunIn}
use Rattle.dv_orders.specs.Reading.{batches_in}
use Rattle.dv_orders.specs.declared.fault.OrderFault.{OrderFault}
use Rattle.dv_run.specs.Exit.{error_text, status, status_of}
use Rattle.dv_run.specs.declared.error.RunFault.{RunFault}
use Rattle.dv_posts.specs.Batches.{Batch}
use Rattle.dv_reader.specs.declared.error.ScriptFault.{ScriptFault}
use Rattle.dv_orders.specs.declared.number.Number.{Number}
use Rattle.dv_replay.specs.Exit.{fault_refusal, fault_status, fault_text, survey_fault_status, survey_fault_text}
use Rattle.dv_replay.specs.Exit.{survey_status, too_many}
use Rattle.dv_replay.specs.Replay as replay
use Rattle.dv_replay.specs.Replay.{PrintsIn}
use Rattle.dv_replay.specs.Surveying as surveying
use Rattle.dv_replay.specs.Surveying.{Surveys}
use Rattle.dv_replay.specs.declared.error.ReplayFault.{ReplayFault}
use Rattle.dv_replay.specs.declared.error.SurveyFault.{SurveyFault}
use Rattle.dv_replay.specs.declared.exit.Sums.{Sums}
use Rattle.dv_run.specs.Headline.{Prints, Told}
use Rattle.dv_run.specs.Run.{GivesUp}
use Rattle.dv_run.specs.declared.orders.Chosen.{Chosen}
use Rattle.dv_run.specs.declared.words.Form.{Form}
use Rattle.dv_run.specs.declared.words.Form.TheVariants as form
use Rattle.dv_why.specs.Explaining.{ended_status, ended_text, Explains, GivesUp as GivesUpToExplain}
use Rattle.dv_why.specs.declared.explaining.WhyFault.{WhyFault}
use Rattle.dv_run.specs.declared.words.Task.TheVariants as task
use Rattle.deferreds.specs.Ending.{Does, Replays, Runs, format_for}

pub runs : (ended : Result Report RunFault) (code : ℕ) (said : List ℕ) (input old new : Told)
    → IfOk ended (Prints input old new) → IfErr ended (λ fault. GivesUp fault input old new)
    → code ≡ status ended → said ≡ error_text ended → Runs code said input old new
runs ended code said input old new ok err is says =
    record { ended = ended; ok = ok; err = err; status = is; text = says }

pub runs_plainly : (workers : ℕ) (word : List ℕ) (code : ℕ) (said : List ℕ) (refusal : Option OrderFault)
    (many : Option Number) (input old new : Told) → Runs code said input old new → refusal ≡ None → many ≡ None
    → Does (task.Run form.Lines workers) word code said refusal many input old new
runs_plainly workers word code said refusal many input old new runs accepted few =
    (runs, record { accepted = accepted; few = few })

pub runs_as_json : (ended : Result Ending RunFault) (workers : ℕ) (word : List ℕ) (code : ℕ) (said : List ℕ)
    (refusal : Option OrderFault) (many : Option Number) (input old new : Told)
    → IfOk ended (HasRun input old new) → IfErr ended (λ fault. GivesUpAsJson fault input old new)
    → code ≡ json_status ended → said ≡ json_text ended → refusal ≡ None → many ≡ None
    → Does (task.Run form.Json workers) word code said refusal many input old new
runs_as_json ended workers word code said refusal many input old new ok err is says accepted few = (
  record { ended = ended; ok = ok; err = err; status = is; text = says },
  record { accepted = accepted; few = few },
)

pub explains : (ended : Result (Option ScriptFault) WhyFault) (word : List ℕ) (code : ℕ) (said : List ℕ)
    (refusal : Option OrderFault) (many : Option Number) (input old new : Told)
    → IfOk ended (Explains input old new) → IfErr ended (λ fault. GivesUpToExplain fault input old new)
    → code ≡ ended_status ended → said ≡ ended_text ended → refusal ≡ None → many ≡ None
    → Does task.Why word code said refusal many input old new
explains ended word code said refusal many input old new ok err is says accepted few = (
  record { ended = ended; ok = ok; err = err; status = is; text = says },
  record { accepted = accepted; few = few },
)

-- a run in given batches went to its end, or failed
pub replays_lines : (batches : List Batch) (report : Report) (code : ℕ) (said : List ℕ) (refusal : Option OrderFault)
    (input old new : Told) → PrintsIn batches input old new report
    → code ≡ status_of (ending_of report.stopped report.journal.entries) → said ≡ [] → refusal ≡ None
    → Replays form.Lines batches code said refusal input old new
replays_lines batches report code said refusal input old new prints is says accepted =
    inl (record { report = report; prints = prints; ends = record { status = is; text = says; accepted = accepted } })

pub fails_lines : (batches : List Batch) (fault : ReplayFault) (code : ℕ) (said : List ℕ) (refusal : Option OrderFault)
    (input old new : Told) → replay.GivesUp fault batches input old new
    → code ≡ fault_status fault → said ≡ fault_text fault → refusal ≡ fault_refusal fault
    → Replays form.Lines batches code said refusal input old new
fails_lines batches fault code said refusal input old new gives_up is says refused =
    inr (record { fault = fault; gives_up = gives_up; ends = record { status = is; text = says; refused = refused } })

pub replays_json : (batches : List Batch) (ending : Ending) (code : ℕ) (said : List ℕ) (refusal : Option OrderFault)
    (input old new : Told) → HasRunIn batches input old new ending
    → code ≡ status_of ending → said ≡ [] → refusal ≡ None
    → Replays form.Json batches code said refusal input old new
replays_json batches ending code said refusal input old new runs is says accepted =
    inl (record { ending = ending; runs = runs; ends = record { status = is; text = says; accepted = accepted } })

pub fails_json : (batches : List Batch) (fault : ReplayFault) (code : ℕ) (said : List ℕ) (refusal : Option OrderFault)
    (input old new : Told) → GivesUpIn fault batches input old new
    → code ≡ fault_status fault → said ≡ fault_text fault → refusal ≡ fault_refusal fault
    → Replays form.Json batches code said refusal input old new
fails_json batches fault code said refusal input old new gives_up is says refused =
    inr (record { fault = fault; gives_up = gives_up; ends = record { status = is; text = says; refused = refused } })

-- the word was read, or it says no batches, or its reading was out of memory
pub replays_word : (form : Form) (workers : ℕ) (word : List ℕ) (batches : List Batch) (code : ℕ) (said : List ℕ)
    (refusal : Option OrderFault) (many : Option Number) (input old new : Told) → batches_in word ≡ Some batches
    → Replays form batches code said refusal input old new → many ≡ None
    → Does (task.Replay form workers) word code said refusal many input old new
replays_word form workers word batches code said refusal many input old new says replays few =
    inl (record { batches = batches; says = says; replays = replays }, few)

pub says_none : (form : Form) (workers : ℕ) (word : List ℕ) (code : ℕ) (said : List ℕ) (refusal : Option OrderFault)
    (many : Option Number) (input told : Told) → batches_in word ≡ None → code ≡ 64 → refusal ≡ None → many ≡ None
    → Does (task.Replay form workers) word code said refusal many input told told
says_none form workers word code said refusal many input told none is accepted few =
    inr
    (inl
    (record { none = none; status = is; written = Keeps-refl told }, record { accepted = accepted; few = few }))

pub word_fails : (form : Form) (workers : ℕ) (word : List ℕ) (code : ℕ) (said : List ℕ) (refusal : Option OrderFault)
    (many : Option Number) (input told : Told) → code ≡ 3 → said ≡ codes "out of memory" → refusal ≡ None → many ≡ None
    → Does (task.Replay form workers) word code said refusal many input told told
word_fails form workers word code said refusal many input told is says accepted few =
    inr
    (inr
    (record { status = is; text = says; written = Keeps-refl told }, record { accepted = accepted; few = few }))

-- a run in the chosen orders ended, or failed
pub surveys_all : (form : Form) (chosen : Chosen) (sums : Sums) (word : List ℕ) (code : ℕ) (said : List ℕ)
    (refusal : Option OrderFault) (many : Option Number) (input old new : Told)
    → Surveys (format_for form chosen) chosen input old new sums
    → code ≡ survey_status sums → said ≡ [] → many ≡ None → refusal ≡ None
    → Does (task.Survey form chosen) word code said refusal many input old new
surveys_all form chosen sums word code said refusal many input old new surveys is says few accepted =
    (record { ended = Ok sums; ok = surveys; err = tt; status = is; text = says; number = few }, accepted)

pub surveys_fault : (form : Form) (chosen : Chosen) (fault : SurveyFault) (word : List ℕ) (code : ℕ) (said : List ℕ)
    (refusal : Option OrderFault) (many : Option Number) (input old new : Told)
    → surveying.GivesUp (format_for form chosen) fault chosen input old new
    → code ≡ survey_fault_status fault → said ≡ survey_fault_text fault → many ≡ too_many fault → refusal ≡ None
    → Does (task.Survey form chosen) word code said refusal many input old new
surveys_fault form chosen fault word code said refusal many input old new gives_up is says number accepted =
    (record { ended = Err fault; ok = tt; err = gives_up; status = is; text = says; number = number }, accepted)

pub ruleset endings = (
  surveys_all,
  surveys_fault,
  runs,
  runs_plainly,
  runs_as_json,
  explains,
  replays_lines,
  fails_lines,
  replays_json,
  fails_json,
  replays_word,
  says_none,
  word_fails,
)
