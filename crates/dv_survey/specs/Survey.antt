-- What is gathered over the runs of a script.
use Rattle.std.specs.Prelude.{ℕ, if◌then◌else◌, List, [], ◌∷◌, ◌++◌, fold, length, slice_get}
use Rattle.std.specs.Option.{option_map_or}
use Rattle.dv_journal.specs.Ending.{is_at_limit, is_unmet_end}
use Rattle.dv_journal.specs.declared.ending.Ending.{Ending}
use Rattle.dv_posts.specs.Batches.{Batch}
use Rattle.dv_store.specs.declared.outcome.Outcome.{Outcome}
use Rattle.dv_value.specs.declared.classes.Class.{Class}
use Rattle.dv_survey.specs.Lines.{lines_of}
use Rattle.dv_survey.specs.Outcomes.{outcome_text, places_after}
use Rattle.dv_survey.specs.Tallies.{with_tally}
use Rattle.dv_survey.specs.Texts.{place_of, with_text}
use Rattle.dv_survey.specs.declared.format.Format.{Format}
use Rattle.dv_survey.specs.declared.lines.Line.{Line}
use Rattle.dv_survey.specs.declared.survey.Survey.{Survey}

-- a run that has ended: its batches, what became of its Deferreds, and how it ended
pub record Run : Type 0 where
  pub batches : List Batch
  pub outcomes : List Outcome
  pub ending : Ending

-- the run of these batches that ended so
abbrev pub run_of : List Batch → List Outcome → Ending → Run
run_of batches outcomes ending = record { batches = batches; outcomes = outcomes; ending = ending }

-- nothing is gathered yet
abbrev pub no_runs : Format → Survey
no_runs format = record {
  format = format;
  deferreds = [];
  lines = [];
  owners = [];
  tallies = [];
  outcomes = [];
  ends = [];
  stops = [];
  unmet = [];
}

-- the line of this place is one of this Deferred, unless it was met before
abbrev pub with_owner : ℕ → ℕ → List ℕ → List ℕ
with_owner place deferred owners = option_map_or (λ owner. owners) (slice_get owners place) (owners ++ deferred ∷ [])

-- a line came in a run of these batches
abbrev pub with_line : List Batch → Survey → Line → Survey
with_line batches survey line = record {
  format = survey.format;
  deferreds = with_text line.deferred survey.deferreds;
  lines = with_text line.text survey.lines;
  owners = with_owner (place_of line.text survey.lines) (place_of line.deferred survey.deferreds) survey.owners;
  tallies = with_tally (place_of line.text survey.lines) batches survey.tallies;
  outcomes = survey.outcomes;
  ends = survey.ends;
  stops = survey.stops;
  unmet = survey.unmet;
}

-- these lines came in a run of these batches
abbrev pub with_lines : List Batch → List Line → Survey → Survey
with_lines batches lines survey = fold (with_line batches) survey lines

-- a run of these batches ended with this outcome, and so
abbrev pub with_outcome : List Batch → List ℕ → Ending → Survey → Survey
with_outcome batches outcome ending survey = record {
  format = survey.format;
  deferreds = survey.deferreds;
  lines = survey.lines;
  owners = survey.owners;
  tallies = survey.tallies;
  outcomes = with_text outcome survey.outcomes;
  ends = with_tally (place_of outcome survey.outcomes) batches survey.ends;
  stops = if is_at_limit ending then with_tally 0 batches survey.stops else survey.stops;
  unmet = if is_unmet_end ending then with_tally 0 batches survey.unmet else survey.unmet;
}

-- a run of these batches ended with the lines of these places, and so
abbrev pub with_end : List Batch → List ℕ → Ending → Survey → Survey
with_end batches places ending survey = with_outcome batches (outcome_text places (length survey.lines)) ending survey

-- a run is gathered
abbrev pub with_run : List Class → Survey → Run → Survey
with_run table survey run =
    let lines = lines_of survey.format table run.outcomes in
    with_end run.batches (places_after survey.lines lines) run.ending (with_lines run.batches lines survey)

-- all these runs are gathered, in this order
abbrev pub survey_of : Format → List Class → List Run → Survey
survey_of format table runs = fold (with_run table) (no_runs format) runs
