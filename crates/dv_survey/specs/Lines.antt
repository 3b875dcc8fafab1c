-- What a survey shows of a run: a line for each Deferred, which is known by the same name and place in every run.
use Rattle.std.specs.Option.{option_map_or}
use Rattle.std.specs.Prelude.{ℕ, suc, ◌+◌, if◌then◌else◌, nat_eq, Option, None, List, [], ◌∷◌, ◌++◌, codes, count_by}
use Rattle.std.specs.Prelude.{slice_index_or, bytes_eq}
use Rattle.std.specs.Fmt.{decimal}
use Rattle.json.specs.Print.{quoted}
use Rattle.dv_value.specs.Failure.{is_fault}
use Rattle.dv_value.specs.ValueText.{json, outcome}
use Rattle.dv_value.specs.declared.classes.Class.{Class}
use Rattle.dv_journal.specs.Line.{name_text}
use Rattle.dv_store.specs.declared.outcome.Outcome.{Outcome}
use Rattle.dv_journal.specs.declared.state.State.{State}
use Rattle.dv_journal.specs.declared.state.State.TheVariants.{Unfired, Waiting, Fired}
use Rattle.dv_survey.specs.declared.format.Format.{Format}
use Rattle.dv_survey.specs.declared.format.Format.TheVariants.{Lines, Json}
use Rattle.dv_survey.specs.declared.lines.Line.{Line}

-- a name as JSON; `-` is none
abbrev pub name_json : List ℕ → List ℕ
name_json name = if bytes_eq name (codes "-") then codes "null" else quoted name

-- NAME PLACE, or as JSON an object of both
abbrev pub label : Format → List ℕ → ℕ → List ℕ
label (Lines sample) name place = name ++ codes " " ++ decimal place
label (Json sample) name place =
    codes "{\"name\":" ++ name_json name ++ codes ",\"place\":" ++ decimal place ++ codes "}"

-- the label of each Deferred, where Deferreds of these names were made before: the first of a name has the place 1
abbrev pub labels_after : Format → List (List ℕ) → List Outcome → List (List ℕ)
labels_after format names [] = []
labels_after format names (o ∷ outcomes) =
    let name = name_text o.name in
    label format name (count_by (bytes_eq name) names + 1) ∷ labels_after format (name ∷ names) outcomes

-- the label of each Deferred of a run, in order of making
abbrev pub labels_of : Format → List Outcome → List (List ℕ)
labels_of format outcomes = labels_after format [] outcomes

-- for a Deferred that there isn't
abbrev pub no_label : Format → List ℕ
no_label (Lines sample) = codes "-"
no_label (Json sample) = codes "null"

-- the label of the Deferred of this number
abbrev pub label_at : Format → List (List ℕ) → ℕ → List ℕ
label_at format labels number = slice_index_or labels number (no_label format)

-- unfired, waiting for another, or what it was fired with: `ok` and a value, or `fail` and a failure
abbrev pub state_text : List Class → List (List ℕ) → State → List ℕ
state_text table labels Unfired = codes "unfired"
state_text table labels (Waiting id) = codes "waiting " ++ label_at (Lines None) labels id
state_text table labels (Fired value) = outcome table value

-- a paused one is said to be
abbrev pub pauses_text : ℕ → List ℕ
pauses_text pauses = if nat_eq pauses 0 then [] else codes "paused "

-- the word of a state
abbrev pub state_word : State → List ℕ
state_word Unfired = codes "unfired"
state_word (Waiting id) = codes "waiting"
state_word (Fired value) = if is_fault value then codes "fail" else codes "ok"

-- what it was fired with, as JSON
abbrev pub value_json : List Class → State → List ℕ
value_json table Unfired = codes "null"
value_json table (Waiting id) = codes "null"
value_json table (Fired value) = json table value

-- the one that it waits for, as JSON
abbrev pub waits_json : List (List ℕ) → State → List ℕ
waits_json labels Unfired = codes "null"
waits_json labels (Waiting id) = label_at (Json None) labels id
waits_json labels (Fired value) = codes "null"

-- the member that says whether it is paused, after others
abbrev pub paused_json : ℕ → List ℕ
paused_json pauses = if nat_eq pauses 0 then codes ",\"paused\":false" else codes ",\"paused\":true"

-- the size of a sample, or none
abbrev pub size_json : Option ℕ → List ℕ
size_json sample = option_map_or decimal sample (codes "null")

-- the member with the size of a sample, after others
abbrev pub sample_json : Option ℕ → List ℕ
sample_json sample = codes ",\"sample\":" ++ size_json sample

-- the members up to the sample
abbrev pub label_json : List ℕ → ℕ → List ℕ
label_json label pauses = codes "\"deferred\":" ++ label ++ paused_json pauses

-- the members up to the state
abbrev pub head_json : Option ℕ → List ℕ → Outcome → List ℕ
head_json sample label o =
    label_json label o.pauses ++ sample_json sample ++ codes ",\"state\":\"" ++ state_word o.state ++ codes "\""

-- the members after the state
abbrev pub rest_json : List Class → List (List ℕ) → State → List ℕ
rest_json table labels state =
    codes ",\"type\":\"deferred\",\"value\":" ++ value_json table state ++ codes ",\"waits_for\":"
    ++ waits_json labels state

-- what became of the Deferred of this label: LABEL STATE, or the last members of a JSON object
abbrev pub end_text : Format → List Class → List (List ℕ) → List ℕ → Outcome → List ℕ
end_text (Lines sample) table labels label o =
    label ++ codes " " ++ pauses_text o.pauses ++ state_text table labels o.state
end_text (Json sample) table labels label o = head_json sample label o ++ rest_json table labels o.state

-- the Deferred of this number, with what became of it
abbrev pub line_of : Format → List Class → List (List ℕ) → ℕ → Outcome → Line
line_of format table labels number o = record {
  deferred = label_at format labels number;
  text = end_text format table labels (label_at format labels number) o;
}

-- the lines of Deferreds, the first of whom has this number
abbrev pub lines_from : Format → List Class → List (List ℕ) → ℕ → List Outcome → List Line
lines_from format table labels number [] = []
lines_from format table labels number (o ∷ outcomes) =
    line_of format table labels number o ∷ lines_from format table labels (suc number) outcomes

-- a line for each Deferred of a run, in order of making
abbrev pub lines_of : Format → List Class → List Outcome → List Line
lines_of format table outcomes = lines_from format table (labels_of format outcomes) 0 outcomes
