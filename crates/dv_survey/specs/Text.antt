-- The text that tells a survey.
use Rattle.std.specs.Prelude.{ℕ, ◌+◌, nat_eq, Bool, false, if◌then◌else◌, Option, None, Some, List, [], ◌∷◌, ◌++◌}
use Rattle.std.specs.Prelude.{codes, flat_map, length, map, slice_get, unwrap_or}
use Rattle.std.specs.Option.{option_map_or}
use Rattle.std.specs.Fmt.{decimal}
use Rattle.dv_posts.specs.Batches.{Batch, below}
use Rattle.dv_posts.specs.declared.posted.Posted.{Posted}
use Rattle.dv_value.specs.ValueText.{list_text}
use Rattle.dv_survey.specs.Lines.{sample_json, size_json}
use Rattle.dv_survey.specs.declared.format.Format.{Format}
use Rattle.dv_survey.specs.declared.format.Format.TheVariants.{Lines, Json}
use Rattle.dv_survey.specs.Tallies.{count_of}
use Rattle.dv_survey.specs.declared.survey.Survey.{Survey}
use Rattle.dv_survey.specs.declared.tallies.Tally.{Tally}

-- [CALLER,POST]
abbrev pub posted_text : Posted → List ℕ
posted_text posted = codes "[" ++ decimal posted.caller ++ codes "," ++ decimal posted.index ++ codes "]"

-- [POST,POST,..]
abbrev pub batch_text : Batch → List ℕ
batch_text batch = list_text (map posted_text batch)

-- [BATCH,BATCH,..]
abbrev pub batches_text : List Batch → List ℕ
batches_text batches = list_text (map batch_text batches)

-- 1 NOUN, or N NOUNs
abbrev pub counted : ℕ → List ℕ → List ℕ
counted count noun = decimal count ++ codes " " ++ noun ++ (if nat_eq count 1 then [] else codes "s")

-- what is counted: every order, or those of a sample
abbrev pub noun : Option ℕ → List ℕ
noun None = codes "order"
noun (Some size) = codes "sampled order"

-- the size of a sample, after the number of orders
abbrev pub sample_text : Option ℕ → List ℕ
sample_text None = []
sample_text (Some size) = codes ", a sample of " ++ decimal size

-- the member with a number of orders, which is the first of its object
abbrev pub orders_json : ℕ → List ℕ
orders_json orders = codes "{\"orders\":" ++ decimal orders

-- the line of the number of orders, which comes before all others
abbrev pub number_text : Format → ℕ → List ℕ
number_text (Lines sample) orders = counted orders (codes "order") ++ sample_text sample ++ codes "\n"
number_text (Json sample) orders = orders_json orders ++ sample_json sample ++ codes ",\"type\":\"orders\"}\n"

-- what stands before that which is counted: as JSON the batches of the first order, and the count
abbrev pub tally_head : Format → Tally → List ℕ
tally_head (Lines sample) tally = []
tally_head (Json sample) tally =
    codes "{\"batches\":" ++ batches_text tally.first ++ codes ",\"count\":" ++ decimal tally.count ++ codes ","

-- and what stands after it: in lines the count, and the batches of the first order
abbrev pub tally_tail : Format → Tally → List ℕ
tally_tail (Lines sample) tally =
    codes " in " ++ counted tally.count (noun sample) ++ codes ", first " ++ batches_text tally.first ++ codes "\n"
tally_tail (Json sample) tally = codes "}\n"

-- a line of what is counted
abbrev pub tally_text : Format → Tally → List ℕ → List ℕ
tally_text format tally what = tally_head format tally ++ what ++ tally_tail format tally

-- the same, where the place has a tally
abbrev pub text_at : Format → List Tally → ℕ → List ℕ → List ℕ
text_at format tallies place what = option_map_or (λ tally. tally_text format tally what) (slice_get tallies place) []

-- whether that is the Deferred
abbrev pub is_of : ℕ → Option ℕ → Bool
is_of deferred owner = option_map_or (nat_eq deferred) owner false

-- the line of this place, where it is one of the Deferred
abbrev pub line_text : Survey → ℕ → ℕ → List ℕ
line_text survey deferred place =
    if is_of deferred (slice_get survey.owners place)
    then text_at survey.format survey.tallies place (unwrap_or (slice_get survey.lines place) []) else []

-- the lines of a Deferred, in the order in which they were first met
abbrev pub deferred_text : Survey → ℕ → List ℕ
deferred_text survey deferred = flat_map (line_text survey deferred) (below (length survey.owners))

-- the lines of each Deferred, in the order in which the Deferreds were first met
abbrev pub deferreds_text : Survey → List ℕ
deferreds_text survey = flat_map (deferred_text survey) (below (length survey.deferreds))

-- outcome NUMBER, from 1 in the order in which the outcomes were first met
abbrev pub outcome_name : Format → ℕ → List ℕ
outcome_name (Lines sample) place = codes "outcome " ++ decimal (place + 1)
outcome_name (Json sample) place =
    codes "\"outcome\":" ++ decimal (place + 1) ++ sample_json sample ++ codes ",\"type\":\"outcome\""

-- a line for each outcome
abbrev pub outcomes_text : Survey → List ℕ
outcomes_text survey =
    flat_map (λ place. text_at survey.format survey.ends place (outcome_name survey.format place))
    (below (length survey.ends))

-- the journal reached its limit
abbrev pub stop_name : Format → List ℕ
stop_name (Lines sample) = codes "stopped at the limit of the journal"
stop_name (Json sample) = codes "\"sample\":" ++ size_json sample ++ codes ",\"type\":\"stopped\""

-- a line of the orders that stopped, where any did
abbrev pub stops_text : Survey → List ℕ
stops_text survey = text_at survey.format survey.stops 0 (stop_name survey.format)

-- a Deferred wasn't as the script expects
abbrev pub unmet_name : Format → List ℕ
unmet_name (Lines sample) = codes "unmet"
unmet_name (Json sample) = codes "\"sample\":" ++ size_json sample ++ codes ",\"type\":\"unmet\""

-- a line of the orders in which one wasn't, where there are any
abbrev pub unmet_text : Survey → List ℕ
unmet_text survey = text_at survey.format survey.unmet 0 (unmet_name survey.format)

-- as JSON, how many outcomes there are
abbrev pub outcomes_json : ℕ → List ℕ
outcomes_json outcomes = codes ",\"outcomes\":" ++ decimal outcomes

-- as JSON, how many orders stopped, in how many a Deferred wasn't as the script expects, and the end of the line
abbrev pub end_json : ℕ → ℕ → List ℕ
end_json stopped unmet =
    codes ",\"stopped\":" ++ decimal stopped ++ codes ",\"type\":\"end\",\"unmet\":" ++ decimal unmet ++ codes "}\n"

-- how many orders ran, and how many different outcomes there are
abbrev pub sums_text : Format → ℕ → ℕ → ℕ → ℕ → List ℕ
sums_text (Lines sample) stopped unmet orders outcomes =
    counted orders (noun sample) ++ codes ", " ++ counted outcomes (codes "outcome") ++ codes "\n"
sums_text (Json sample) stopped unmet orders outcomes =
    orders_json orders ++ outcomes_json outcomes ++ sample_json sample ++ end_json stopped unmet

-- what became of each Deferred, each outcome, where orders stopped, where one wasn't as expected, and the sums
abbrev pub survey_text : Survey → ℕ → List ℕ
survey_text survey orders =
    deferreds_text survey ++ outcomes_text survey ++ stops_text survey ++ unmet_text survey
    ++ sums_text survey.format (count_of survey.stops) (count_of survey.unmet) orders (length survey.outcomes)
