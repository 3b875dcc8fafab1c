-- In how many runs each line came, each outcome, a stop, and what a script doesn't expect.
use Rattle.std.specs.Prelude.{ℕ, ◌+◌, List, [], ◌∷◌, ◌++◌, slice_get, slice_set}
use Rattle.std.specs.Option.{option_map_or}
use Rattle.dv_posts.specs.Batches.{Batch}
use Rattle.dv_survey.specs.declared.tallies.Tally.{Tally}

-- what came in one run, of these batches
abbrev pub first_tally : List Batch → Tally
first_tally batches = record { count = 1; first = batches }

-- it came in one run more
abbrev pub with_one_more : Tally → Tally
with_one_more tally = record { count = tally.count + 1; first = tally.first }

-- what has this place came in a run of these batches: once more, or for the first time
abbrev pub with_tally : ℕ → List Batch → List Tally → List Tally
with_tally place batches tallies =
    option_map_or (λ tally. slice_set tallies place (with_one_more tally)) (slice_get tallies place)
    (tallies ++ first_tally batches ∷ [])

-- in how many runs something came of which there is one tally, or none
abbrev pub count_of : List Tally → ℕ
count_of tallies = option_map_or (λ tally. tally.count) (slice_get tallies 0) 0
