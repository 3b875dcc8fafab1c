use Rattle.std.proofs.Common.{◌≡◌, ◌++◌, flat_map, string_bytes}
use Rattle.dv_posts.specs.Batches.{below}
use Rattle.dv_survey.specs.Text.{outcome_name, text_at}
use Rattle.dv_survey.proofs.text.write_outcomes.Given as goal

-- the outcomes of the places below this one are written
abbrev pub invariant-loop-place : goal.invariant-loop-place
invariant-loop-place l =
    string_bytes l.out ≡ string_bytes l.initial.out ++ flat_map
    (λ place. text_at l.survey.format l.survey.ends place (outcome_name l.survey.format place)) (below l.place)
