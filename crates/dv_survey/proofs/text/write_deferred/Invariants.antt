use Rattle.std.proofs.Common.{◌≡◌, ◌++◌, flat_map, string_bytes}
use Rattle.dv_posts.specs.Batches.{below}
use Rattle.dv_survey.specs.Text.{line_text}
use Rattle.dv_survey.proofs.text.write_deferred.Given as goal

-- the lines of the places below this one are written
abbrev pub invariant-loop-place : goal.invariant-loop-place
invariant-loop-place l =
    string_bytes l.out ≡ string_bytes l.initial.out ++ flat_map (line_text l.survey l.deferred) (below l.place)
