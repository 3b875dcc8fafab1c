use Rattle.std.proofs.Common.{◌≡◌, flat_map, nat_eq, string_bytes}
use Rattle.std.specs.List.{list_any}
use Rattle.dv_posts.specs.Batches.{below}
use Rattle.dv_survey.specs.Outcomes.{Marks, place_if}
use Rattle.dv_survey.proofs.outcomes.outcome_text.Given as goal

-- the places below this one are written
abbrev pub invariant-loop-place : goal.invariant-loop-place
invariant-loop-place l = record {
  written : string_bytes l.out ≡ flat_map (λ place. place_if (list_any (nat_eq place) l.places) place) (below l.place);
  marked : Marks l.marks.items l.places l.len;
}
