use Rattle.std.proofs.Common.{◌≡◌, ◌++◌, flat_map, string_bytes}
use Rattle.dv_posts.specs.Batches.{below}
use Rattle.dv_survey.specs.Text.{deferred_text}
use Rattle.dv_survey.proofs.text.write_deferreds.Given as goal

-- the lines of the Deferreds below this one are written
abbrev pub invariant-loop-deferred : goal.invariant-loop-deferred
invariant-loop-deferred l =
    string_bytes l.out
    ≡ string_bytes l.initial.out ++ flat_map (λ deferred. deferred_text l.survey deferred) (below l.deferred)
