use Rattle.std.proofs.Common.{◌≡◌, ◌++◌, map, drop, string_bytes}
use Rattle.dv_value.specs.ValueText.{rest_text}
use Rattle.dv_survey.specs.Text.{batch_text, batches_text}
use Rattle.dv_survey.proofs.text.write_batches.Given as goal

-- the batches that are left follow what is written
abbrev pub invariant-loop-batch : goal.invariant-loop-batch
invariant-loop-batch l =
    string_bytes l.out ++ rest_text l.later (map batch_text (drop l.batch-index l.batches))
    ≡ string_bytes l.fn.out ++ batches_text l.batches
