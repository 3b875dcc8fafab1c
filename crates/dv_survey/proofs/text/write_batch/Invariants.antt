use Rattle.std.proofs.Common.{◌≡◌, ◌++◌, map, drop, string_bytes}
use Rattle.dv_value.specs.ValueText.{rest_text}
use Rattle.dv_survey.specs.Text.{batch_text, posted_text}
use Rattle.dv_survey.proofs.text.write_batch.Given as goal

-- the posts that are left follow what is written
abbrev pub invariant-loop-posted : goal.invariant-loop-posted
invariant-loop-posted l =
    string_bytes l.out ++ rest_text l.later (map posted_text (drop l.posted-index l.batch))
    ≡ string_bytes l.fn.out ++ batch_text l.batch
