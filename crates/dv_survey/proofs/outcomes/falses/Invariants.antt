use Rattle.std.proofs.Common.{◌≡◌, ◌≤◌, false, replicate, length}
use Rattle.std.specs.Prelude.{vec_capacity}
use Rattle.dv_survey.proofs.outcomes.falses.Given as goal

abbrev pub invariant-loop : goal.invariant-loop
invariant-loop l =
    (l.falses.items ≡ replicate l.counter false) × (length l.falses.items ≡ l.counter) × (l.len ≤ vec_capacity l.falses)
