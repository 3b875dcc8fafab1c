use Rattle.std.proofs.Common.{◌≡◌, ◌+◌}
use Rattle.dv_orders.specs.Ranking.{length_before, number_by}
use Rattle.dv_orders.proofs.ranking.caller_of.Given as goal

-- the number is past the sequences of the callers before
abbrev pub invariant-loop-caller : goal.invariant-loop-caller
invariant-loop-caller l =
    l.initial.number ≡ length_before (number_by l.sequence.counts.items l.sequence.taken.items) l.caller + l.number
