use Rattle.std.proofs.Common.{◌≡◌, ◌+◌, ◌-◌}
use Rattle.dv_orders.specs.Numbers.{number_of_cuts}
use Rattle.dv_orders.specs.Ranking.{length_before}
use Rattle.dv_orders.proofs.ranking.taken_of.Given as goal

-- the number is past the cuts in which fewer are taken
abbrev pub invariant-loop-taken : goal.invariant-loop-taken
invariant-loop-taken l =
    l.initial.number ≡ length_before (λ taken. number_of_cuts l.events (l.posts - taken)) l.taken + l.number
