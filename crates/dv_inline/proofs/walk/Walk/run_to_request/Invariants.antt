use Rattle.std.proofs.Common.{◌≡◌}
use Rattle.dv_inline.specs.Position.{run_to_request, position_size}
use Rattle.dv_inline.proofs.walk.Walk.run_to_request.Given as goal

-- the moves lead from here where they led from at first
abbrev pub invariant-loop : goal.invariant-loop
invariant-loop l = record { same : run_to_request l.self ≡ run_to_request l.fn.self }

abbrev pub decreases-loop : goal.decreases-loop
decreases-loop l = position_size l.self
