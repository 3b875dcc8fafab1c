use Rattle.std.proofs.Common.{◌≤◌}
use Rattle.dv_threads.proofs.submissions.pool_number.Given as goal

-- the number is no more than the pools that were passed
abbrev pub invariant-loop-pool : goal.invariant-loop-pool
invariant-loop-pool l = l.number ≤ l.pool-index
