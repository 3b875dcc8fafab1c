use Rattle.std.proofs.Common.{◌≡◌, ◌≤◌, length, map, min, take, All}
use Rattle.std.specs.Prelude.{vec_len, vec_capacity}
use Rattle.dv_script.specs.declared.limits.TheConstants.{MOST_WORKERS}
use Rattle.dv_pool.proofs.pool_sizes.workers_of_pools.Given as goal

-- a number stands for each pool that was passed, and there is room for the others
abbrev pub invariant-loop-pool : goal.invariant-loop-pool
invariant-loop-pool l =
    (l.named.items ≡ map (λ pool. min pool.workers MOST_WORKERS) (take l.pool-index l.pools))
    × (length l.named.items ≡ l.pool-index)
    × (vec_len l.named ≡ l.pool-index)
    × (length l.pools ≤ vec_capacity l.named)
    × All (λ n. n ≤ MOST_WORKERS) l.named.items
