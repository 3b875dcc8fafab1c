use Rattle.std.proofs.Common.{◌≡◌, ◌<◌, ◌≤◌, ◌+◌, ◌*◌, length, replicate}
use Rattle.std.specs.Prelude.{vec_len, vec_capacity}
use Rattle.dv_pool.proofs.Routed.{fresh}
use Rattle.dv_pool.proofs.pools.Pools.open.Given as goal

abbrev pub invariant-loop-count : goal.invariant-loop-count
invariant-loop-count g l =
    (l.pools.items ≡ replicate (l.count-index + 1) fresh)
    × (vec_len l.pools ≡ l.count-index + 1)
    × (length l.named + 1 ≤ vec_capacity l.pools)
    × (0 < l.first)
    × (l.first ≤ 17 + 16 * l.count-index)
