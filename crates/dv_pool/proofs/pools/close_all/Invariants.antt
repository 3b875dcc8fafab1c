use Rattle.std.proofs.Common.{◌≡◌, ◌≤◌, ◌+◌, ◌++◌, length, map}
use Rattle.std.specs.Prelude.{vec_len, vec_capacity}
use Rattle.std.specs.Vec.Iter.{into_iter_items}
use Rattle.dv_jobs.specs.Sources.{Source, jobs_of}
use Rattle.dv_pool.proofs.pools.close_all.Given as goal

abbrev pub invariant-loop-pool : goal.invariant-loop-pool
invariant-loop-pool g l =
    (map jobs_of l.dones.items ++ map (λ (s : Source). s.jobs) (into_iter_items l.pool-iterator)
    ≡ map (λ (s : Source). s.jobs) l.fn.pools.items)
    × (vec_len l.dones + length (into_iter_items l.pool-iterator) ≤ vec_capacity l.dones)
