use Rattle.std.proofs.Common.{◌≡◌, take, false}
use Rattle.dv_pool.specs.Routes.{has_failed}
use Rattle.dv_pool.proofs.pools.have_failed.Given as goal

abbrev pub invariant-loop-pool : goal.invariant-loop-pool
invariant-loop-pool g l = has_failed (take l.pool-index l.pools) ≡ false
