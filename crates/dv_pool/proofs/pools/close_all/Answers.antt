use Rattle.std.proofs.Common.{rules, ◌≡◌, length}
use Rattle.std.specs.Vec.Iter.{into_iter_items}
use Rattle.dv_pool.proofs.Routed.{all_closed}
use Rattle.dv_pool.proofs.pools.close_all.Goals as goal

pub returns : goal.returns
returns g c =
    let none : length (into_iter_items c.loop-pool.pool-iterator) ≡ 0 = search rules in
    all_closed (into_iter_items c.loop-pool.pool-iterator) _ _ none c.loop-pool.invariant.0
