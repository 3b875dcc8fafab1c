use Rattle.std.proofs.Common.{◌≡◌, length}
use Rattle.dv_pool.proofs.Routed.{InOrder}
use Rattle.dv_pool.proofs.pools.in_order.Given as goal

abbrev pub invariant-loop-route : goal.invariant-loop-route
invariant-loop-route l =
    InOrder l.route-index l.routes l.works l.ran.dones l.dones.items × (length l.dones.items ≡ length l.fn.dones.items)
