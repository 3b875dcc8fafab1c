use Rattle.std.proofs.Common.{◌≡◌, ◌≤◌, ◌+◌, get_or, length, arith}
use Rattle.dv_pool.proofs.Routed.{one_opened, opened_empty, opened_seen}
use Rattle.dv_pool.proofs.pools.Pools.open.Goals as goal

pub loop-count-init : goal.loop-count-init
loop-count-init g c =
    let few : c.args.workers ≤ 16 = c.requires.few in (
      one_opened 0 _ c.in_ok-pools.pools.items c.in_ok-open.field-0 c.push_reserved.ensures.items
          c.in_ok-pools.ensures.items c.in_ok-open.ensures,
      omega (arith, c.push_reserved.ensures.len, c.in_ok-pools.ensures.len),
      omega (arith, c.push_reserved.ensures.capacity, c.in_ok-pools.ensures.capacity),
      omega arith,
      omega (arith, few),
    )

pub loop-count-preserved : goal.loop-count-preserved
loop-count-preserved g c =
    let low : get_or c.args.named.now c.loop-count.count-index 0 ≤ 16 =
    c.requires.named.1 c.loop-count.count-index 0 c.loop-count-test.true in
    let inv = c.loop-count.invariant in (
      one_opened (c.loop-count.count-index + 1) _ c.loop-count.pools.items c.in_ok-open-2.field-0
          c.push_reserved-in-loop-count.ensures.items inv.0 c.in_ok-open-2.ensures,
      omega (arith, c.push_reserved-in-loop-count.ensures.len, inv.1),
      omega (arith, c.push_reserved-in-loop-count.ensures.capacity, inv.2),
      omega (arith, inv.3),
      omega (arith, inv.4, low),
    )

pub invariant_of-result : goal.invariant_of-result
invariant_of-result g c =
    let count : c.loop-count.count-index ≡ length c.args.named.now =
    omega (arith, c.loop-count-test.false, c.loop-count.auto.count-index-end) in
    opened_empty (length c.args.named.now) c.loop-count.count-index c.new-2.result.items c.new.result.items
    c.loop-count.pools.items c.new-2.ensures.items c.new.ensures.items
    c.loop-count.invariant.0 count

pub returns : goal.returns
returns g c =
    opened_seen (length c.args.named.now) (c.loop-count.count-index + 1) c.new.result.items c.loop-count.pools.items
    c.new.ensures.items c.loop-count.invariant.0
