use Rattle.std.proofs.Common.{rules, ◌≡◌, ◌<◌, ◌++◌, ◌∷◌, [], length, get_or, slice_get, Some, sym, subst, ◌∙◌}
use Rattle.std.proofs.Common.{length-set}
use Rattle.dv_pool.proofs.Routed.{get_there, number_there, leads_at, none_missing, next_taken}
use Rattle.dv_pool.proofs.pools.in_order.Goals as goal

pub index_mut-requires : goal.index_mut-requires
index_mut-requires c =
    let i = c.loop-route.route-index in
    let rs = c.args.routes.now in
    let r = get_or c.args.routes.now c.loop-route.route-index 0 in
    let dones = c.loop-route.dones.items in
    let route = number_there rs i c.loop-route-test.true in
    let low : r < length dones = subst (λ n. r < n) (sym c.loop-route.invariant.1)
    (leads_at (length c.args.dones.items) i r rs c.requires.known route) in
    search (rules, low)

pub unreachable-requires : goal.unreachable-requires
unreachable-requires c =
    let i = c.loop-route.route-index in
    let rs = c.args.routes.now in
    let r = get_or c.args.routes.now c.loop-route.route-index 0 in
    let dones = c.loop-route.dones.items in
    let route = number_there rs i c.loop-route-test.true in
    let low : r < length dones = subst (λ n. r < n) (sym c.loop-route.invariant.1)
    (leads_at (length c.args.dones.items) i r rs c.requires.known route) in
    let d = c.index_mut.result.now in
    let at : slice_get dones r ≡ Some d = get_there dones r d low (search rules) in
    none_missing i r rs c.args.works.now c.loop-route.ran.dones dones d c.requires.paired
    route at c.loop-route.invariant.0 (sym c.pop_front.ensures.value ∙ c.in-None.is)

pub loop-route-preserved : goal.loop-route-preserved
loop-route-preserved c =
    let i = c.loop-route.route-index in
    let rs = c.args.routes.now in
    let r = get_or c.args.routes.now c.loop-route.route-index 0 in
    let dones = c.loop-route.dones.items in
    let route = number_there rs i c.loop-route-test.true in
    let low : r < length dones = subst (λ n. r < n) (sym c.loop-route.invariant.1)
    (leads_at (length c.args.dones.items) i r rs c.requires.known route) in
    let d = c.index_mut.result.now in
    let at : slice_get dones r ≡ Some d = get_there dones r d low (search rules) in
    let first : slice_get d 0 ≡ Some c.in-Some.done = sym c.pop_front.ensures.value ∙ c.in-Some.is in
    let grown : c.add.new.self.dones ≡ c.loop-route.ran.dones ++ c.in-Some.done ∷ [] = search rules in (
      next_taken i r rs c.args.works.now c.loop-route.ran.dones c.add.new.self.dones dones d c.pop_front.new.self
          c.in-Some.done c.requires.paired route at c.loop-route.invariant.0 first c.pop_front.ensures.rest grown,
      length-set dones r c.pop_front.new.self ∙ c.loop-route.invariant.1,
    )
