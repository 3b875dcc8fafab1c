use Rattle.std.proofs.Common.{rules, ◌≡◌, map, sym, subst}
use Rattle.dv_jobs.specs.Sources.{Source, jobs_of}
use Rattle.dv_pool.specs.Routes.{AreDone}
use Rattle.dv_pool.proofs.Routed.{all_done}
use Rattle.dv_pool.proofs.pools.PoolsJobSource.close.Goals as goal

pub in_order-requires-clause-done : goal.in_order-requires-clause-done
in_order-requires-clause-done g c =
    let p = c.self.inside in
    let dones = c.in_ok-dones.dones.items in
    let same : map jobs_of c.in_ok-dones.dones.items ≡ map (λ (s : Source). s.jobs) c.self.inside.pools.items =
    search rules in
    subst (λ l. AreDone 0 0 l c.as_slice-3.result.now dones) (sym c.as_slice-2.ensures.value)
    (subst (λ l. AreDone 0 0 p.routes.items l dones) (sym c.as_slice-3.ensures.value)
    (all_done 0 p.routes.items p.works.items p.pools.items dones c.self.invariant.jobs same))
