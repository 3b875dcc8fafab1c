use Rattle.std.proofs.Common.{rules, ◌≡◌, length, slice_get, Some, IfOk, refl, sym, subst}
use Rattle.dv_jobs.specs.Jobs.{jobs_from}
use Rattle.dv_jobs.specs.Sources.{IsSubmitted, IsValueUnder}
use Rattle.dv_pool.proofs.Routed.{get_there, leads_at, known_work, known_route, known_there, value_there, kept}
use Rattle.dv_pool.proofs.pools.PoolsJobSource.outcome.Goals as goal

pub index-requires : goal.index-requires
index-requires g c =
    let p = c.self.inside in
    let seen : c.args.self.now.jobs ≡ jobs_from 0 p.works.items = search rules in
    let known : IsSubmitted c.args.number (jobs_from 0 p.works.items) =
    subst (IsSubmitted c.args.number) seen c.requires in
    let low = known_route p.named p.routes.items p.works.items p.pools.items c.args.number c.self.invariant known in
    search (rules, low)

pub index_mut-requires : goal.index_mut-requires
index_mut-requires g c =
    let p = c.self.inside in
    let seen : c.args.self.now.jobs ≡ jobs_from 0 p.works.items = search rules in
    let known : IsSubmitted c.args.number (jobs_from 0 p.works.items) =
    subst (IsSubmitted c.args.number) seen c.requires in
    let low = known_route p.named p.routes.items p.works.items p.pools.items c.args.number c.self.invariant known in
    let route : slice_get p.routes.items c.args.number ≡ Some c.index.result.now =
    get_there p.routes.items c.args.number c.index.result.now low (search rules) in
    let there =
    leads_at (length p.pools.items) c.args.number c.index.result.now p.routes.items c.self.invariant.known route in
    search (rules, there)

pub outcome-value-requires : goal.outcome-value-requires
outcome-value-requires g c =
    let p = c.self.inside in
    let seen : c.args.self.now.jobs ≡ jobs_from 0 p.works.items = search rules in
    let known : IsSubmitted c.args.number (jobs_from 0 p.works.items) =
    subst (IsSubmitted c.args.number) seen c.requires in
    let low = known_route p.named p.routes.items p.works.items p.pools.items c.args.number c.self.invariant known in
    let route : slice_get p.routes.items c.args.number ≡ Some c.index.result.now =
    get_there p.routes.items c.args.number c.index.result.now low (search rules) in
    let there =
    leads_at (length p.pools.items) c.args.number c.index.result.now p.routes.items c.self.invariant.known route in
    let at : slice_get p.pools.items c.index.result.now ≡ Some c.index_mut.result.now =
    get_there p.pools.items c.index.result.now c.index_mut.result.now there (search rules) in (
      known.0,
      known_there p.named p.routes.items p.works.items p.pools.items c.args.number c.index.result.now
          c.index_mut.result.now known.0 c.self.invariant (known_work p.works.items c.args.number known) route at,
    )

pub index-requires-2 : goal.index-requires-2
index-requires-2 g c =
    let p = c.self.inside in
    let seen : c.args.self.now.jobs ≡ jobs_from 0 p.works.items = search rules in
    let known : IsSubmitted c.args.number (jobs_from 0 p.works.items) =
    subst (IsSubmitted c.args.number) seen c.requires in
    let low = known_route p.named p.routes.items p.works.items p.pools.items c.args.number c.self.invariant known in
    let route : slice_get p.routes.items c.args.number ≡ Some c.index.result.now =
    get_there p.routes.items c.args.number c.index.result.now low (search rules) in
    let there =
    leads_at (length p.pools.items) c.args.number c.index.result.now p.routes.items c.self.invariant.known route in
    search (rules, there)

pub invariant_of-self : goal.invariant_of-self
invariant_of-self g c =
    let p = c.self.inside in
    let seen : c.args.self.now.jobs ≡ jobs_from 0 p.works.items = search rules in
    let known : IsSubmitted c.args.number (jobs_from 0 p.works.items) =
    subst (IsSubmitted c.args.number) seen c.requires in
    let low = known_route p.named p.routes.items p.works.items p.pools.items c.args.number c.self.invariant known in
    let route : slice_get p.routes.items c.args.number ≡ Some c.index.result.now =
    get_there p.routes.items c.args.number c.index.result.now low (search rules) in
    let there =
    leads_at (length p.pools.items) c.args.number c.index.result.now p.routes.items c.self.invariant.known route in
    let at : slice_get p.pools.items c.index.result.now ≡ Some c.index_mut.result.now =
    get_there p.pools.items c.index.result.now c.index_mut.result.now there (search rules) in
    kept p.named p.routes.items _ p.works.items _ p.pools.items c.index.result.now c.index_mut.result.now
    c.outcome-value.new.self c.self.invariant at refl refl c.outcome-value.ensures.same.0

pub returns-clause-value : goal.returns-clause-value
returns-clause-value g c =
    let p = c.self.inside in
    let seen : c.args.self.now.jobs ≡ jobs_from 0 p.works.items = search rules in
    let known : IsSubmitted c.args.number (jobs_from 0 p.works.items) =
    subst (IsSubmitted c.args.number) seen c.requires in
    let low = known_route p.named p.routes.items p.works.items p.pools.items c.args.number c.self.invariant known in
    let route : slice_get p.routes.items c.args.number ≡ Some c.index.result.now =
    get_there p.routes.items c.args.number c.index.result.now low (search rules) in
    let there =
    leads_at (length p.pools.items) c.args.number c.index.result.now p.routes.items c.self.invariant.known route in
    let at : slice_get p.pools.items c.index.result.now ≡ Some c.index_mut.result.now =
    get_there p.pools.items c.index.result.now c.index_mut.result.now there (search rules) in
    subst (λ js. IfOk c.outcome-value.result (IsValueUnder c.args.number js)) (sym seen)
    (value_there p.named p.routes.items p.works.items p.pools.items c.args.number c.index.result.now
    c.index_mut.result.now c.outcome-value.result c.self.invariant known route at c.outcome-value.ensures.value)
