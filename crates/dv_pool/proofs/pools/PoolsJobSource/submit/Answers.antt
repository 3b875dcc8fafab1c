use Rattle.std.proofs.Common.{rules, arith, ◌≡◌, ◌<◌, ◌≤◌, ◌++◌, ◌∷◌, [], length, slice_get, Some, sym, subst, ◌∙◌}
use Rattle.dv_script.specs.declared.work.TheConstants.{MOST_JOBS}
use Rattle.dv_jobs.specs.Jobs.{jobs_from}
use Rattle.dv_pool.specs.Parts.{AreBelow}
use Rattle.dv_pool.specs.Routes.{has_failed}
use Rattle.dv_pool.proofs.Routed.{get_there, as_many, next_above, room_at, kept, submitted, same_failed, one_more_job}
use Rattle.dv_pool.proofs.pools.PoolsJobSource.submit.Goals as goal

pub submit_numbered-requires-clause-above : goal.submit_numbered-requires-clause-above
submit_numbered-requires-clause-above g c =
    let p = c.self.inside in
    let k = c.args.pool in
    let old = c.index_mut.result.now in
    let seen : c.args.self.now.jobs ≡ jobs_from 0 p.works.items = search rules in
    let declared : c.args.pool ≤ c.self.inside.named = search rules in
    let low : c.args.pool < length c.self.inside.pools.items = omega (arith, declared, c.self.invariant.all) in
    let at : slice_get p.pools.items k ≡ Some old = get_there p.pools.items k old low (search rules) in
    let number : c.len-number.result ≡ length c.self.inside.works.items = search rules in
    subst (λ n. AreBelow n old.jobs) (sym number)
    (next_above p.named p.routes.items p.works.items p.pools.items k old c.self.invariant at)

pub submit_numbered-requires-clause-room : goal.submit_numbered-requires-clause-room
submit_numbered-requires-clause-room g c =
    let p = c.self.inside in
    let k = c.args.pool in
    let old = c.index_mut.result.now in
    let seen : c.args.self.now.jobs ≡ jobs_from 0 p.works.items = search rules in
    let declared : c.args.pool ≤ c.self.inside.named = search rules in
    let low : c.args.pool < length c.self.inside.pools.items = omega (arith, declared, c.self.invariant.all) in
    let at : slice_get p.pools.items k ≡ Some old = get_there p.pools.items k old low (search rules) in
    let number : c.len-number.result ≡ length c.self.inside.works.items = search rules in
    let room : length c.self.inside.works.items < MOST_JOBS =
    omega (arith, as_many p.works.items c.args.self.now.jobs seen, c.requires.room) in (
      omega (arith, room_at p.named p.routes.items p.works.items p.pools.items k old c.self.invariant at, room),
      omega (arith, number, room),
    )

pub invariant_of-self-in_err-submit_numbered : goal.invariant_of-self-in_err-submit_numbered
invariant_of-self-in_err-submit_numbered g c =
    let p = c.self.inside in
    let k = c.args.pool in
    let old = c.index_mut.result.now in
    let seen : c.args.self.now.jobs ≡ jobs_from 0 p.works.items = search rules in
    let declared : c.args.pool ≤ c.self.inside.named = search rules in
    let low : c.args.pool < length c.self.inside.pools.items = omega (arith, declared, c.self.invariant.all) in
    let at : slice_get p.pools.items k ≡ Some old = get_there p.pools.items k old low (search rules) in
    kept p.named p.routes.items _ p.works.items _ p.pools.items k old c.submit_numbered.new.self
    c.self.invariant at (search rules) (search rules) c.in_err-submit_numbered.ensures.kept

pub returns-in_err-submit_numbered-clause-same : goal.returns-in_err-submit_numbered-clause-same
returns-in_err-submit_numbered-clause-same g c =
    let p = c.self.inside in
    let k = c.args.pool in
    let old = c.index_mut.result.now in
    let seen : c.args.self.now.jobs ≡ jobs_from 0 p.works.items = search rules in
    let declared : c.args.pool ≤ c.self.inside.named = search rules in
    let low : c.args.pool < length c.self.inside.pools.items = omega (arith, declared, c.self.invariant.all) in
    let at : slice_get p.pools.items k ≡ Some old = get_there p.pools.items k old low (search rules) in
    let before : c.args.self.now.failed ≡ has_failed c.self.inside.pools.items = search rules in (
      search rules,
      same_failed p.pools.items k old c.submit_numbered.new.self at c.submit_numbered.ensures.same.1 ∙ sym before,
    )

pub invariant_of-self-2 : goal.invariant_of-self-2
invariant_of-self-2 g c =
    let p = c.self.inside in
    let k = c.args.pool in
    let old = c.index_mut.result.now in
    let seen : c.args.self.now.jobs ≡ jobs_from 0 p.works.items = search rules in
    let declared : c.args.pool ≤ c.self.inside.named = search rules in
    let low : c.args.pool < length c.self.inside.pools.items = omega (arith, declared, c.self.invariant.all) in
    let at : slice_get p.pools.items k ≡ Some old = get_there p.pools.items k old low (search rules) in
    let number : c.len-number.result ≡ length c.self.inside.works.items = search rules in
    let room : length c.self.inside.works.items < MOST_JOBS =
    omega (arith, as_many p.works.items c.args.self.now.jobs seen, c.requires.room) in
    let works : c.push_reserved.new.self.items ≡ c.self.inside.works.items ++ c.args.work ∷ [] = search rules in
    let routes : c.push_reserved-2.new.self.items ≡ c.self.inside.routes.items ++ c.args.pool ∷ [] = search rules in
    submitted p.named p.routes.items _ p.works.items _ p.pools.items k c.len-number.result c.args.work old
    c.submit_numbered.new.self c.self.invariant room at routes works number c.in_ok-submit_numbered.ensures.ok

pub returns-clause-number : goal.returns-clause-number
returns-clause-number g c =
    let seen : c.args.self.now.jobs ≡ jobs_from 0 c.self.inside.works.items = search rules in
    let number : c.len-number.result ≡ length c.self.inside.works.items = search rules in
    number ∙ sym (as_many c.self.inside.works.items c.args.self.now.jobs seen)

pub returns-clause-ok : goal.returns-clause-ok
returns-clause-ok g c =
    let seen : c.args.self.now.jobs ≡ jobs_from 0 c.self.inside.works.items = search rules in
    let works : c.push_reserved.new.self.items ≡ c.self.inside.works.items ++ c.args.work ∷ [] = search rules in
    one_more_job c.self.inside.works.items c.push_reserved.new.self.items c.args.self.now.jobs c.args.work seen works

pub returns-clause-same : goal.returns-clause-same
returns-clause-same g c =
    let p = c.self.inside in
    let k = c.args.pool in
    let old = c.index_mut.result.now in
    let seen : c.args.self.now.jobs ≡ jobs_from 0 p.works.items = search rules in
    let declared : c.args.pool ≤ c.self.inside.named = search rules in
    let low : c.args.pool < length c.self.inside.pools.items = omega (arith, declared, c.self.invariant.all) in
    let at : slice_get p.pools.items k ≡ Some old = get_there p.pools.items k old low (search rules) in
    let before : c.args.self.now.failed ≡ has_failed c.self.inside.pools.items = search rules in (
      search rules,
      same_failed p.pools.items k old c.submit_numbered.new.self at c.submit_numbered.ensures.same.1 ∙ sym before,
    )
