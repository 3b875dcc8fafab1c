use Rattle.std.proofs.Common.{rules, ◌<◌, ◌++◌, ◌∷◌, [], length, set, Some, refl, ap, ◌∙◌, arith, length-append}
use Rattle.dv_jobs.specs.Jobs.{numbered}
use Rattle.dv_pool.specs.Parts.{jobs_in}
use Rattle.dv_pool.proofs.Orders.{same_places, unchanged, awaited}
use Rattle.dv_pool.proofs.Kept.{set_job, one_more_put}
use Rattle.dv_pool.proofs.pool.put.Goals as goal

pub await_work-requires : goal.await_work-requires
await_work-requires c =
    let len = same_places _ _ c.requires.placed in
    let places = c.requires.places in
    let room = c.requires.room in
    omega arith

pub put-requires-clause-orderly : goal.put-requires-clause-orderly
put-requires-clause-orderly c = unchanged _ _ c.requires.orderly (search rules) refl refl

pub returns-clause-placed : goal.returns-clause-placed
returns-clause-placed c =
    let low : c.args.number < length c.args.works.now.items = search rules in
    let job = set_job c.args.number c.args.works.now.items c.args.copy low c.requires.above in
    c.put.ensures.placed _
    (awaited _ _ _ c.args.number c.args.copy c.requires.placed refl refl refl job.0 c.await_work.ensures.awaits)

pub returns-clause-submitted : goal.returns-clause-submitted
returns-clause-submitted c =
    let low : c.args.number < length c.args.works.now.items = search rules in
    let job = set_job c.args.number c.args.works.now.items c.args.copy low c.requires.above in
    let index = c.put.ensures.index in
    let before = c.requires.submitted.1 in (
      one_more_put c.args.works.now.items
          (set c.args.works.now.items c.args.number (Some c.args.copy)) _ _ _ c.args.number c.args.work c.args.copy
          job.1 c.requires.copy c.requires.submitted.0 c.put.ensures.put c.new.ensures,
      omega (
        arith,
        ap length job.1,
        length-append (jobs_in 0 c.args.works.now.items) (numbered c.args.number c.args.copy ∷ []),
      ),
    )

pub returns-clause-count : goal.returns-clause-count
returns-clause-count c =
    let low : c.args.number < length c.args.works.now.items = search rules in
    let job = set_job c.args.number c.args.works.now.items c.args.copy low c.requires.above in
    let count = c.requires.count in
    omega
    (arith, ap length job.1, length-append (jobs_in 0 c.args.works.now.items) (numbered c.args.number c.args.copy ∷ []))

pub returns-clause-jobs : goal.returns-clause-jobs
returns-clause-jobs c =
    let low : c.args.number < length c.args.works.now.items = search rules in
    let job = set_job c.args.number c.args.works.now.items c.args.copy low c.requires.above in
    job.1 ∙ ap (λ x. jobs_in 0 c.args.works.now.items ++ numbered c.args.number x ∷ []) c.requires.copy
