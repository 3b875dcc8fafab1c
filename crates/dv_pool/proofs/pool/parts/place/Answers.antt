use Rattle.std.proofs.Common.{rules, ◌<◌, ◌≤◌, length, sym}
use Rattle.dv_pool.specs.Parts.{MayBeOf}
use Rattle.dv_pool.proofs.Places.{far, stored, full, another}
use Rattle.dv_pool.proofs.pool.parts.place.Goals as goal

pub returns-then-number-len-clause-takes : goal.returns-then-number-len-clause-takes
returns-then-number-len-clause-takes c =
    let past : length c.args.places.now.items ≤ c.job_in-job.result.now.number = search rules in
    far _ _ c.args.answer _ c.job_in-job.ensures past

pub returns-then-is_some-clause-takes : goal.returns-then-is_some-clause-takes
returns-then-is_some-clause-takes c =
    let low : c.job_in-job.result.now.number < length c.args.places.now.items = search rules in
    full _ _ c.args.answer _ c.index.result.now c.requires c.job_in-job.ensures low c.index.ensures
    (sym c.if-is_some.ensures)

pub returns-then-may_be_of-clause-takes : goal.returns-then-may_be_of-clause-takes
returns-then-may_be_of-clause-takes c =
    let low : c.job_in-job.result.now.number < length c.args.places.now.items = search rules in
    let may : MayBeOf c.index-works-number.result c.args.answer = search rules in
    stored _ _ c.args.answer _ c.index.result.now c.index-works-number.result c.requires c.job_in-job.ensures low
    c.index.ensures (sym c.if-is_some.ensures) c.index-works-number.is may

pub returns-else-may_be_of-clause-takes : goal.returns-else-may_be_of-clause-takes
returns-else-may_be_of-clause-takes c =
    let low : c.job_in-job.result.now.number < length c.args.places.now.items = search rules in
    let other : MayBeOf c.index-works-number.result c.args.answer → ⊥ = search rules in
    another _ _ c.args.answer _ c.index.result.now c.index-works-number.result c.requires c.job_in-job.ensures low
    c.index.ensures (sym c.if-is_some.ensures) c.index-works-number.is other
