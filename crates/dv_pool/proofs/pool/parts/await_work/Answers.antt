use Rattle.std.proofs.Common.{rules}
use Rattle.dv_pool.specs.Parts.{MayStay}
use Rattle.dv_pool.proofs.Places.{stays, cleared}
use Rattle.dv_pool.proofs.pool.parts.await_work.Goals as goal

pub returns-then-not-may_stay-clause-awaits : goal.returns-then-not-may_stay-clause-awaits
returns-then-not-may_stay-clause-awaits c =
    let other : MayStay c.index.result.now c.args.work.now → ⊥ = search rules in
    cleared c.args.places.now.items c.args.number c.args.work.now c.index.result.now c.requires c.index.ensures other

pub returns-else-not-may_stay-clause-awaits : goal.returns-else-not-may_stay-clause-awaits
returns-else-not-may_stay-clause-awaits c =
    let may : MayStay c.index.result.now c.args.work.now = search rules in
    stays c.args.places.now.items c.args.number c.args.work.now c.index.result.now c.requires c.index.ensures may
