use Rattle.std.proofs.Common.{rules}
use Rattle.dv_pool.proofs.Kept.{number_low, value_at}
use Rattle.dv_pool.proofs.pool.parts.Parts.value.Goals as goal

pub index-requires : goal.index-requires
index-requires c =
    let low = number_low c.args.works.now c.args.self.now c.args.number c.requires.placed c.requires.known in
    search (rules, low)

pub returns-in-Some : goal.returns-in-Some
returns-in-Some c =
    value_at _ _ c.args.number c.index.result.now c.in-Some.answer c.value_in.result c.requires.placed c.requires.known
    c.index.ensures c.in-Some.is c.value_in.ensures
