use Rattle.std.proofs.Common.{rules, refl}
use Rattle.dv_pool.proofs.Orders.{helped, helped_placed, same_places}
use Rattle.dv_pool.proofs.pool.parts.Parts.help.Goals as goal

pub place-requires : goal.place-requires
place-requires g c = same_places _ _ c.requires.placed

pub returns-in-Some-clause-orderly : goal.returns-in-Some-clause-orderly
returns-in-Some-clause-orderly g c =
    helped _ _ c.in-Some.job c.requires.orderly (search rules) refl c.in-Some.ensures.taken

pub returns-in-Some-clause-placed : goal.returns-in-Some-clause-placed
returns-in-Some-clause-placed g c =
    helped_placed _ _ _ c.answer.result c.in-Some.job c.requires.placed refl c.answer.ensures c.in-Some.ensures.taken
    c.place.ensures.takes
