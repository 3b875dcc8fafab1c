use Rattle.std.proofs.Common.{rules, refl}
use Rattle.dv_pool.proofs.Orders.{collected, collected_placed, same_places}
use Rattle.dv_pool.proofs.pool.parts.Parts.collect_last.Goals as goal

pub place-requires : goal.place-requires
place-requires g c = same_places _ _ c.requires.placed

pub returns-in-Some-clause-orderly : goal.returns-in-Some-clause-orderly
returns-in-Some-clause-orderly g c =
    collected _ _ c.in-Some.answer c.requires.orderly (search rules) refl c.in-Some.ensures.taken

pub returns-in-Some-clause-placed : goal.returns-in-Some-clause-placed
returns-in-Some-clause-placed g c =
    collected_placed _ _ _ c.in-Some.answer c.requires.placed refl c.in-Some.ensures.taken c.place.ensures.takes
