use Rattle.std.proofs.Common.{rules, refl}
use Rattle.dv_pool.proofs.Orders.{absorbed, absorbed_placed}
use Rattle.dv_pool.proofs.pool.parts.Parts.absorb.Goals as goal

pub returns-clause-orderly : goal.returns-clause-orderly
returns-clause-orderly c =
    absorbed _ _ c.args.end c.requires.orderly
    (search rules) c.requires.served c.absorb.ensures.both c.absorb-2.ensures.both

pub returns-clause-placed : goal.returns-clause-placed
returns-clause-placed c =
    absorbed_placed _ _ c.args.end c.requires.served refl c.absorb.ensures.both c.absorb-2.ensures.both
