use Rattle.std.proofs.Common.{rules}
use Rattle.dv_pool.proofs.Orders.{opened, opened_placed}
use Rattle.dv_pool.proofs.pool.parts.Parts.open.Goals as goal

pub returns-clause-orderly : goal.returns-clause-orderly
returns-clause-orderly c =
    opened _ (search rules) (search rules) (search rules) (search rules) (search rules) (search rules)

pub returns-clause-placed : goal.returns-clause-placed
returns-clause-placed c = opened_placed _ (search rules) (search rules) (search rules)
