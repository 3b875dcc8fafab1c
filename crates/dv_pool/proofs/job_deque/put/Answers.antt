use Rattle.dv_pool.proofs.RuleLemmas.{deque_puts}
use Rattle.dv_pool.proofs.job_deque.put.Goals as goal

pub push_as-requires-clause-pushes : goal.push_as-requires-clause-pushes
push_as-requires-clause-pushes c = deque_puts _ _ _ c.requires.part
