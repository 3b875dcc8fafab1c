use Rattle.dv_pool.proofs.RuleLemmas.{deque_takes}
use Rattle.dv_pool.proofs.job_deque.steal.Goals as goal

pub steal_as-requires-clause-takes : goal.steal_as-requires-clause-takes
steal_as-requires-clause-takes c = deque_takes _ _ 1 c.requires.part
