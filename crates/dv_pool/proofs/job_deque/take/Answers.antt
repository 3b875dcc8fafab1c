use Rattle.dv_pool.proofs.RuleLemmas.{deque_takes, finds}
use Rattle.dv_pool.proofs.job_deque.take.Goals as goal

pub pop_as-requires-clause-fifo : goal.pop_as-requires-clause-fifo
pop_as-requires-clause-fifo c = λ _. deque_takes _ _ 1 c.requires.part

pub pop_as-requires-clause-empty : goal.pop_as-requires-clause-empty
pop_as-requires-clause-empty c = finds _ _
