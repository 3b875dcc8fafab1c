use Rattle.dv_pool.proofs.RuleLemmas.{queue_puts}
use Rattle.dv_pool.proofs.answer_queue.put.Goals as goal

pub try_push_as-requires-clause-rule : goal.try_push_as-requires-clause-rule
try_push_as-requires-clause-rule g c = queue_puts _ _ _ _ (rw c.loop.invariant.1 c.requires.part)
