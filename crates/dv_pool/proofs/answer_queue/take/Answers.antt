use Rattle.dv_pool.proofs.RuleLemmas.{queue_takes}
use Rattle.dv_pool.proofs.answer_queue.take.Goals as goal

pub try_pop_as-requires-clause-rule : goal.try_pop_as-requires-clause-rule
try_pop_as-requires-clause-rule c = queue_takes _ _ c.requires.part
