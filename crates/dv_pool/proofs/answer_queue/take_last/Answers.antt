use Rattle.dv_pool.proofs.RuleLemmas.{queue_takes, learns}
use Rattle.dv_pool.proofs.answer_queue.take_last.Goals as goal

pub pop_as-requires-clause-rule : goal.pop_as-requires-clause-rule
pop_as-requires-clause-rule g c = (queue_takes _ _ c.requires.part, learns _ _)
