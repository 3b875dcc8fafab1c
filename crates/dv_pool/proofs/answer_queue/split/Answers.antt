use Rattle.dv_pool.proofs.RuleLemmas.{forks}
use Rattle.dv_pool.proofs.answer_queue.split.Goals as goal

pub another-requires-clause-rule : goal.another-requires-clause-rule
another-requires-clause-rule c = forks _ _ c.requires.part
