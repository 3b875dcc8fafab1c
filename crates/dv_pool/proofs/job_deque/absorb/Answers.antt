use Rattle.dv_pool.proofs.RuleLemmas.{merges}
use Rattle.dv_pool.proofs.job_deque.absorb.Goals as goal

pub absorb-requires-clause-rule : goal.absorb-requires-clause-rule
absorb-requires-clause-rule c = merges _ _ _ _ c.requires.part
