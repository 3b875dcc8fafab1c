use Rattle.dv_pool.proofs.RuleLemmas.{forks}
use Rattle.dv_pool.proofs.job_deque.split.Goals as goal

pub another-requires : goal.another-requires
another-requires c = forks _ _ c.requires
