use Rattle.dv_pool.specs.Worker.{IsEndOf, HasServed}
use Rattle.dv_pool.proofs.worker.serve.Given as goal

abbrev pub invariant-loop : goal.invariant-loop
invariant-loop g l = IsEndOf l.shared l.end × HasServed l.end
