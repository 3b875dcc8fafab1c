use Rattle.std.proofs.Common.{◌≡◌}
use Rattle.crossbeam_queue.specs.Passes.{view, IsPassOf}
use Rattle.dv_pool.proofs.answer_queue.put.Given as goal

abbrev pub invariant-loop : goal.invariant-loop
invariant-loop g l = IsPassOf l.answers l.token × (view l.token ≡ view l.initial.token) × (l.answer ≡ l.initial.answer)
