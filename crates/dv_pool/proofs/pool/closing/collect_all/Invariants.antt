use Rattle.std.proofs.Common.{◌≡◌}
use Rattle.crossbeam_deque.specs.Handles.{worker_view}
use Rattle.dv_pool.specs.Parts.{IsOrderly, HasPlaced, Keeps}
use Rattle.dv_pool.proofs.pool.closing.collect_all.Given as goal

abbrev pub invariant-loop : goal.invariant-loop
invariant-loop g l =
    IsOrderly l.parts × HasPlaced l.works l.parts × Keeps l.initial.parts l.parts
    × (worker_view l.parts.jobs ≡ worker_view l.initial.parts.jobs)
