use Rattle.std.proofs.Common.{◌≡◌, ◌+◌, length}
use Rattle.std.specs.Vec.Iter.{into_iter_items}
use Rattle.std.specs.Arc.{arc_value}
use Rattle.crossbeam_deque.specs.Handles.{worker_view}
use Rattle.dv_pool.specs.Parts.{IsOrderly, StaysPlaced, IsSamePool}
use Rattle.dv_pool.specs.Pool.{AreOf}
use Rattle.dv_pool.proofs.pool.crew.Crew.join.Given as goal

abbrev pub invariant-loop-handle : goal.invariant-loop-handle
invariant-loop-handle g l =
    IsOrderly l.parts
    × IsSamePool l.initial.parts l.parts
    × ((worker_view l.parts.jobs).parts + length (into_iter_items l.handle-iterator)
    ≡ (worker_view l.initial.parts.jobs).parts + length l.fn.self.handles.items)
    × AreOf (arc_value l.fn.self.shared) (into_iter_items l.handle-iterator)
    × StaysPlaced l.initial.parts l.parts
