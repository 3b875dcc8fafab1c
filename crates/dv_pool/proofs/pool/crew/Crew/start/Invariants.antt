use Rattle.std.proofs.Common.{◌≡◌, ◌+◌, ◌≤◌}
use Rattle.std.specs.Prelude.{vec_len, vec_capacity}
use Rattle.std.specs.Arc.{arc_value}
use Rattle.crossbeam_deque.specs.Handles.{worker_view}
use Rattle.dv_pool.specs.Rules.{all_parts}
use Rattle.dv_pool.specs.Parts.{IsOrderly, StaysPlaced, IsSamePool}
use Rattle.dv_pool.specs.Pool.{AreOf}
use Rattle.dv_pool.proofs.pool.crew.Crew.start.Given as goal

abbrev pub invariant-loop-number : goal.invariant-loop-number
invariant-loop-number g l =
    IsOrderly l.parts
    × IsSamePool l.initial.parts l.parts
    × AreOf (arc_value l.parts.shared) l.handles.items
    × ((worker_view l.parts.jobs).parts + vec_len l.handles ≡ all_parts)
    × (vec_len l.handles ≤ l.number)
    × (l.workers ≤ vec_capacity l.handles)
    × StaysPlaced l.initial.parts l.parts
