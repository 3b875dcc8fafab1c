use Rattle.std.proofs.Common.{◌≡◌, ◌∷◌, ◌++◌, List, length}
use Rattle.dv_posts.specs.Batches.{Batch}
use Rattle.dv_orders.specs.Orders.{orders}
use Rattle.dv_orders.specs.Ordering.{IsWhole, batches_of, later_orders}
use Rattle.dv_orders.specs.Visiting.{SeesMore}
use Rattle.dv_orders.proofs.visiting.each_order.Given as goal

-- the orders before this one were seen
abbrev pub invariant-loop-order : goal.invariant-loop-order
invariant-loop-order g l = record {
  whole : IsWhole l.order;
  same : g.V.Visitor.script_of l.visitor ≡ g.V.Visitor.script_of l.initial.visitor;
  seen : (done : List (List Batch)) × (orders l.script ≡ done ++ batches_of l.order ∷ later_orders l.order)
      × SeesMore g.V.Visitor.has_seen l.initial.visitor l.visitor done;
}

abbrev pub decreases-loop-order : goal.decreases-loop-order
decreases-loop-order g l = length (later_orders l.order)
