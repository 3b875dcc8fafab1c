use Rattle.std.proofs.Common.{◌≡◌, ◌++◌, List}
use Rattle.dv_posts.specs.Batches.{Batch}
use Rattle.dv_orders.specs.Sampled.{sampled}
use Rattle.dv_orders.specs.Visiting.{SeesMore}
use Rattle.dv_orders.proofs.visiting.each_sampled.Given as goal

-- these orders were drawn and seen, and the others are drawn next
abbrev pub invariant-loop-left : goal.invariant-loop-left
invariant-loop-left g l = record {
  same : g.V.Visitor.script_of l.visitor ≡ g.V.Visitor.script_of l.initial.visitor;
  seen : (done : List (List Batch)) × (done ++ sampled l.script l.left l.generator ≡ sampled l.script l.size l.seed)
      × SeesMore g.V.Visitor.has_seen l.initial.visitor l.visitor done;
}

abbrev pub decreases-loop-left : goal.decreases-loop-left
decreases-loop-left g l = l.left
