use Rattle.std.proofs.Common.{◌≡◌, length}
use Rattle.dv_orders.specs.Sequencing.{IsPath, later_sequences}
use Rattle.dv_orders.proofs.sequencing.Sequence.advance.Given as goal

-- the same sequences are listed later
abbrev pub invariant-loop-posted : goal.invariant-loop-posted
invariant-loop-posted l = record {
  counts : l.self.counts.items ≡ l.initial.self.counts.items;
  path : IsPath l.self.counts.items l.self.taken.items l.self.posts.items;
  later : later_sequences l.initial.self.counts.items l.initial.self.taken.items l.initial.self.posts.items
      ≡ later_sequences l.self.counts.items l.self.taken.items l.self.posts.items;
}

abbrev pub decreases-loop-posted : goal.decreases-loop-posted
decreases-loop-posted l = length l.self.posts.items
