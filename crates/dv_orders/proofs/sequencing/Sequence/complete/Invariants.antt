use Rattle.std.proofs.Common.{◌≡◌}
use Rattle.dv_orders.specs.Sequencing.{IsPath, left_over, listed_sequences}
use Rattle.dv_orders.proofs.sequencing.Sequence.complete.Given as goal

-- the same sequences are listed from here on
abbrev pub invariant-loop : goal.invariant-loop
invariant-loop l = record {
  counts : l.self.counts.items ≡ l.initial.self.counts.items;
  path : IsPath l.self.counts.items l.self.taken.items l.self.posts.items;
  listed : listed_sequences l.initial.self.counts.items l.initial.self.taken.items l.initial.self.posts.items
      ≡ listed_sequences l.self.counts.items l.self.taken.items l.self.posts.items;
}

abbrev pub decreases-loop : goal.decreases-loop
decreases-loop l = left_over l.self.counts.items l.self.taken.items
