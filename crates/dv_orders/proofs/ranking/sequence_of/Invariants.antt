use Rattle.std.proofs.Common.{◌≡◌, ◌+◌, ◌^◌, ◌<◌, ◌++◌, option_map, slice_get}
use Rattle.dv_orders.specs.Orders.{counts_of, posts_from, sequences, total}
use Rattle.dv_orders.specs.Sequencing.{IsPath, left_over, sequences_on}
use Rattle.dv_orders.proofs.ranking.sequence_of.Given as goal

-- these posts, and then those of the sequence of the number, of what is left
abbrev pub invariant-loop-alloc : goal.invariant-loop-alloc
invariant-loop-alloc l = record {
  small : l.number + 1 < 2 ^ 64;
  counts : l.sequence.counts.items ≡ counts_of l.callers;
  path : IsPath l.sequence.counts.items l.sequence.taken.items l.sequence.posts.items;
  same : slice_get (sequences (total (counts_of l.callers)) (posts_from 0 l.callers)) l.initial.number
      ≡ option_map (λ sequence. l.sequence.posts.items ++ sequence) (slice_get (sequences_on l.sequence.counts.items
      (left_over l.sequence.counts.items l.sequence.taken.items) l.sequence.taken.items) l.number);
}

abbrev pub decreases-loop-alloc : goal.decreases-loop-alloc
decreases-loop-alloc l = left_over l.sequence.counts.items l.sequence.taken.items
