use Rattle.std.proofs.Common.{◌≡◌, ◌+◌, ◌-◌, ◌≤◌, drop, length, replicate, sum, take}
use Rattle.dv_orders.specs.Batching.{later_lengths}
use Rattle.dv_orders.proofs.batching.Cut.advance.Given as goal

-- the drains from here on take nothing, and the same ways are listed later than those before them
abbrev pub invariant-loop-place : goal.invariant-loop-place
invariant-loop-place l = record {
  within : l.place ≤ length l.drains;
  len : length l.self.lengths.items ≡ length l.drains;
  same : sum l.self.lengths.items + l.self.left ≡ sum l.initial.self.lengths.items + l.initial.self.left;
  zeros : drop l.place l.self.lengths.items ≡ replicate (length l.drains - l.place) 0;
  later : later_lengths l.drains l.initial.self.left l.initial.self.lengths.items
      ≡ later_lengths l.drains l.self.left (take l.place l.self.lengths.items);
}

abbrev pub decreases-loop-place : goal.decreases-loop-place
decreases-loop-place l = l.place
