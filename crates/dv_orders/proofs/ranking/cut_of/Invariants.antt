use Rattle.std.proofs.Common.{◌≡◌, ◌+◌, ◌^◌, ◌<◌, ◌++◌, drop, length, option_map, slice_get}
use Rattle.dv_orders.specs.Orders.{cuts}
use Rattle.dv_orders.proofs.ranking.cut_of.Given as goal

-- these batches, and then those of the cut of the number, of what is left at the events from here on
abbrev pub invariant-loop-place : goal.invariant-loop-place
invariant-loop-place l = record {
  fits : length l.rest + 1 < 2 ^ 64;
  small : l.number + 1 < 2 ^ 64;
  same : slice_get (cuts l.events l.sequence) l.initial.number ≡ option_map (λ cut. l.batches ++ cut)
      (slice_get (cuts (drop l.place l.events) l.rest) l.number);
}
