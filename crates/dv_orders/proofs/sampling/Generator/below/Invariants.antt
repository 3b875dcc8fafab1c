use Rattle.std.proofs.Common.{◌≡◌}
use Rattle.dv_orders.specs.Sampling.{next_state, number_of, state_used}
use Rattle.dv_orders.proofs.sampling.Generator.below.Given as goal

-- the state's number is used, or that of one of so many others
abbrev pub invariant-loop-others : goal.invariant-loop-others
invariant-loop-others l = record {
  number : l.number ≡ number_of l.self;
  state : state_used l.n l.others l.self ≡ state_used l.n 63 (next_state l.fn.self);
}

abbrev pub decreases-loop-others : goal.decreases-loop-others
decreases-loop-others l = l.others
