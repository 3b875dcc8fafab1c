use Rattle.std.proofs.Common.{◌≡◌, ◌+◌, ◌-◌, ◌≤◌, length}
use Rattle.dv_store.specs.Cancelling.{walk, end_of_chain}
use Rattle.dv_store.proofs.ChainLemmas.{Leads}
use Rattle.dv_store.proofs.store.Store.end_of_chain.Given as goal

-- the walk goes on from here, whither links lead from the mark
abbrev pub invariant-loop-links : goal.invariant-loop-links
invariant-loop-links g l = record {
  same : walk (length l.self + 1 - l.links) l.here l.self ≡ end_of_chain l.fn.id l.self;
  marked : Leads l.self l.mark l.here;
  within : l.links ≤ length l.self + 1;
}

abbrev pub decreases-loop-links : goal.decreases-loop-links
decreases-loop-links g l = length l.self + 1 - l.links
