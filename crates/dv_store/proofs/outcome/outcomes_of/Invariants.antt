use Rattle.std.proofs.Common.{◌≡◌, ◌++◌, map, reverse, vec_len}
use Rattle.dv_store.specs.Outcome.{outcome_of}
use Rattle.dv_store.proofs.outcome.outcomes_of.Given as goal

-- those that are returned already, and then the others from the last
abbrev pub invariant-loop-record : goal.invariant-loop-record
invariant-loop-record g l = l.outcomes ++ map outcome_of (reverse l.left.items) ≡ map outcome_of l.fn.records.items

abbrev pub decreases-loop-record : goal.decreases-loop-record
decreases-loop-record g l = vec_len l.left
