use Rattle.std.proofs.Common.{◌≡◌, ◌≤◌, replicate, None}
use Rattle.std.specs.Prelude.{vec_len, vec_capacity}
use Rattle.dv_script.specs.declared.work.TheConstants.{MOST_JOBS}
use Rattle.dv_pool.proofs.pool.parts.empty_places.Given as goal

abbrev pub invariant-loop : goal.invariant-loop
invariant-loop l =
    (l.places.items ≡ replicate l.counter None) × (vec_len l.places ≡ l.counter) × (MOST_JOBS ≤ vec_capacity l.places)
