use Rattle.std.proofs.Common.{◌≡◌, ◌++◌}
use Rattle.std.specs.Vec.Iter.{into_iter_items}
use Rattle.dv_jobs.specs.Sources.{jobs_of}
use Rattle.dv_pool.specs.Parts.{jobs_in}
use Rattle.dv_pool.proofs.Gathers.{placed_jobs}
use Rattle.dv_pool.proofs.pool.closing.gather.Given as goal

abbrev pub invariant-loop-place : goal.invariant-loop-place
invariant-loop-place l = jobs_of l.ran.dones ++ placed_jobs (into_iter_items l.place-iterator) ≡ jobs_in 0 l.works
