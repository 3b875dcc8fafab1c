use Rattle.std.proofs.Common.{◌≡◌, ◌++◌, map}
use Rattle.std.specs.Vec.Iter.{into_iter_items}
use Rattle.dv_jobs.specs.Jobs.{job_of}
use Rattle.dv_jobs.specs.Sources.{jobs_of}
use Rattle.dv_jobs.proofs.one_thread.OneThreadJobSource.close.Given as goal

abbrev pub invariant-loop-answer : goal.invariant-loop-answer
invariant-loop-answer g l = jobs_of l.ran.dones ++ map job_of (into_iter_items l.answer-iterator) ≡ l.fn.self.jobs
