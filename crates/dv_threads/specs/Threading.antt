-- The works of jobs that were submitted (Twisted: `deferToThread`, `deferToThreadPool`).
use Rattle.std.specs.Prelude.{ℕ, List, ◌≡◌, ◌++◌, Option, slice_get}
use Rattle.std.specs.Option.{option_map}
use Rattle.dv_script.specs.declared.work.Work.{Work}
use Rattle.dv_jobs.specs.Works.{value_of}
use Rattle.dv_value.specs.declared.value.Value.{Value}

-- the result of a job: the value of the work that was submitted under its number
abbrev pub job_result : ℕ → List Work → Option Value
job_result job works = option_map value_of (slice_get works job)

-- one list goes on from another
pub record GoesOn (old_works new_works : List Work) : Type 0 where
  pub more : List Work
  pub same : new_works ≡ old_works ++ more
