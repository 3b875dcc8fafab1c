-- What a source of jobs answers.
use Rattle.std.specs.Prelude.{◌≡◌, ℕ, nat_eq, nat_lt, Bool, if◌then◌else◌, List, [], ◌∷◌, length, map, Option, Some}
use Rattle.std.specs.Prelude.{None, Result, Ok, Err}
use Rattle.dv_script.specs.declared.work.TheConstants.{MOST_JOBS}
use Rattle.dv_script.specs.declared.work.Work.{Work}
use Rattle.dv_value.specs.declared.value.Value.{Value}
use Rattle.dv_jobs.specs.declared.error.JobFault.{JobFault}
use Rattle.dv_jobs.specs.declared.error.JobFault.TheVariants.{Full}
use Rattle.dv_jobs.specs.declared.job.Job.{Job}
use Rattle.dv_jobs.specs.declared.job.Done.{Done}
use Rattle.dv_jobs.specs.Works.{value_of}
use Rattle.dv_jobs.specs.Jobs.{jobs_from, works_of}

-- a source: how many pools it has beside the default one, the jobs that were submitted, and whether it has failed
pub record Source : Type 0 where
  pub pools : ℕ
  pub jobs : List Job
  pub failed : Bool

-- another work may be submitted until there are as many as a run has
abbrev pub room_after : List Job → Result (Unit {0}) JobFault
room_after jobs = if nat_lt (length jobs) MOST_JOBS then Ok tt else Err Full

-- the jobs are numbered in a row, as where each number was given by the source
abbrev pub AreInRow : List Job → Type 0
AreInRow jobs = jobs ≡ jobs_from 0 (works_of jobs)

-- the work that was submitted under this number
abbrev pub work_under : ℕ → List Job → Option Work
work_under k [] = None
work_under k (job ∷ jobs) = if nat_eq job.number k then Some job.work else work_under k jobs

-- a work was submitted under this number
abbrev pub IsSubmitted : ℕ → List Job → Type 0
IsSubmitted k jobs = (work : Work) × (work_under k jobs ≡ Some work)

-- the value of the work that was submitted under this number
abbrev pub IsValueUnder : ℕ → List Job → Value → Type 0
IsValueUnder k jobs value = (work : Work) × (work_under k jobs ≡ Some work) × (value ≡ value_of work)

-- the jobs that were done, in order
abbrev pub jobs_of : List Done → List Job
jobs_of dones = map (λ done. done.job) dones
