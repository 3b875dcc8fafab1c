-- Jobs: numbered works (Twisted: `deferToThread`).
use Rattle.std.specs.Prelude.{ℕ, ◌+◌, List, [], ◌∷◌, map, Result, Ok, Err}
use Rattle.dv_script.specs.declared.work.Work.{Work}
use Rattle.dv_jobs.specs.declared.job.Job.{Job}
use Rattle.dv_jobs.specs.declared.job.Done.{Done}

-- the job of a number and a work
abbrev pub numbered : ℕ → Work → Job
numbered n w = record { number = n; work = w }

-- the jobs of these works, numbered from n on
abbrev pub jobs_from : ℕ → List Work → List Job
jobs_from n [] = []
jobs_from n (w ∷ ws) = numbered n w ∷ jobs_from (n + 1) ws

-- the works of these jobs
abbrev pub works_of : List Job → List Work
works_of jobs = map (λ job. job.work) jobs

-- what answers a job: the job done, or the job itself when out of memory
abbrev pub Answer : Type 0
Answer = Result Done Job

-- the job that an answer holds
abbrev pub job_of : Answer → Job
job_of (Ok done) = done.job
job_of (Err job) = job
