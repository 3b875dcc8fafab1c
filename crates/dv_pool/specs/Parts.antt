-- What the owner of a pool knows.
use Rattle.std.specs.Prelude.{set, ◌≡◌, ◌⊎◌, ℕ, ◌+◌, ◌<◌, ◌≤◌, ◌==◌, ◌&&◌, Bool, true, List, [], ◌∷◌, length, map, cond}
use Rattle.std.specs.Prelude.{slice_get, Option, Some, None}
use Rattle.std.specs.Arc.{arc_value}
use Rattle.crossbeam_deque.specs.Handles.{worker_deque, worker_flavor, worker_capacity, worker_index, worker_view}
use Rattle.crossbeam_deque.specs.Handles.{stealer_deque}
use Rattle.crossbeam_queue.specs.Passes.{view, IsPassOf}
use Rattle.dv_script.specs.declared.work.Work.{Work}
use Rattle.dv_jobs.specs.declared.job.Job.{Job}
use Rattle.dv_pool.specs.declared.pool.parts.Parts.{Parts}
use Rattle.dv_jobs.specs.Jobs.{numbered, job_of, Answer}
use Rattle.dv_script.specs.declared.work.TheConstants.{MOST_JOBS}
use Rattle.dv_pool.specs.Rules.{weigh}

abbrev pub empty_place : Option Answer
empty_place = None

abbrev pub no_work : Option Work
no_work = None

-- the jobs of the works that are there, each numbered by its place, where the first place has the number n
abbrev pub jobs_in : ℕ → List (Option Work) → List Job
jobs_in n [] = []
jobs_in n (None ∷ works) = jobs_in (n + 1) works
jobs_in n (Some work ∷ works) = numbered n work ∷ jobs_in (n + 1) works

-- each number is lower than n
abbrev pub AreBelow : ℕ → List Job → Type 0
AreBelow n [] = Unit {0}
AreBelow n (job ∷ jobs) = (job.number < n) × AreBelow n jobs

-- a job weighs 1 where it has this number and its work passes the test, and else nothing
abbrev pub passes : ℕ → (Work → Bool) → Job → ℕ
passes n test job = cond ((job.number == n) && test job.work) 1 0

-- the test that each work passes
abbrev pub any : Work → Bool
any work = true

-- an answer may be that of the job of this work; where there is none yet, any may
abbrev pub MayBeOf : Option Work → Answer → Type 0
MayBeOf None a = Unit {0}
MayBeOf (Some work) a = (job_of a).work ≡ work

-- what may stay at the place of the job of this work: nothing, or an answer of it
abbrev pub MayStay : Option Answer → Work → Type 0
MayStay None work = Unit {0}
MayStay (Some a) work = (job_of a).work ≡ work

-- What the place of a number has, where `seen` weighs the answers that were seen:
-- without a job, nothing where none of the number was seen,
-- and else the first one, where, if just that one was seen, a work passes a test as often as its work does;
-- with a job, nothing where no answer of its work was seen, or several of its number were,
-- and else the answer of just this job
abbrev pub IsPlaced : ((Job → ℕ) → ℕ) → ℕ → Option Work → Option Answer → Type 0
IsPlaced seen n None None = (test : Work → Bool) → seen (passes n test) ≡ 0
IsPlaced seen n None (Some a) =
    ((job_of a).number ≡ n) × (0 < seen (passes n any))
    × ((test : Work → Bool) → seen (passes n test) + 1 ≤ passes n test (job_of a) + seen (passes n any))
IsPlaced seen n (Some work) None =
    (test : Work → Bool) → ((other : Work) → test other ≡ true → other ≡ work)
    → (seen (passes n test) ≡ 0) ⊎ (1 < seen (passes n any))
IsPlaced seen n (Some work) (Some a) = job_of a ≡ numbered n work

-- the places of these works, from number n on
abbrev pub ArePlaced : ((Job → ℕ) → ℕ) → ℕ → List (Option Work) → List (Option Answer) → Type 0
ArePlaced seen n [] [] = Unit {0}
ArePlaced seen n [] (p ∷ ps) = ⊥
ArePlaced seen n (w ∷ ws) [] = ⊥
ArePlaced seen n (w ∷ ws) (p ∷ ps) = IsPlaced seen n w p × ArePlaced seen (n + 1) ws ps

-- one more answer comes, whatever was seen before
abbrev pub TakesIn : List (Option Work) → List (Option Answer) → Answer → List (Option Answer) → Type 0
TakesIn works old a new =
    (seen more : (Job → ℕ) → ℕ) → ((h : Job → ℕ) → more h ≡ seen h + h (job_of a)) → ArePlaced seen 0 works old
    → ArePlaced more 0 works new

-- a number without a job gets that of this work, whatever was seen before
abbrev pub Awaits : List (Option Answer) → ℕ → Work → List (Option Answer) → Type 0
Awaits old number work new =
    (seen : (Job → ℕ) → ℕ) (works : List (Option Work)) → slice_get works number ≡ Some no_work
    → ArePlaced seen 0 works old → ArePlaced seen 0 (set works number (Some work)) new

-- the answers that were taken from the queue and the jobs that the owner answered, weighed
abbrev pub seen_by : List Answer → List Job → (Job → ℕ) → ℕ
seen_by taken helped h = weigh h (map job_of taken) + weigh h helped

-- the owner's end of the deque, and its token of the queue, are of one pool
pub record IsOrderly (p : Parts) : Type 0 where
  pub deque : worker_deque p.jobs ≡ stealer_deque (arc_value p.shared).thief
  pub fifo : worker_flavor p.jobs ≡ 0
  pub roomy : MOST_JOBS ≤ worker_capacity p.jobs
  pub queue : IsPassOf (arc_value p.shared).answers p.answers
  pub some_part : 0 < (worker_view p.jobs).parts
  pub same_part : (view p.answers).parts ≡ (worker_view p.jobs).parts

-- the places of the works have what the owner has seen
pub record HasPlaced (works : List (Option Work)) (p : Parts) : Type 0 where
  -- what the owner answered itself
  pub helped : List Job
  pub tied : (h : Job → ℕ)
      → weigh h (worker_view p.jobs).taken ≡ weigh h helped + weigh h (map job_of (view p.answers).put)
  pub placed : ArePlaced (seen_by (view p.answers).taken helped) 0 works p.places.items

-- whichever works the places were those of, they still are
abbrev pub StaysPlaced : Parts → Parts → Type 0
StaysPlaced old new = (works : List (Option Work)) → HasPlaced works old → HasPlaced works new

-- just the jobs of these works were put
abbrev pub HasSubmitted : List (Option Work) → Parts → Type 0
HasSubmitted works p = ((worker_view p.jobs).put ≡ jobs_in 0 works) × (worker_index p.jobs ≤ length (jobs_in 0 works))

-- of the same pool, and nothing was put
abbrev pub IsSamePool : Parts → Parts → Type 0
IsSamePool old new =
    (arc_value new.shared ≡ arc_value old.shared)
    × ((worker_view new.jobs).put ≡ (worker_view old.jobs).put)
    × (worker_index new.jobs ≤ worker_index old.jobs)

-- of the same pool, with as many parts, and nothing was put
abbrev pub Keeps : Parts → Parts → Type 0
Keeps old new = IsSamePool old new × ((worker_view new.jobs).parts ≡ (worker_view old.jobs).parts)
