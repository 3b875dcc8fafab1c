-- What a worker of a pool holds, and what it hands back.
use Rattle.std.specs.Prelude.{◌≡◌, [], map}
use Rattle.crossbeam_deque.specs.Handles as deque
use Rattle.crossbeam_queue.specs.Passes as queue
use Rattle.dv_pool.specs.declared.worker.Shared.{Shared}
use Rattle.dv_pool.specs.declared.worker.End.{End}
use Rattle.dv_pool.specs.declared.rule.Hand.{Hand}
use Rattle.dv_jobs.specs.declared.job.Job.{Job}
use Rattle.dv_jobs.specs.Jobs.{Answer, job_of}
use Rattle.dv_pool.specs.Rules.{hand}

-- the hand in the deque of jobs
abbrev pub job_hand : End → Hand Job
job_hand end = deque.view end.jobs

-- the hand in the queue of answers
abbrev pub answer_hand : End → Hand Answer
answer_hand end = queue.view end.answers

-- the tokens are for this deque and this queue
abbrev pub IsEndOf : Shared → End → Type 0
IsEndOf shared end =
    deque.IsPassOf (deque.stealer_deque shared.thief) end.jobs × queue.IsPassOf shared.answers end.answers

-- it has one part of each right, and has done nothing yet
abbrev pub IsFresh : End → Type 0
IsFresh end = (job_hand end ≡ hand 1 [] []) × (answer_hand end ≡ hand 1 [] [])

-- it has its parts still, and has answered just the jobs that it took
pub record HasServed (end : End) : Type 0 where
  pub one_job_part : (job_hand end).parts ≡ 1
  pub one_answer_part : (answer_hand end).parts ≡ 1
  pub put_no_job : (job_hand end).put ≡ []
  pub took_no_answer : (answer_hand end).taken ≡ []
  pub answered : map job_of (answer_hand end).put ≡ (job_hand end).taken
