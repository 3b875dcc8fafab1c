-- Each step of the owner keeps what it knows.
use Rattle.std.proofs.Common.{◌≡◌, ℕ, zero, suc, ◌+◌, ◌<◌, ◌≤◌, List, Option, [], ◌∷◌, ◌++◌, length, map, refl, ap, sym}
use Rattle.std.proofs.Common.{subst, ◌∙◌, arith, append-nil, replicate, slice_get, set, Some}
use Rattle.std.specs.Arc.{arc_value}
use Rattle.crossbeam_deque.specs.Handles.{worker_deque, worker_flavor, worker_capacity, worker_view, stealer_deque}
use Rattle.crossbeam_deque.specs.Handles.{SameWorker}
use Rattle.crossbeam_queue.specs.Passes.{view, IsPassOf}
use Rattle.dv_jobs.specs.declared.job.Job.{Job}
use Rattle.dv_pool.specs.declared.pool.parts.Parts.{Parts}
use Rattle.dv_pool.specs.declared.rule.Hand.{Hand}
use Rattle.dv_pool.specs.declared.worker.End.{End}
use Rattle.dv_jobs.specs.Jobs.{job_of, Answer}
use Rattle.dv_script.specs.declared.work.Work.{Work}
use Rattle.dv_script.specs.declared.work.TheConstants.{MOST_JOBS}
use Rattle.dv_pool.specs.Rules.{all_parts, hand, weigh}
use Rattle.dv_pool.specs.Worker.{job_hand, answer_hand, HasServed}
use Rattle.dv_pool.specs.Parts.{empty_place, no_work, TakesIn, Awaits, IsOrderly, HasPlaced, StaysPlaced, ArePlaced}
use Rattle.dv_pool.specs.Parts.{seen_by}
use Rattle.dv_pool.proofs.RuleLemmas.{weigh-append}
use Rattle.dv_pool.proofs.Places as places

-- the owner's end of the deque, and its token of the queue, are still of this pool
pub record IsStill (p q : Parts) : Type 0 where
  pub shared : arc_value q.shared ≡ arc_value p.shared
  pub deque : SameWorker p.jobs q.jobs
  pub queue : IsPassOf (arc_value p.shared).answers q.answers

still_deque : (p q : Parts) → IsOrderly p → IsStill p q → worker_deque q.jobs ≡ stealer_deque (arc_value q.shared).thief
still_deque p q o s = s.deque.0 ∙ o.deque ∙ ap (λ x. stealer_deque x.thief) (sym s.shared)

still_queue : (p q : Parts) → IsStill p q → IsPassOf (arc_value q.shared).answers q.answers
still_queue p q s = rw s.shared s.queue

-- with parts as before, or as many of both rights
pub still_orderly : (p q : Parts) → IsOrderly p → IsStill p q → 0 < (worker_view q.jobs).parts
    → (view q.answers).parts ≡ (worker_view q.jobs).parts → IsOrderly q
still_orderly p q o s some same = record {
  deque = still_deque p q o s;
  fifo = s.deque.1 ∙ o.fifo;
  roomy = (let c = s.deque.3 in let r = o.roomy in omega arith);
  queue = still_queue p q s;
  some_part = some;
  same_part = same;
}

-- what it holds of both is as before
pub unchanged : (p q : Parts) → IsOrderly p → IsStill p q → worker_view q.jobs ≡ worker_view p.jobs
    → view q.answers ≡ view p.answers → IsOrderly q
unchanged p q o s jobs answers = still_orderly p q o s (rw jobs o.some_part) (rw (answers, jobs) o.same_part)

-- an answer was taken from the queue
pub collected : (p q : Parts) (a : Answer) → IsOrderly p → IsStill p q → worker_view q.jobs ≡ worker_view p.jobs
    → view q.answers ≡ hand (view p.answers).parts (view p.answers).put ((view p.answers).taken ++ a ∷ []) → IsOrderly q
collected p q a o s jobs answers = still_orderly p q o s (rw jobs o.some_part) (rw (answers, jobs) o.same_part)

pub collected_placed : (ws : List (Option Work)) (p q : Parts) (a : Answer) → HasPlaced ws p
    → worker_view q.jobs ≡ worker_view p.jobs
    → view q.answers ≡ hand (view p.answers).parts (view p.answers).put ((view p.answers).taken ++ a ∷ [])
    → TakesIn ws p.places.items a q.places.items → HasPlaced ws q
collected_placed ws p q a h jobs answers in_ = record {
  helped = h.helped;
  tied = rw (answers, jobs) h.tied;
  placed =
      (places.collected ws _ _ a (view p.answers).taken _ h.helped in_
      (ap (λ (v : Hand Answer). v.taken) answers) h.placed);
}

-- the owner answered a job itself
pub helped : (p q : Parts) (j : Job) → IsOrderly p → IsStill p q → view q.answers ≡ view p.answers
    → worker_view q.jobs
    ≡ hand (worker_view p.jobs).parts (worker_view p.jobs).put ((worker_view p.jobs).taken ++ j ∷ []) → IsOrderly q
helped p q j o s answers jobs = still_orderly p q o s (rw jobs o.some_part) (rw (answers, jobs) o.same_part)

pub helped_placed : (ws : List (Option Work)) (p q : Parts) (a : Answer) (j : Job) → HasPlaced ws p
    → view q.answers ≡ view p.answers → job_of a ≡ j
    → worker_view q.jobs
    ≡ hand (worker_view p.jobs).parts (worker_view p.jobs).put ((worker_view p.jobs).taken ++ j ∷ [])
    → TakesIn ws p.places.items a q.places.items → HasPlaced ws q
helped_placed ws p q a j h answers same jobs in_ = record {
  helped = job_of a ∷ h.helped;
  tied = λ f. rw (answers, jobs, same) (omega (arith, weigh-append f (worker_view p.jobs).taken (j ∷ []), h.tied f));
  placed = rw answers (places.answered ws _ _ a (view p.answers).taken h.helped in_ h.placed);
}

-- there is a place for each work
pub same_places : (ws : List (Option Work)) (p : Parts) → HasPlaced ws p → length ws ≡ length p.places.items
same_places ws p h = places.same_length (seen_by (view p.answers).taken h.helped) 0 ws p.places.items h.placed

weigh-map_append : (h : Job → ℕ) (xs ys : List Answer)
    → weigh h (map job_of (xs ++ ys)) ≡ weigh h (map job_of xs) + weigh h (map job_of ys)
weigh-map_append h [] ys = omega arith
weigh-map_append h (x ∷ xs) ys = omega (arith, weigh-map_append h xs ys)

-- what was put stays, where nothing is added
pub same_put : {A : Type 0} → (xs ys : List A) → ys ≡ [] → xs ++ ys ≡ xs
same_put xs ys none = ap (λ l. xs ++ l) none ∙ append-nil xs

-- the tokens of a worker came back
pub absorbed : (p q : Parts) (e : End) → IsOrderly p → IsStill p q → HasServed e
    → worker_view q.jobs ≡ hand ((worker_view p.jobs).parts + (job_hand e).parts)
    ((worker_view p.jobs).put ++ (job_hand e).put) ((worker_view p.jobs).taken ++ (job_hand e).taken)
    → view q.answers ≡ hand ((view p.answers).parts + (answer_hand e).parts)
    ((view p.answers).put ++ (answer_hand e).put) ((view p.answers).taken ++ (answer_hand e).taken)
    → IsOrderly q
absorbed p q e o s served jobs answers =
    still_orderly p q o s (rw jobs (let s = o.some_part in omega arith)) (rw (answers, jobs) (let s = o.same_part in
    let a = served.one_job_part in let b = served.one_answer_part in omega arith))

pub absorbed_placed : (p q : Parts) (e : End) → HasServed e → q.places.items ≡ p.places.items
    → worker_view q.jobs ≡ hand ((worker_view p.jobs).parts + (job_hand e).parts)
    ((worker_view p.jobs).put ++ (job_hand e).put) ((worker_view p.jobs).taken ++ (job_hand e).taken)
    → view q.answers ≡ hand ((view p.answers).parts + (answer_hand e).parts)
    ((view p.answers).put ++ (answer_hand e).put) ((view p.answers).taken ++ (answer_hand e).taken)
    → StaysPlaced p q
absorbed_placed p q e served same jobs answers ws h =
    let taken : (view q.answers).taken ≡ (view p.answers).taken =
    ap (λ (v : Hand Answer). v.taken) answers ∙ same_put (view p.answers).taken _ served.took_no_answer in
    record {
      helped = h.helped;
      tied =
          λ f. rw (answers, jobs)
          (let a = weigh-append f (worker_view p.jobs).taken (job_hand e).taken in
          let b = weigh-map_append f (view p.answers).put (answer_hand e).put in
          let t = h.tied f in
          let s = ap (weigh f) served.answered in
          omega arith);
      placed = rw (taken, same) h.placed;
    }

-- the work of the next number is kept, whose place awaits its answer
pub awaited : (ws : List (Option Work)) (p q : Parts) (k : ℕ) (w : Work) → HasPlaced ws p
    → (view q.answers).put ≡ (view p.answers).put → (view q.answers).taken ≡ (view p.answers).taken
    → (worker_view q.jobs).taken ≡ (worker_view p.jobs).taken → slice_get ws k ≡ Some no_work
    → Awaits p.places.items k w q.places.items → HasPlaced (set ws k (Some w)) q
awaited ws p q k w h put taken jobs none awaits = record {
  helped = h.helped;
  tied = rw (put, jobs) h.tied;
  placed = rw taken (awaits (seen_by (view p.answers).taken h.helped) ws none h.placed);
}

all_empty : (n k : ℕ) → ArePlaced (seen_by [] []) n (replicate k no_work) (replicate k empty_place)
all_empty n zero = tt
all_empty n (suc k) = ((λ test. refl), all_empty (n + 1) k)

-- a new pool
pub opened : (p : Parts) → worker_deque p.jobs ≡ stealer_deque (arc_value p.shared).thief → worker_flavor p.jobs ≡ 0
    → MOST_JOBS ≤ worker_capacity p.jobs → IsPassOf (arc_value p.shared).answers p.answers
    → worker_view p.jobs ≡ hand {T = Job} all_parts [] [] → view p.answers ≡ hand {T = Answer} all_parts [] []
    → IsOrderly p
opened p deque fifo roomy queue jobs answers = record {
  deque = deque;
  fifo = fifo;
  roomy = roomy;
  queue = queue;
  some_part = rw jobs (omega arith);
  same_part = rw (answers, jobs) refl;
}

pub opened_placed : (p : Parts) → p.places.items ≡ replicate MOST_JOBS empty_place
    → worker_view p.jobs ≡ hand {T = Job} all_parts [] [] → view p.answers ≡ hand {T = Answer} all_parts [] []
    → HasPlaced (replicate MOST_JOBS no_work) p
opened_placed p empty jobs answers = record {
  helped = [];
  tied = λ h. rw (answers, jobs) refl;
  placed =
      (let taken : (view p.answers).taken ≡ [] = ap (λ (v : Hand Answer). v.taken) answers in
      subst (λ ps. ArePlaced (seen_by (view p.answers).taken []) 0 (replicate MOST_JOBS no_work) ps) (sym empty)
      (subst (λ t. ArePlaced (seen_by t []) 0 (replicate MOST_JOBS no_work) (replicate MOST_JOBS empty_place))
      (sym taken) (all_empty 0 MOST_JOBS)));
}
