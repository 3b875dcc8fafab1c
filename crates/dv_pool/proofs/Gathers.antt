-- Where all was taken, each job has its own place.
use Rattle.std.proofs.Common.{◌≡◌, inl, inr, ℕ, ◌+◌, ◌<◌, ◌≤◌, ◌==◌, ◌&&◌, Bool, true, false, true≢false, Option, Some}
use Rattle.std.proofs.Common.{None, Ok, List, [], ◌∷◌, ◌++◌, length, map, refl, ap, sym, ◌∙◌, arith}
use base.Stored.{Gv, gnil, gnum, gcons}
use Rattle.crossbeam_deque.specs.Handles.{worker_view}
use Rattle.crossbeam_queue.specs.Passes.{view}
use Rattle.dv_script.specs.contracts.work.Work as work_contract
use Rattle.dv_script.specs.declared.work.Work.{Work}
use Rattle.dv_jobs.specs.declared.job.Done.{Done}
use Rattle.dv_jobs.specs.declared.job.Job.{Job}
use Rattle.dv_pool.specs.declared.pool.parts.Parts.{Parts}
use Rattle.dv_jobs.specs.Jobs.{numbered, job_of, Answer}
use Rattle.dv_jobs.specs.Sources.{jobs_of}
use Rattle.dv_pool.specs.Rules.{weigh, IsEmptied}
use Rattle.dv_pool.specs.Parts.{jobs_in, passes, any, ArePlaced, HasPlaced, HasSubmitted, seen_by}
use Rattle.dv_pool.proofs.Places.{passes-other, passes-any}

-- whether two codes are equal
abbrev same_code : Gv → Gv → Bool
same_code gnil gnil = true
same_code gnil (gnum n) = false
same_code gnil (gcons c d) = false
same_code (gnum m) gnil = false
same_code (gnum m) (gnum n) = m == n
same_code (gnum m) (gcons c d) = false
same_code (gcons a b) gnil = false
same_code (gcons a b) (gnum n) = false
same_code (gcons a b) (gcons c d) = same_code a c && same_code b d

and-left : (p q : Bool) → (p && q) ≡ true → p ≡ true
and-left true q e = refl
and-left false q e = e

and-right : (p q : Bool) → (p && q) ≡ true → q ≡ true
and-right true q e = e
and-right false q e = absurd (true≢false (sym e))

same_code-sound : (a b : Gv) → same_code a b ≡ true → a ≡ b
same_code-sound gnil gnil e = refl
same_code-sound gnil (gnum n) e = absurd (true≢false (sym e))
same_code-sound gnil (gcons c d) e = absurd (true≢false (sym e))
same_code-sound (gnum m) gnil e = absurd (true≢false (sym e))
same_code-sound (gnum m) (gnum n) e = let h : m ≡ n = grind (arith, e) in ap gnum h
same_code-sound (gnum m) (gcons c d) e = absurd (true≢false (sym e))
same_code-sound (gcons a b) gnil e = absurd (true≢false (sym e))
same_code-sound (gcons a b) (gnum n) e = absurd (true≢false (sym e))
same_code-sound (gcons a b) (gcons c d) e =
    let x = same_code-sound a c (and-left _ _ e) in
    let y = same_code-sound b d (and-right (same_code a c) _ e) in
    λ i. gcons (x i) (y i)

same_code-refl : (a : Gv) → same_code a a ≡ true
same_code-refl gnil = refl
same_code-refl (gnum n) = grind arith
same_code-refl (gcons a b) = rw (same_code-refl a) (same_code-refl b)

-- the test that just the works pass that equal this one
is_work : Work → Work → Bool
is_work w v = same_code (work_contract.the_row.coded.code v) (work_contract.the_row.coded.code w)

is_work-sound : (w v : Work) → is_work w v ≡ true → v ≡ w
unfolding is_work
is_work-sound w v e = work_contract.the_row.coded.inj v w (same_code-sound _ _ e)

is_work-refl : (w : Work) → is_work w w ≡ true
unfolding is_work
is_work-refl w = same_code-refl (work_contract.the_row.coded.code w)

passes-self : (n : ℕ) (test : Work → Bool) (w : Work) → test w ≡ true → passes n test (numbered n w) ≡ 1
passes-self n test w is = grind (arith, is)

-- the jobs of the answers that are there
abbrev pub placed_jobs : List (Option Answer) → List Job
placed_jobs [] = []
placed_jobs (None ∷ ps) = placed_jobs ps
placed_jobs (Some a ∷ ps) = job_of a ∷ placed_jobs ps

-- jobs that are numbered from above k on weigh nothing under k
low_jobs : (k n : ℕ) (test : Work → Bool) (ws : List (Option Work)) → k < n → weigh (passes k test) (jobs_in n ws) ≡ 0
low_jobs k n test [] low = refl
low_jobs k n test (None ∷ ws) low = low_jobs k (n + 1) test ws (omega (arith, low))
low_jobs k n test (Some w ∷ ws) low =
    let z = passes-other k test (numbered n w) (omega (arith, low)) in
    omega (arith, z, low_jobs k (n + 1) test ws (omega (arith, low)))

-- where just the jobs were seen, their places have them, and no other place has an answer
all_placed : (S before : (Job → ℕ) → ℕ) (n : ℕ) (ws : List (Option Work)) (ps : List (Option Answer))
    → ((h : Job → ℕ) → S h ≡ before h + weigh h (jobs_in n ws))
    → ((k : ℕ) (test : Work → Bool) → n ≤ k → before (passes k test) ≡ 0)
    → ArePlaced S n ws ps → placed_jobs ps ≡ jobs_in n ws
all_placed S before n [] [] all clean h = refl
all_placed S before n [] (p ∷ ps) all clean h = absurd h
all_placed S before n (w ∷ ws) [] all clean h = absurd h
all_placed S before n (None ∷ ws) (None ∷ ps) all clean h =
    all_placed S before (n + 1) ws ps all (λ k test low. clean k test (omega (arith, low))) h.1
all_placed S before n (None ∷ ws) (Some a ∷ ps) all clean h =
    let e = all (passes n any) in
    let z = clean n any (omega arith) in
    let r = low_jobs n (n + 1) any ws (omega arith) in
    let some = h.0.1 in
    absurd (omega arith)
all_placed S before n (Some w ∷ ws) (None ∷ ps) all clean h =
    let test : Work → Bool = is_work w in
    let e = all (passes n test) in
    let e' = all (passes n any) in
    let o : passes n test (numbered n w) ≡ 1 = passes-self n test w (is_work-refl w) in
    let o' = passes-any n (numbered n w) refl in
    let z = clean n test (omega arith) in
    let z' = clean n any (omega arith) in
    let r = low_jobs n (n + 1) test ws (omega arith) in
    let r' = low_jobs n (n + 1) any ws (omega arith) in
    elim (h.0 test (λ v is. is_work-sound w v is)) [
      | inl none ↦ absurd (omega arith)
      | inr two ↦ absurd (omega arith)
    ]
all_placed S before n (Some w ∷ ws) (Some a ∷ ps) all clean h =
    let all' : (f : Job → ℕ) → S f ≡ (before f + f (numbered n w)) + weigh f (jobs_in (n + 1) ws) = λ f. let e =
    all f in omega arith in
    let clean' : (k : ℕ) (test : Work → Bool) → n + 1 ≤ k → before (passes k test) + passes k test (numbered n w) ≡ 0 =
    λ k test low. let a = clean k test (omega arith) in let b = passes-other k test (numbered n w) (omega arith) in
    omega arith in
    let rest = all_placed S (λ f. before f + f (numbered n w)) (n + 1) ws ps all' clean' h.1 in
    λ i. h.0 i ∷ rest i

weigh_map : (h : Job → ℕ) (xs : List Answer) → weigh h (map job_of xs) ≡ weigh (λ a. h (job_of a)) xs
weigh_map h [] = refl
weigh_map h (x ∷ xs) = omega (arith, weigh_map h xs)

-- the places have just the jobs, where all was taken out of both queues
pub all_gathered : (ws : List (Option Work)) (p : Parts) → HasPlaced ws p → HasSubmitted ws p
    → IsEmptied (worker_view p.jobs) → IsEmptied (view p.answers) → placed_jobs p.places.items ≡ jobs_in 0 ws
all_gathered ws p o submitted jobs answers =
    all_placed (seen_by (view p.answers).taken o.helped) (λ h. 0) 0 ws p.places.items
    (λ h.
    let a = jobs h in
    let b = answers (λ x. h (job_of x)) in
    let t = o.tied h in
    let m = weigh_map h (view p.answers).put in
    let m' = weigh_map h (view p.answers).taken in
    let s = ap (weigh h) submitted.0 in
    omega arith)
    (λ k test low. refl) o.placed

jobs-snoc : (old : List Done) (d : Done) (js : List Job) → jobs_of (old ++ d ∷ []) ++ js ≡ jobs_of old ++ d.job ∷ js
jobs-snoc [] d js = refl
jobs-snoc (x ∷ xs) d js = ap (λ l. x.job ∷ l) (jobs-snoc xs d js)

pub one_more_done : (new old : List Done) (d : Done) (js : List Job) → new ≡ old ++ d ∷ []
    → jobs_of new ++ js ≡ jobs_of old ++ d.job ∷ js
one_more_done new old d js e = ap (λ l. jobs_of l ++ js) e ∙ jobs-snoc old d js

pub none_left : (ps : List (Option Answer)) → length ps ≡ 0 → placed_jobs ps ≡ []
none_left [] e = refl
none_left (p ∷ ps) e = absurd (omega (arith, e))

-- the next place has no answer
pub skipped : (dones : List Done) (old rest : List (Option Answer)) (p : Option Answer) (js : List Job) → old ≡ p ∷ rest
    → p ≡ None → jobs_of dones ++ placed_jobs old ≡ js → jobs_of dones ++ placed_jobs rest ≡ js
skipped dones old rest p js steps none is =
    ap (λ l. jobs_of dones ++ placed_jobs l) (sym (steps ∙ ap (λ o. o ∷ rest) none)) ∙ is

-- the next place has an answer with a value
pub counted : (dones new : List Done) (d : Done) (old rest : List (Option Answer)) (p : Option Answer) (js : List Job)
    → old ≡ p ∷ rest → p ≡ Some (Ok d) → new ≡ dones ++ d ∷ []
    → jobs_of dones ++ placed_jobs old ≡ js → jobs_of new ++ placed_jobs rest ≡ js
counted dones new d old rest p js steps some more is =
    one_more_done new dones d (placed_jobs rest) more
    ∙ ap (λ l. jobs_of dones ++ placed_jobs l) (sym (steps ∙ ap (λ o. o ∷ rest) some)) ∙ is
