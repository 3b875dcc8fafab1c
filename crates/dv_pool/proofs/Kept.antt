-- The works that are kept, each at the place of its number.
use Rattle.std.proofs.Common.{◌≡◌, ℕ, zero, suc, ◌+◌, ◌<◌, ◌≤◌, nat_eq, true, false, true≢false, slice_get, set, get_or}
use Rattle.std.proofs.Common.{is_some, Option, Some, None, Result, Ok, Err, IfOk, List, [], ◌∷◌, ◌++◌, length}
use Rattle.std.proofs.Common.{replicate, refl, ap, sym, subst, ◌∙◌, arith}
use Rattle.std.proofs.lemmas.List.{length-replicate}
use Rattle.std.proofs.lemmas.Bool.Decides.{nat_tests}
use Rattle.std.specs.Option.{unwrap_or}
use Rattle.std.specs.declared.alloc.AllocError.{AllocError}
use Rattle.dv_script.specs.declared.work.Work.{Work}
use Rattle.dv_value.specs.declared.value.Value.{Value}
use Rattle.crossbeam_deque.specs.Handles.{worker_index, worker_view}
use Rattle.crossbeam_queue.specs.Passes.{view}
use Rattle.dv_script.specs.declared.work.TheConstants.{MOST_JOBS}
use Rattle.dv_jobs.specs.declared.job.Job.{Job}
use Rattle.dv_pool.specs.declared.pool.parts.Parts.{Parts}
use Rattle.dv_jobs.specs.Jobs.{numbered, jobs_from, works_of, job_of, Answer}
use Rattle.dv_jobs.specs.Sources.{AreInRow, work_under, IsSubmitted, IsValueUnder}
use Rattle.dv_jobs.specs.Works.{value_of}
use Rattle.dv_jobs.proofs.JobLemmas.{length-works}
use Rattle.dv_pool.specs.Parts.{no_work, jobs_in, AreBelow, ArePlaced, HasPlaced, StaysPlaced, HasSubmitted, IsSamePool}
use Rattle.dv_pool.specs.Parts.{seen_by}
use Rattle.dv_pool.proofs.Places.{at_place}
use Rattle.dv_pool.proofs.Orders.{same_places}

none_some : {X : Type 0} (x : X) → None ≡ Some x → ⊥
none_some x e = absurd (true≢false (sym (ap is_some e)))

some_some : {X : Type 0} (x y : X) → Some x ≡ Some y → x ≡ y
some_some x y e = ap (λ o. unwrap_or o x) e

next : (n k : ℕ) → n + suc k ≡ (n + 1) + k
next n k = omega arith

-- where nothing is kept there are no jobs
pub no_jobs : (n k : ℕ) → jobs_in n (replicate k no_work) ≡ []
no_jobs n zero = refl
no_jobs n (suc k) = no_jobs (n + 1) k

none_below : (n m : ℕ) (ws : List (Option Work)) → m ≤ n → AreBelow m (jobs_in n ws) → jobs_in n ws ≡ []
none_below n m [] low h = refl
none_below n m (None ∷ ws) low h = none_below (n + 1) m ws (omega (arith, low)) h
none_below n m (Some w ∷ ws) low h = let l = h.0 in absurd (omega arith)

-- a number above all has no work, and gets the last job
pub set_last : (n k : ℕ) (ws : List (Option Work)) (w : Work) → k < length ws → AreBelow (n + k) (jobs_in n ws)
    → (slice_get ws k ≡ Some no_work) × (jobs_in n (set ws k (Some w)) ≡ jobs_in n ws ++ numbered (n + k) w ∷ [])
set_last n k [] w low h = absurd (omega (arith, low))
set_last n zero (None ∷ ws) w low h =
    let none : jobs_in (n + 1) ws ≡ [] = none_below (n + 1) (n + 0) ws (omega arith) h in
    let z : n ≡ n + 0 = omega arith in (
      refl,
      ap (λ l. numbered n w ∷ l) none ∙ ap (λ m. numbered m w ∷ []) z
          ∙ ap (λ l. l ++ numbered (n + 0) w ∷ []) (sym none),
    )
set_last n zero (Some v ∷ ws) w low h = let l = h.0 in absurd (omega arith)
set_last n (suc k) (None ∷ ws) w low h =
    let r = set_last (n + 1) k ws w (omega (arith, low)) (subst (λ m. AreBelow m (jobs_in (n + 1) ws)) (next n k) h) in
    (r.0, r.1 ∙ ap (λ m. jobs_in (n + 1) ws ++ numbered m w ∷ []) (sym (next n k)))
set_last n (suc k) (Some v ∷ ws) w low h =
    let r =
    set_last (n + 1) k ws w (omega (arith, low)) (subst (λ m. AreBelow m (jobs_in (n + 1) ws)) (next n k) h.1) in
    (r.0, ap (λ l. numbered n v ∷ l) (r.1 ∙ ap (λ m. jobs_in (n + 1) ws ++ numbered m w ∷ []) (sym (next n k))))

-- the same, where the first place has the number 0
pub set_job : (k : ℕ) (ws : List (Option Work)) (w : Work) → k < length ws → AreBelow k (jobs_in 0 ws)
    → (slice_get ws k ≡ Some no_work) × (jobs_in 0 (set ws k (Some w)) ≡ jobs_in 0 ws ++ numbered k w ∷ [])
set_job k ws w low h =
    let z : 0 + k ≡ k = omega arith in
    let r = set_last 0 k ws w low (subst (λ m. AreBelow m (jobs_in 0 ws)) (sym z) h) in
    (r.0, r.1 ∙ ap (λ m. jobs_in 0 ws ++ numbered m w ∷ []) z)

-- the job that was put is that of the work that is kept
pub one_more_put : (ws new : List (Option Work)) (put put' : List Job) (j : Job) (k : ℕ) (w copy : Work)
    → jobs_in 0 new ≡ jobs_in 0 ws ++ numbered k copy ∷ [] → copy ≡ w → put ≡ jobs_in 0 ws
    → put' ≡ put ++ j ∷ [] → j ≡ numbered k w → put' ≡ jobs_in 0 new
one_more_put ws new put put' j k w copy kept same before grown is =
    grown ∙ ap (λ l. l ++ j ∷ []) before ∙ ap (λ x. jobs_in 0 ws ++ x ∷ []) is
    ∙ ap (λ x. jobs_in 0 ws ++ numbered k x ∷ []) (sym same) ∙ sym kept

under_low : (n m : ℕ) (ws : List (Option Work)) → m < n → work_under m (jobs_in n ws) ≡ None
under_low n m [] low = refl
under_low n m (None ∷ ws) low = under_low (n + 1) m ws (omega (arith, low))
under_low n m (Some w ∷ ws) low =
    let other : nat_eq n m ≡ false = grind (arith, nat_tests, low) in
    rw other (under_low (n + 1) m ws (omega (arith, low)))

-- the work under a number is kept at its place
under_in : (n k : ℕ) (ws : List (Option Work)) (w : Work) → work_under (n + k) (jobs_in n ws) ≡ Some w
    → slice_get ws k ≡ Some (Some w)
under_in n k [] w e = absurd (none_some w e)
under_in n zero (None ∷ ws) w e = absurd (none_some w (sym (under_low (n + 1) (n + 0) ws (omega arith)) ∙ e))
under_in n zero (Some v ∷ ws) w e =
    let same : nat_eq n (n + 0) ≡ true = grind (arith, nat_tests) in ap Some (rw same at e)
under_in n (suc k) (None ∷ ws) w e =
    under_in (n + 1) k ws w (ap (λ m. work_under m (jobs_in (n + 1) ws)) (sym (next n k)) ∙ e)
under_in n (suc k) (Some v ∷ ws) w e =
    let other : nat_eq n (n + suc k) ≡ false = grind (arith, nat_tests) in
    under_in (n + 1) k ws w (ap (λ m. work_under m (jobs_in (n + 1) ws)) (sym (next n k)) ∙ (rw other at e))

slice_low : {X : Type 0} (xs : List X) (k : ℕ) (x : X) → slice_get xs k ≡ Some x → k < length xs
slice_low [] k x e = absurd (none_some x e)
slice_low (y ∷ xs) zero x e = omega arith
slice_low (y ∷ xs) (suc k) x e = let low = slice_low xs k x e in omega arith

kept_at : (ws : List (Option Work)) (k : ℕ) (w : Work) → work_under k (jobs_in 0 ws) ≡ Some w
    → slice_get ws k ≡ Some (Some w)
kept_at ws k w e = let z : 0 + k ≡ k = omega arith in under_in 0 k ws w (ap (λ m. work_under m (jobs_in 0 ws)) z ∙ e)

-- the number of a job has a place
pub number_low : (ws : List (Option Work)) (p : Parts) (k : ℕ) → HasPlaced ws p → IsSubmitted k (jobs_in 0 ws)
    → k < length p.places.items
number_low ws p k h known =
    omega (arith, same_places ws p h, slice_low ws k (Some known.0) (kept_at ws k known.0 known.1))

placed_at : (seen : (Job → ℕ) → ℕ) (n k : ℕ) (ws : List (Option Work)) (ps : List (Option Answer)) (w : Work)
    (a : Answer) → ArePlaced seen n ws ps → slice_get ws k ≡ Some (Some w)
    → slice_get ps k ≡ Some (Some a) → (job_of a).work ≡ w
placed_at seen n k [] ps w a h there here = absurd (none_some (Some w) there)
placed_at seen n k (v ∷ ws) [] w a h there here = absurd h
placed_at seen n zero (None ∷ ws) (p ∷ ps) w a h there here = absurd (none_some w (some_some None (Some w) there))
placed_at seen n zero (Some v ∷ ws) (None ∷ ps) w a h there here = absurd (none_some a (some_some None (Some a) here))
placed_at seen n zero (Some v ∷ ws) (Some b ∷ ps) w a h there here =
    let works : v ≡ w = some_some v w (some_some (Some v) (Some w) there) in
    let answers : b ≡ a = some_some b a (some_some (Some b) (Some a) here) in
    ap (λ x. (job_of x).work) (sym answers) ∙ ap (λ (j : Job). j.work) h.0 ∙ works
placed_at seen n (suc k) (v ∷ ws) (p ∷ ps) w a h there here = placed_at seen (n + 1) k ws ps w a h.1 there here

-- the value of the answer in a place is that of the work under its number
pub value_at : (ws : List (Option Work)) (p : Parts) (k : ℕ) (o : Option Answer) (a : Answer)
    (r : Result Value AllocError) → HasPlaced ws p → IsSubmitted k (jobs_in 0 ws)
    → o ≡ get_or p.places.items k o → o ≡ Some a → IfOk r (λ value. value ≡ value_of (job_of a).work)
    → IfOk r (IsValueUnder k (jobs_in 0 ws))
value_at ws p k o a (Ok value) h known at is right =
    let low = number_low ws p k h known in
    let here : slice_get p.places.items k ≡ Some (Some a) = at_place p.places.items k o low at ∙ ap Some is in
    let work = placed_at (seen_by (view p.answers).taken h.helped) 0 k ws p.places.items known.0 a h.placed
    (kept_at ws k known.0 known.1) here in
    (known.0, known.1, right ∙ ap value_of work)
value_at ws p k o a (Err e) h known at is right = tt

-- in a row the next number is above all
below_row : (n : ℕ) (ws : List Work) → AreBelow (n + length ws) (jobs_from n ws)
below_row n [] = tt
below_row n (w ∷ ws) =
    (omega arith, subst (λ m. AreBelow m (jobs_from (n + 1) ws)) (sym (next n (length ws))) (below_row (n + 1) ws))

pub row_below : (js : List Job) (n : ℕ) → AreInRow js → n ≡ length js → AreBelow n js
row_below js n row is =
    let e : 0 + length (works_of js) ≡ n = omega (arith, length-works js, is) in
    subst (AreBelow n) (sym row) (subst (λ m. AreBelow m (jobs_from 0 (works_of js))) e (below_row 0 (works_of js)))

-- a pool to which nothing was submitted
pub empty_pool : (works : List (Option Work)) (p q : Parts) → works ≡ replicate MOST_JOBS no_work
    → HasPlaced (replicate MOST_JOBS no_work) p → StaysPlaced p q → IsSamePool p q
    → ((worker_view p.jobs).put ≡ []) × (worker_index p.jobs ≡ 0)
    → (length works ≡ MOST_JOBS) × (0 ≡ length (jobs_in 0 works)) × HasPlaced works q × HasSubmitted works q
empty_pool works p q empty placed stays same fresh =
    let none : jobs_in 0 works ≡ [] = ap (jobs_in 0) empty ∙ no_jobs 0 MOST_JOBS in
    let index = same.2 in
    let first = fresh.1 in (
      ap length empty ∙ length-replicate MOST_JOBS no_work,
      sym (ap length none),
      stays works (subst (λ ws. HasPlaced ws p) (sym empty) placed),
      (same.1 ∙ fresh.0 ∙ sym none, omega arith),
    )
