-- Jobs in a row, and what answers them.
use Rattle.std.proofs.Common.{◌≡◌, ℕ, zero, suc, ◌+◌, ◌<◌, ◌≤◌, nat_eq, true, false, true≢false, List, [], ◌∷◌, ◌++◌}
use Rattle.std.proofs.Common.{length, map, get_or, slice_get, is_some, Some, None, Result, Ok, Err, IfOk, refl, ap, sym}
use Rattle.std.proofs.Common.{◌∙◌, arith, length-append}
use Rattle.std.proofs.lemmas.Bool.Decides.{nat_tests}
use Rattle.std.specs.declared.alloc.AllocError.{AllocError}
use Rattle.dv_script.specs.declared.work.Work.{Work}
use Rattle.dv_value.specs.declared.value.Value.{Value}
use Rattle.dv_script.specs.declared.work.TheConstants.{MOST_JOBS}
use Rattle.dv_jobs.specs.declared.job.Job.{Job}
use Rattle.dv_jobs.specs.Works.{value_of}
use Rattle.dv_jobs.specs.Jobs.{numbered, jobs_from, works_of, Answer, job_of}
use Rattle.dv_jobs.specs.Sources.{AreInRow, work_under, IsSubmitted, IsValueUnder}

pub jobs_from-snoc : (n : ℕ) (ws : List Work) (w : Work)
    → jobs_from n (ws ++ w ∷ []) ≡ jobs_from n ws ++ numbered (n + length ws) w ∷ []
jobs_from-snoc n [] w = let e : n + 0 ≡ n = omega arith in rw e refl
jobs_from-snoc n (x ∷ xs) w =
    let e : n + suc (length xs) ≡ (n + 1) + length xs = omega arith in
    rw e (ap (λ l. numbered n x ∷ l) (jobs_from-snoc (n + 1) xs w))

pub works_of-jobs_from : (n : ℕ) (ws : List Work) → works_of (jobs_from n ws) ≡ ws
works_of-jobs_from n [] = refl
works_of-jobs_from n (w ∷ ws) = ap (λ l. w ∷ l) (works_of-jobs_from (n + 1) ws)

pub length-works : (js : List Job) → length (works_of js) ≡ length js
length-works [] = refl
length-works (j ∷ js) = ap suc (length-works js)

pub length-jobs : (n : ℕ) (ws : List Work) → length (jobs_from n ws) ≡ length ws
length-jobs n [] = refl
length-jobs n (w ∷ ws) = ap suc (length-jobs (n + 1) ws)

works-snoc : (js : List Job) (j : Job) → works_of (js ++ j ∷ []) ≡ works_of js ++ j.work ∷ []
works-snoc [] j = refl
works-snoc (x ∷ xs) j = ap (λ l. x.work ∷ l) (works-snoc xs j)

-- jobs in a row stay so with the next one
pub row-snoc : (js : List Job) (w : Work) → AreInRow js → AreInRow (js ++ numbered (length js) w ∷ [])
row-snoc js w row =
    let len : 0 + length (works_of js) ≡ length js = omega (arith, length-works js) in
    ap (λ l. l ++ numbered (length js) w ∷ []) row ∙ ap (λ n. jobs_from 0 (works_of js) ++ numbered n w ∷ []) (sym len)
    ∙ sym (jobs_from-snoc 0 (works_of js) w)
    ∙ ap (jobs_from 0) (sym (works-snoc js (numbered (length js) w)))

map-snoc : (all : List Answer) (a : Answer) → map job_of (all ++ a ∷ []) ≡ map job_of all ++ job_of a ∷ []
map-snoc [] a = refl
map-snoc (x ∷ xs) a = ap (λ l. job_of x ∷ l) (map-snoc xs a)

length-map : (all : List Answer) → length (map job_of all) ≡ length all
length-map [] = refl
length-map (x ∷ xs) = ap suc (length-map xs)

-- one more answer, of the job that is next
pub one_more : (old new : List Answer) (a : Answer) (n : ℕ) (w : Work) → new ≡ old ++ a ∷ [] → job_of a ≡ numbered n w
    → n ≡ length old
    → map job_of new ≡ map job_of old ++ numbered (length (map job_of old)) w ∷ []
one_more old new a n w grown is number =
    ap (map job_of) grown ∙ map-snoc old a ∙ ap (λ j. map job_of old ++ j ∷ []) is
    ∙ ap (λ k. map job_of old ++ numbered k w ∷ []) (number ∙ sym (length-map old))

-- answers that are numbered in a row stay so with that of the next job
pub one_more_in_row : (old new : List Answer) (w : Work) → AreInRow (map job_of old)
    → map job_of new ≡ map job_of old ++ numbered (length (map job_of old)) w ∷ [] → AreInRow (map job_of new)
one_more_in_row old new w row grown = rw grown (row-snoc (map job_of old) w row)

none_some : {X : Type 0} (x : X) → None ≡ Some x → ⊥
none_some x e = absurd (true≢false (sym (ap is_some e)))

-- in a row a job's place is its number
pub under_row : (n k : ℕ) (ws : List Work) → work_under (n + k) (jobs_from n ws) ≡ slice_get ws k
under_row n k [] = refl
under_row n zero (w ∷ ws) = let same : nat_eq n (n + 0) ≡ true = grind (arith, nat_tests) in rw same refl
under_row n (suc k) (w ∷ ws) =
    let other : nat_eq n (n + suc k) ≡ false = grind (arith, nat_tests) in
    let e : n + suc k ≡ (n + 1) + k = omega arith in
    rw other (ap (λ m. work_under m (jobs_from (n + 1) ws)) e ∙ under_row (n + 1) k ws)

some_low : (k : ℕ) (ws : List Work) (w : Work) → slice_get ws k ≡ Some w → k < length ws
some_low k [] w e = absurd (none_some w e)
some_low zero (x ∷ ws) w e = omega arith
some_low (suc k) (x ∷ ws) w e = let low = some_low k ws w e in omega arith

-- in a row a work stands at the place of its number
pub at_row : (js : List Job) (k : ℕ) → AreInRow js → work_under k js ≡ slice_get (works_of js) k
at_row js k row =
    let zero_add : k ≡ 0 + k = omega arith in
    ap (work_under k) row ∙ ap (λ m. work_under m (jobs_from 0 (works_of js))) zero_add ∙ under_row 0 k (works_of js)

-- what was submitted in a row has a number below their count
pub known_row : (js : List Job) (k : ℕ) → AreInRow js → IsSubmitted k js → k < length js
known_row js k row known =
    let low = some_low k (works_of js) known.0 (sym (at_row js k row) ∙ known.1) in
    omega (arith, length-works js, low)

-- a place of a list of answers holds the work of its answer
work_at : (all : List Answer) (a : Answer) (k : ℕ) → k < length all → a ≡ get_or all k a
    → slice_get (works_of (map job_of all)) k ≡ Some (job_of a).work
work_at [] a k low at = absurd (omega (arith, low))
work_at (x ∷ xs) a zero low at = ap (λ y. Some (job_of y).work) (sym at)
work_at (x ∷ xs) a (suc k) low at = work_at xs a k (omega (arith, low)) at

-- a number of so many answers is that of one
pub low_known : (js : List Job) (all : List Answer) (k : ℕ) → js ≡ map job_of all → AreInRow (map job_of all)
    → IsSubmitted k js → k < length all
low_known js all k seen row known =
    let same : IsSubmitted k (map job_of all) = (known.0, ap (work_under k) (sym seen) ∙ known.1) in
    omega (arith, length-map all, known_row (map job_of all) k row same)

-- the value that an answer's work has is that of the work under its number
pub value_at : (js : List Job) (all : List Answer) (a : Answer) (k : ℕ) (r : Result Value AllocError)
    → js ≡ map job_of all → AreInRow (map job_of all) → k < length all
    → a ≡ get_or all k a → IfOk r (λ value. value ≡ value_of (job_of a).work) → IfOk r (IsValueUnder k js)
value_at js all a k (Ok value) seen row low at is =
    ((job_of a).work, ap (work_under k) seen ∙ at_row (map job_of all) k row ∙ work_at all a k low at, is)
value_at js all a k (Err e) seen row low at is = tt

-- one more answer still is one of those that may be
pub room_for_one : (old new : List Answer) (a : Answer) → length (map job_of old) < MOST_JOBS → new ≡ old ++ a ∷ []
    → length new ≤ MOST_JOBS
room_for_one old new a low grown = omega (arith, length-map old, ap length grown, length-append old (a ∷ []), low)
