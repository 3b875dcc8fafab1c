-- How an answer reaches its place.
use Rattle.std.proofs.Common.{◌≡◌, ◌≢◌, ◌⊎◌, inl, inr, ℕ, zero, suc, ◌+◌, ◌<◌, ◌≤◌, List, [], ◌∷◌, ◌++◌, length, map}
use Rattle.std.proofs.Common.{slice_get, Option, Some, None, set, get_or, sym, refl, subst, ap, ◌∙◌, arith, true, false}
use Rattle.std.proofs.Common.{true≢false, Bool}
use Rattle.std.specs.Option.{is_some, unwrap_or}
use Rattle.dv_script.specs.declared.work.Work.{Work}
use Rattle.dv_jobs.specs.declared.job.Job.{Job}
use Rattle.dv_jobs.specs.Jobs.{numbered, job_of, Answer}
use Rattle.dv_pool.specs.Rules.{weigh}
use Rattle.dv_pool.specs.Parts.{empty_place, no_work, passes, any, MayBeOf, MayStay, IsPlaced, ArePlaced, TakesIn}
use Rattle.dv_pool.specs.Parts.{Awaits, seen_by}

pub passes-other : (n : ℕ) (test : Work → Bool) (j : Job) → j.number ≢ n → passes n test j ≡ 0
passes-other n test j other = grind (arith, other)

pub passes-low : (n : ℕ) (test : Work → Bool) (j : Job) → passes n test j ≤ passes n any j
passes-low n test j = grind arith

pub passes-any : (n : ℕ) (j : Job) → j.number ≡ n → passes n any j ≡ 1
passes-any n j same = grind (arith, same)

passes-false : (n : ℕ) (test : Work → Bool) (j : Job) → test j.work ≡ false → passes n test j ≡ 0
passes-false n test j fails = grind (arith, fails)

-- a test that just this work passes weighs nothing of a job of another one
passes-another : (n : ℕ) (test : Work → Bool) (w : Work) (j : Job) → ((v : Work) → test v ≡ true → v ≡ w)
    → (j.work ≡ w → ⊥) → (b : Bool) → test j.work ≡ b → passes n test j ≡ 0
passes-another n test w j only other true is = absurd (other (only j.work is))
passes-another n test w j only other false is = passes-false n test j is

-- the number and the work make the job
the_job : (j : Job) (n : ℕ) (w : Work) → j.number ≡ n → j.work ≡ w → j ≡ numbered n w
the_job j n w number work = λ i. record { number = number i; work = work i }

abbrev Grows : ((Job → ℕ) → ℕ) → ((Job → ℕ) → ℕ) → Job → Type 0
Grows S S' j = (h : Job → ℕ) → S' h ≡ S h + h j

-- one more job does no harm to an answer that came before its job
early_more : (S S' : (Job → ℕ) → ℕ) (j : Job) → Grows S S' j → (n : ℕ) (a : Answer) → IsPlaced S n None (Some a)
    → IsPlaced S' n None (Some a)
early_more S S' j grows n a h = (
  h.0,
  (let y = grows (passes n any) in let z = h.1 in omega arith),
  λ test. let x = grows (passes n test) in let y = grows (passes n any) in let l = passes-low n test j in
      let z = h.2 test in omega arith,
)

-- nor to the place of a job, where it weighs nothing for its work
waits_more : (S S' : (Job → ℕ) → ℕ) (j : Job) → Grows S S' j → (n : ℕ) (w : Work)
    → ((test : Work → Bool) → ((v : Work) → test v ≡ true → v ≡ w) → passes n test j ≡ 0)
    → IsPlaced S n (Some w) None → IsPlaced S' n (Some w) None
waits_more S S' j grows n w none h test only = elim (h test only) [
  | inl z ↦ inl (let x = grows (passes n test) in let o = none test only in omega arith)
  | inr m ↦ inr (let y = grows (passes n any) in omega arith)
]

-- one more job does no harm to the place of another number
IsPlaced-other : (S S' : (Job → ℕ) → ℕ) (j : Job) → Grows S S' j → (n : ℕ) (w : Option Work) (p : Option Answer)
    → j.number ≢ n → IsPlaced S n w p → IsPlaced S' n w p
IsPlaced-other S S' j grows n None None other h =
    λ test. let e = grows (passes n test) in let z = passes-other n test j other in let z' = h test in omega arith
IsPlaced-other S S' j grows n None (Some a) other h = early_more S S' j grows n a h
IsPlaced-other S S' j grows n (Some w) None other h =
    waits_more S S' j grows n w (λ test only. passes-other n test j other) h
IsPlaced-other S S' j grows n (Some w) (Some a) other h = h

-- what an answer may be dropped for: there is one already, or it is of another work
abbrev IsDropped : Option Work → Option Answer → Job → Type 0
IsDropped None None j = ⊥
IsDropped (Some w) None j = j.work ≡ w → ⊥
IsDropped w (Some a) j = Unit {0}

IsPlaced-drop : (S S' : (Job → ℕ) → ℕ) (j : Job) → Grows S S' j → (n : ℕ) (w : Option Work) (p : Option Answer)
    → IsDropped w p j → IsPlaced S n w p → IsPlaced S' n w p
IsPlaced-drop S S' j grows n None None d h = absurd d
IsPlaced-drop S S' j grows n None (Some a) d h = early_more S S' j grows n a h
IsPlaced-drop S S' j grows n (Some w) None d h =
    waits_more S S' j grows n w (λ test only. passes-another n test w j only d (test j.work) refl) h
IsPlaced-drop S S' j grows n (Some w) (Some a) d h = h

IsPlaced-new : (S S' : (Job → ℕ) → ℕ) (a : Answer) → Grows S S' (job_of a) → (n : ℕ) (w : Option Work)
    → (job_of a).number ≡ n → MayBeOf w a → IsPlaced S n w None → IsPlaced S' n w (Some a)
IsPlaced-new S S' a grows n None same may none = (
  same,
  (let y = grows (passes n any) in let o = passes-any n (job_of a) same in omega arith),
  λ test.
      let x = grows (passes n test) in
      let y = grows (passes n any) in
      let o = passes-any n (job_of a) same in
      let z = none any in
      let z' = none test in
      omega arith,
)
IsPlaced-new S S' a grows n (Some w) same may none = the_job (job_of a) n w same may

ArePlaced-low : (S S' : (Job → ℕ) → ℕ) (j : Job) → Grows S S' j
    → (n : ℕ) (ws : List (Option Work)) (ps : List (Option Answer)) → j.number < n → ArePlaced S n ws ps
    → ArePlaced S' n ws ps
ArePlaced-low S S' j grows n [] [] low h = tt
ArePlaced-low S S' j grows n [] (p ∷ ps) low h = absurd h
ArePlaced-low S S' j grows n (w ∷ ws) [] low h = absurd h
ArePlaced-low S S' j grows n (w ∷ ws) (p ∷ ps) low h = (
  IsPlaced-other S S' j grows n w p (omega arith) h.0,
  ArePlaced-low S S' j grows (n + 1) ws ps (omega (arith, low)) h.1,
)

some_is : {X : Type 0} (x y : X) → Some x ≡ Some y → x ≡ y
some_is x y e = ap (λ o. unwrap_or o x) e

none_is : {X : Type 0} (x : X) → None ≡ Some x → ⊥
none_is x e = absurd (true≢false (sym (ap is_some e)))

ArePlaced-set : (S S' : (Job → ℕ) → ℕ) (a : Answer) → Grows S S' (job_of a)
    → (n : ℕ) (ws : List (Option Work)) (ps : List (Option Answer)) (k : ℕ) (w : Option Work)
    → slice_get ps k ≡ Some empty_place → slice_get ws k ≡ Some w → MayBeOf w a → (job_of a).number ≡ n + k
    → ArePlaced S n ws ps → ArePlaced S' n ws (set ps k (Some a))
ArePlaced-set S S' a grows n [] ps k w free there may is h = absurd (none_is w there)
ArePlaced-set S S' a grows n (v ∷ ws) [] k w free there may is h = absurd h
ArePlaced-set S S' a grows n (v ∷ ws) (p ∷ ps) zero w free there may is h =
    let none : IsPlaced S n w None =
    subst (λ o. IsPlaced S n w o) (some_is p None free) (subst (λ o. IsPlaced S n o p) (some_is v w there) h.0) in
    let new = IsPlaced-new S S' a grows n w (omega (arith, is)) may none in (
      subst (λ o. IsPlaced S' n o (Some a)) (sym (some_is v w there)) new,
      ArePlaced-low S S' (job_of a) grows (n + 1) ws ps (omega (arith, is)) h.1,
    )
ArePlaced-set S S' a grows n (v ∷ ws) (p ∷ ps) (suc k) w free there may is h = (
  IsPlaced-other S S' (job_of a) grows n v p (omega (arith, is)) h.0,
  ArePlaced-set S S' a grows (n + 1) ws ps k w free there may (omega (arith, is)) h.1,
)

ArePlaced-drop : (S S' : (Job → ℕ) → ℕ) (j : Job) → Grows S S' j
    → (n : ℕ) (ws : List (Option Work)) (ps : List (Option Answer)) (k : ℕ) (w : Option Work) (p : Option Answer)
    → slice_get ps k ≡ Some p → slice_get ws k ≡ Some w → IsDropped w p j → j.number ≡ n + k → ArePlaced S n ws ps
    → ArePlaced S' n ws ps
ArePlaced-drop S S' j grows n [] ps k w p here there d is h = absurd (none_is w there)
ArePlaced-drop S S' j grows n (v ∷ ws) [] k w p here there d is h = absurd h
ArePlaced-drop S S' j grows n (v ∷ ws) (q ∷ ps) zero w p here there d is h =
    let d' : IsDropped v q j =
    subst (λ o. IsDropped v o j) (sym (some_is q p here)) (subst (λ o. IsDropped o p j) (sym (some_is v w there)) d) in
    (IsPlaced-drop S S' j grows n v q d' h.0, ArePlaced-low S S' j grows (n + 1) ws ps (omega (arith, is)) h.1)
ArePlaced-drop S S' j grows n (v ∷ ws) (q ∷ ps) (suc k) w p here there d is h = (
  IsPlaced-other S S' j grows n v q (omega (arith, is)) h.0,
  ArePlaced-drop S S' j grows (n + 1) ws ps k w p here there d (omega (arith, is)) h.1,
)

ArePlaced-far : (S S' : (Job → ℕ) → ℕ) (j : Job) → Grows S S' j
    → (n : ℕ) (ws : List (Option Work)) (ps : List (Option Answer)) → n + length ps ≤ j.number → ArePlaced S n ws ps
    → ArePlaced S' n ws ps
ArePlaced-far S S' j grows n [] [] past h = tt
ArePlaced-far S S' j grows n [] (p ∷ ps) past h = absurd h
ArePlaced-far S S' j grows n (w ∷ ws) [] past h = absurd h
ArePlaced-far S S' j grows n (w ∷ ws) (p ∷ ps) past h = (
  IsPlaced-other S S' j grows n w p (omega (arith, past)) h.0,
  ArePlaced-far S S' j grows (n + 1) ws ps (omega (arith, past)) h.1,
)

pub same_length : (S : (Job → ℕ) → ℕ) (n : ℕ) (ws : List (Option Work)) (ps : List (Option Answer))
    → ArePlaced S n ws ps → length ws ≡ length ps
same_length S n [] [] h = refl
same_length S n [] (p ∷ ps) h = absurd h
same_length S n (w ∷ ws) [] h = absurd h
same_length S n (w ∷ ws) (p ∷ ps) h = ap suc (same_length S (n + 1) ws ps h.1)

-- what an index gives is at its place
pub at_place : {X : Type 0} (xs : List X) (k : ℕ) (x : X) → k < length xs → x ≡ get_or xs k x → slice_get xs k ≡ Some x
at_place [] k x low at = absurd (omega (arith, low))
at_place (y ∷ xs) zero x low at = ap Some (sym at)
at_place (y ∷ xs) (suc k) x low at = at_place xs k x (omega (arith, low)) at

-- an answer whose number has no place
pub far : (ws : List (Option Work)) (ps : List (Option Answer)) (a : Answer) (j : Job) → j ≡ job_of a
    → length ps ≤ j.number → TakesIn ws ps a ps
far ws ps a j e past seen more grows h =
    let m = ap (λ (x : Job). x.number) e in
    ArePlaced-far seen more (job_of a) grows 0 ws ps (omega arith) h

none_of : (p : Option Answer) → is_some p ≡ false → p ≡ empty_place
none_of None e = refl
none_of (Some a) e = absurd (true≢false e)

full_dropped : (w : Option Work) (p : Option Answer) (j : Job) → is_some p ≡ true → IsDropped w p j
full_dropped w None j e = absurd (true≢false (sym e))
full_dropped None (Some a) j e = tt
full_dropped (Some w) (Some a) j e = tt

other_dropped : (w : Option Work) (p : Option Answer) (a : Answer) → is_some p ≡ false → (MayBeOf w a → ⊥)
    → IsDropped w p (job_of a)
other_dropped w (Some b) a e other = absurd (true≢false e)
other_dropped None None a e other = absurd (other tt)
other_dropped (Some w) None a e other = other

-- the first answer of a number that may be of its work
pub stored : (ws : List (Option Work)) (ps : List (Option Answer)) (a : Answer) (j : Job) (p : Option Answer)
    (w : Option Work) → length ws ≡ length ps → j ≡ job_of a → j.number < length ps
    → p ≡ get_or ps j.number p → is_some p ≡ false → w ≡ get_or ws j.number w → MayBeOf w a
    → TakesIn ws ps a (set ps j.number (Some a))
stored ws ps a j p w len e low at free there may seen more grows h =
    let m = ap (λ (x : Job). x.number) e in
    ArePlaced-set seen more a grows 0 ws ps j.number w (at_place ps j.number p low at ∙ ap Some (none_of p free))
    (at_place ws j.number w (omega (arith, len, low)) there) may (omega arith) h

at_number : {X : Type 0} (xs : List X) (k : ℕ) → k < length xs → (x : X) × (slice_get xs k ≡ Some x)
at_number [] k low = absurd (omega (arith, low))
at_number (x ∷ xs) zero low = (x, refl)
at_number (x ∷ xs) (suc k) low = at_number xs k (omega (arith, low))

-- a further answer of a number
pub full : (ws : List (Option Work)) (ps : List (Option Answer)) (a : Answer) (j : Job) (p : Option Answer)
    → length ws ≡ length ps → j ≡ job_of a → j.number < length ps
    → p ≡ get_or ps j.number p → is_some p ≡ true → TakesIn ws ps a ps
full ws ps a j p len e low at some_there seen more grows h =
    let m = ap (λ (x : Job). x.number) e in
    let w = at_number ws j.number (omega (arith, len, low)) in
    ArePlaced-drop seen more (job_of a) grows 0 ws ps j.number w.0 p (at_place ps j.number p low at) w.1
    (full_dropped w.0 p (job_of a) some_there) (omega arith) h

-- an answer of another work
pub another : (ws : List (Option Work)) (ps : List (Option Answer)) (a : Answer) (j : Job) (p : Option Answer)
    (w : Option Work) → length ws ≡ length ps → j ≡ job_of a → j.number < length ps
    → p ≡ get_or ps j.number p → is_some p ≡ false → w ≡ get_or ws j.number w → (MayBeOf w a → ⊥) → TakesIn ws ps a ps
another ws ps a j p w len e low at free there other seen more grows h =
    let m = ap (λ (x : Job). x.number) e in
    ArePlaced-drop seen more (job_of a) grows 0 ws ps j.number w p (at_place ps j.number p low at)
    (at_place ws j.number w (omega (arith, len, low)) there) (other_dropped w p a free other) (omega arith) h

-- ---- a number gets its job

zero_or_more : (x y : ℕ) → x + 1 ≤ y → (x ≡ 0) ⊎ (1 < y)
zero_or_more zero y low = inl refl
zero_or_more (suc x) y low = inr (omega (arith, low))

IsPlaced-fine : (S : (Job → ℕ) → ℕ) (n : ℕ) (w : Work) (p : Option Answer) → MayStay p w → IsPlaced S n None p
    → IsPlaced S n (Some w) p
IsPlaced-fine S n w None fine h = λ test only. inl (h test)
IsPlaced-fine S n w (Some a) fine h = the_job (job_of a) n w h.0 fine

IsPlaced-cleared : (S : (Job → ℕ) → ℕ) (n : ℕ) (w : Work) (p : Option Answer) → (MayStay p w → ⊥) → IsPlaced S n None p
    → IsPlaced S n (Some w) None
IsPlaced-cleared S n w None other h = absurd (other tt)
IsPlaced-cleared S n w (Some a) other h = λ test only.
    let z = passes-another n test w (job_of a) only other (test (job_of a).work) refl in
    let b = h.2 test in
    zero_or_more (S (passes n test)) (S (passes n any)) (omega arith)

ArePlaced-fine : (S : (Job → ℕ) → ℕ) (n : ℕ) (ws : List (Option Work)) (ps : List (Option Answer)) (k : ℕ) (w : Work)
    (p : Option Answer) → slice_get ps k ≡ Some p → MayStay p w
    → slice_get ws k ≡ Some no_work → ArePlaced S n ws ps → ArePlaced S n (set ws k (Some w)) ps
ArePlaced-fine S n [] ps k w p here fine none h = absurd (none_is no_work none)
ArePlaced-fine S n (v ∷ ws) [] k w p here fine none h = absurd h
ArePlaced-fine S n (v ∷ ws) (q ∷ ps) zero w p here fine none h =
    let free : IsPlaced S n None q = subst (λ o. IsPlaced S n o q) (some_is v None none) h.0 in
    (IsPlaced-fine S n w q (subst (λ o. MayStay o w) (sym (some_is q p here)) fine) free, h.1)
ArePlaced-fine S n (v ∷ ws) (q ∷ ps) (suc k) w p here fine none h =
    (h.0, ArePlaced-fine S (n + 1) ws ps k w p here fine none h.1)

ArePlaced-cleared : (S : (Job → ℕ) → ℕ) (n : ℕ) (ws : List (Option Work)) (ps : List (Option Answer)) (k : ℕ) (w : Work)
    (p : Option Answer) → slice_get ps k ≡ Some p → (MayStay p w → ⊥)
    → slice_get ws k ≡ Some no_work → ArePlaced S n ws ps → ArePlaced S n (set ws k (Some w)) (set ps k None)
ArePlaced-cleared S n [] ps k w p here other none h = absurd (none_is no_work none)
ArePlaced-cleared S n (v ∷ ws) [] k w p here other none h = absurd h
ArePlaced-cleared S n (v ∷ ws) (q ∷ ps) zero w p here other none h =
    let free : IsPlaced S n None q = subst (λ o. IsPlaced S n o q) (some_is v None none) h.0 in
    (IsPlaced-cleared S n w q (subst (λ o. (MayStay o w → ⊥)) (sym (some_is q p here)) other) free, h.1)
ArePlaced-cleared S n (v ∷ ws) (q ∷ ps) (suc k) w p here other none h =
    (h.0, ArePlaced-cleared S (n + 1) ws ps k w p here other none h.1)

-- what may stay does
pub stays : (ps : List (Option Answer)) (k : ℕ) (w : Work) (p : Option Answer) → k < length ps → p ≡ get_or ps k p
    → MayStay p w → Awaits ps k w ps
stays ps k w p low at may seen works none h = ArePlaced-fine seen 0 works ps k w p (at_place ps k p low at) may none h

-- what may not is ignored
pub cleared : (ps : List (Option Answer)) (k : ℕ) (w : Work) (p : Option Answer) → k < length ps → p ≡ get_or ps k p
    → (MayStay p w → ⊥) → Awaits ps k w (set ps k None)
cleared ps k w p low at other seen works none h =
    ArePlaced-cleared seen 0 works ps k w p (at_place ps k p low at) other none h

-- ---- steps of the owner

weigh-map : (h : Job → ℕ) (xs : List Answer) (a : Answer)
    → weigh h (map job_of (xs ++ a ∷ [])) ≡ weigh h (map job_of xs) + h (job_of a)
weigh-map h [] a = omega arith
weigh-map h (x ∷ xs) a = omega (arith, weigh-map h xs a)

-- one more answer was taken from the queue
pub collected : (ws : List (Option Work)) (old new : List (Option Answer)) (a : Answer) (taken taken' : List Answer)
    (helped : List Job) → TakesIn ws old a new → taken' ≡ taken ++ a ∷ []
    → ArePlaced (seen_by taken helped) 0 ws old → ArePlaced (seen_by taken' helped) 0 ws new
collected ws old new a taken taken' helped in_ more h =
    in_ (seen_by taken helped) (seen_by taken' helped) (λ w. rw more (omega (arith, weigh-map w taken a))) h

-- the owner answered one more
pub answered : (ws : List (Option Work)) (old new : List (Option Answer)) (a : Answer) (taken : List Answer)
    (helped : List Job) → TakesIn ws old a new
    → ArePlaced (seen_by taken helped) 0 ws old → ArePlaced (seen_by taken (job_of a ∷ helped)) 0 ws new
answered ws old new a taken helped in_ h =
    in_ (seen_by taken helped) (seen_by taken (job_of a ∷ helped)) (λ w. omega arith) h
