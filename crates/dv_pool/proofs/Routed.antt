-- Which pool has the job of which number.
use Rattle.std.proofs.Common.{◌≡◌, ℕ, zero, suc, ◌+◌, ◌<◌, ◌≤◌, nat_eq, Bool, true, false, true≢false, if◌then◌else◌}
use Rattle.std.proofs.Common.{◌||◌, replicate, get_or, slice_get, set, drop, nat_lt, is_some, Some, None, Result, Ok}
use Rattle.std.proofs.Common.{Err, IfOk, List, [], ◌∷◌, ◌++◌, length, map, refl, ap, sym, subst, ◌∙◌, arith, append-nil}
use Rattle.std.proofs.Common.{length-append, length-set}
use Rattle.std.proofs.lemmas.List.{length-replicate}
use Rattle.std.proofs.lemmas.Bool.Decides.{nat_tests}
use Rattle.std.specs.Option.{unwrap_or}
use Rattle.std.specs.declared.alloc.AllocError.{AllocError}
use Rattle.dv_script.specs.declared.work.TheConstants.{MOST_JOBS}
use Rattle.dv_script.specs.declared.work.Work.{Work}
use Rattle.dv_value.specs.declared.value.Value.{Value}
use Rattle.dv_jobs.specs.declared.error.JobFault.TheVariants.{Full}
use Rattle.dv_jobs.specs.declared.job.Done.{Done}
use Rattle.dv_jobs.specs.declared.job.Job.{Job}
use Rattle.dv_jobs.specs.Jobs.{numbered, jobs_from}
use Rattle.dv_jobs.specs.Sources.{Source, room_after, work_under, IsSubmitted, IsValueUnder, jobs_of}
use Rattle.dv_jobs.proofs.JobLemmas.{under_row, length-jobs, jobs_from-snoc}
use Rattle.dv_pool.specs.Parts.{AreBelow}
use Rattle.dv_pool.specs.Routes.{routed, HaveRouted, LeadBelow, AreRouted, has_failed, AreDone}

none_some : {X : Type 0} (x : X) → None ≡ Some x → ⊥
none_some x e = absurd (true≢false (sym (ap is_some e)))

some_some : {X : Type 0} (x y : X) → Some x ≡ Some y → x ≡ y
some_some x y e = ap (λ o. unwrap_or o x) e

next : (n k : ℕ) → n + suc k ≡ (n + 1) + k
next n k = omega arith

-- ---- numbers

one_below : (n : ℕ) (b : Bool) (n' : ℕ) (w : Work) (js : List Job) → n < n' → AreBelow n' js
    → AreBelow n' (if b then numbered n w ∷ js else js)
one_below n true n' w js low h = (low, h)
one_below n false n' w js low h = h

-- the jobs of a pool have numbers below the count of all works
pub routed_below : (p n : ℕ) (rs : List ℕ) (ws : List Work) → AreBelow (n + length ws) (routed p n rs ws)
routed_below p n [] ws = tt
routed_below p n (r ∷ rs) [] = tt
routed_below p n (r ∷ rs) (w ∷ ws) =
    one_below n (nat_eq r p) (n + suc (length ws)) w (routed p (n + 1) rs ws) (omega arith)
    (subst (λ m. AreBelow m (routed p (n + 1) rs ws)) (sym (next n (length ws))) (routed_below p (n + 1) rs ws))

one_longer : (b : Bool) (j : Job) (js : List Job) (m : ℕ) → length js ≤ m → length (if b then j ∷ js else js) ≤ suc m
one_longer true j js m low = omega (arith, low)
one_longer false j js m low = omega (arith, low)

-- and are no more than these
pub length-routed : (p n : ℕ) (rs : List ℕ) (ws : List Work) → length (routed p n rs ws) ≤ length ws
length-routed p n [] ws = omega arith
length-routed p n (r ∷ rs) [] = omega arith
length-routed p n (r ∷ rs) (w ∷ ws) =
    one_longer (nat_eq r p) (numbered n w) (routed p (n + 1) rs ws) (length ws) (length-routed p (n + 1) rs ws)

-- ---- one more job

chosen_snoc : (b : Bool) (j : Job) (js ks : List Job) (tail : List Job) → js ≡ ks ++ tail
    → (if b then j ∷ js else js) ≡ (if b then j ∷ ks else ks) ++ tail
chosen_snoc true j js ks tail e = ap (λ l. j ∷ l) e
chosen_snoc false j js ks tail e = e

-- its pool has it last
pub routed_here : (p n : ℕ) (rs : List ℕ) (ws : List Work) (w : Work) → length rs ≡ length ws
    → routed p n (rs ++ p ∷ []) (ws ++ w ∷ []) ≡ routed p n rs ws ++ numbered (n + length ws) w ∷ []
routed_here p n [] [] w e =
    let same : nat_eq p p ≡ true = grind (arith, nat_tests) in
    let z : n ≡ n + 0 = omega arith in
    rw same (ap (λ m. numbered m w ∷ []) z)
routed_here p n [] (v ∷ ws) w e = absurd (omega (arith, e))
routed_here p n (r ∷ rs) [] w e = absurd (omega (arith, e))
routed_here p n (r ∷ rs) (v ∷ ws) w e =
    chosen_snoc (nat_eq r p) (numbered n v) _ (routed p (n + 1) rs ws) _ (routed_here p (n + 1) rs ws w
    (omega (arith, e)) ∙ ap (λ m. routed p (n + 1) rs ws ++ numbered m w ∷ []) (sym (next n (length ws))))

chosen_same : (b : Bool) (j : Job) (js ks : List Job) → js ≡ ks
    → (if b then j ∷ js else js) ≡ (if b then j ∷ ks else ks)
chosen_same true j js ks e = ap (λ l. j ∷ l) e
chosen_same false j js ks e = e

-- and every other one what it had
pub routed_elsewhere : (p q n : ℕ) (rs : List ℕ) (ws : List Work) (w : Work) → nat_eq q p ≡ false
    → length rs ≡ length ws → routed p n (rs ++ q ∷ []) (ws ++ w ∷ []) ≡ routed p n rs ws
routed_elsewhere p q n [] [] w other e = rw other refl
routed_elsewhere p q n [] (v ∷ ws) w other e = absurd (omega (arith, e))
routed_elsewhere p q n (r ∷ rs) [] w other e = absurd (omega (arith, e))
routed_elsewhere p q n (r ∷ rs) (v ∷ ws) w other e =
    chosen_same (nat_eq r p) (numbered n v) _ (routed p (n + 1) rs ws)
    (routed_elsewhere p q (n + 1) rs ws w other (omega (arith, e)))

-- the jobs of a pool
pub jobs_at : (p k : ℕ) (rs : List ℕ) (ws : List Work) (pools : List Source) (pool : Source) → HaveRouted p rs ws pools
    → slice_get pools k ≡ Some pool → pool.jobs ≡ routed (p + k) 0 rs ws
jobs_at p k rs ws [] pool h e = absurd (none_some pool e)
jobs_at p zero rs ws (q ∷ pools) pool h e =
    let z : p ≡ p + 0 = omega arith in
    ap (λ (s : Source). s.jobs) (sym (some_some q pool e)) ∙ h.0 ∙ ap (λ m. routed m 0 rs ws) z
jobs_at p (suc k) rs ws (q ∷ pools) pool h e =
    jobs_at (p + 1) k rs ws pools pool h.1 e ∙ ap (λ m. routed m 0 rs ws) (sym (next p k))

-- pools beyond q have what they had, where one more goes to q
beyond : (q p : ℕ) (rs : List ℕ) (ws : List Work) (w : Work) (pools : List Source) → q < p → length rs ≡ length ws
    → HaveRouted p rs ws pools → HaveRouted p (rs ++ q ∷ []) (ws ++ w ∷ []) pools
beyond q p rs ws w [] low e h = tt
beyond q p rs ws w (s ∷ pools) low e h =
    let other : nat_eq q p ≡ false = grind (arith, nat_tests, low) in
    (h.0 ∙ sym (routed_elsewhere p q 0 rs ws w other e), beyond q (p + 1) rs ws w pools (omega (arith, low)) e h.1)

-- one more goes to the pool in this place
pub one_more_routed : (p k : ℕ) (rs : List ℕ) (ws : List Work) (w : Work) (pools : List Source) (new : Source)
    → length rs ≡ length ws → HaveRouted p rs ws pools
    → new.jobs ≡ routed (p + k) 0 rs ws ++ numbered (length ws) w ∷ []
    → HaveRouted p (rs ++ (p + k) ∷ []) (ws ++ w ∷ []) (set pools k new)
one_more_routed p k rs ws w [] new e h grown = tt
one_more_routed p zero rs ws w (s ∷ pools) new e h grown =
    let z : p + 0 ≡ p = omega arith in
    let l : length ws ≡ 0 + length ws = omega arith in
    rw z (
      (rw z at grown) ∙ ap (λ m. routed p 0 rs ws ++ numbered m w ∷ []) l ∙ sym (routed_here p 0 rs ws w e),
      beyond p (p + 1) rs ws w pools (omega arith) e h.1,
    )
one_more_routed p (suc k) rs ws w (s ∷ pools) new e h grown =
    let other : nat_eq (p + suc k) p ≡ false = grind (arith, nat_tests) in
    let rest = one_more_routed (p + 1) k rs ws w pools new e h.1
    (subst (λ m. new.jobs ≡ routed m 0 rs ws ++ numbered (length ws) w ∷ []) (next p k) grown) in (
      h.0 ∙ sym (routed_elsewhere p (p + suc k) 0 rs ws w other e),
      subst (λ m. HaveRouted (p + 1) (rs ++ m ∷ []) (ws ++ w ∷ []) (set pools k new)) (sym (next p k)) rest,
    )

-- a pool that changed has the jobs that it had
pub same_routed : (p k : ℕ) (rs : List ℕ) (ws : List Work) (pools : List Source) (old new : Source)
    → HaveRouted p rs ws pools → slice_get pools k ≡ Some old → new.jobs ≡ old.jobs
    → HaveRouted p rs ws (set pools k new)
same_routed p k rs ws [] old new h e same = tt
same_routed p zero rs ws (s ∷ pools) old new h e same =
    (same ∙ ap (λ (x : Source). x.jobs) (sym (some_some s old e)) ∙ h.0, h.1)
same_routed p (suc k) rs ws (s ∷ pools) old new h e same = (h.0, same_routed (p + 1) k rs ws pools old new h.1 e same)

-- ---- what is under a number

chosen_low : (b : Bool) (n m : ℕ) (w : Work) (js : List Job) → m < n → work_under m js ≡ None
    → work_under m (if b then numbered n w ∷ js else js) ≡ None
chosen_low true n m w js low rest =
    let other : nat_eq n m ≡ false = grind (arith, nat_tests, low) in
    rw other rest
chosen_low false n m w js low rest = rest

under_low : (p n m : ℕ) (rs : List ℕ) (ws : List Work) → m < n → work_under m (routed p n rs ws) ≡ None
under_low p n m [] ws low = refl
under_low p n m (r ∷ rs) [] low = refl
under_low p n m (r ∷ rs) (w ∷ ws) low =
    chosen_low (nat_eq r p) n m w (routed p (n + 1) rs ws) low (under_low p (n + 1) m rs ws (omega (arith, low)))

chosen_later : (b : Bool) (n i : ℕ) (v w : Work) (js : List Job) → work_under (n + suc i) js ≡ Some w
    → work_under (n + suc i) (if b then numbered n v ∷ js else js) ≡ Some w
chosen_later true n i v w js rest =
    let other : nat_eq n (n + suc i) ≡ false = grind (arith, nat_tests) in
    rw other rest
chosen_later false n i v w js rest = rest

-- the work of a number is under it in the pool of its route
pub under_route : (p n i : ℕ) (rs : List ℕ) (ws : List Work) (w : Work) → slice_get rs i ≡ Some p
    → slice_get ws i ≡ Some w → work_under (n + i) (routed p n rs ws) ≡ Some w
under_route p n i [] ws w e f = absurd (none_some p e)
under_route p n i (r ∷ rs) [] w e f = absurd (none_some w f)
under_route p n zero (r ∷ rs) (v ∷ ws) w e f =
    let here : nat_eq r p ≡ true = rw (some_some r p e) (grind (arith, nat_tests)) in
    let same : nat_eq n (n + 0) ≡ true = grind (arith, nat_tests) in
    rw (here, same) f
under_route p n (suc i) (r ∷ rs) (v ∷ ws) w e f =
    chosen_later (nat_eq r p) n i v w (routed p (n + 1) rs ws)
    (ap (λ m. work_under m (routed p (n + 1) rs ws)) (next n i) ∙ under_route p (n + 1) i rs ws w e f)

-- ---- closing

chosen_done : (r p n : ℕ) (w : Work) (js : List Job) (b : Bool) → nat_eq r p ≡ b → b ≡ false
    → (if nat_eq r p then numbered n w ∷ js else js) ≡ js
chosen_done r p n w js b e f = rw (e ∙ f) refl

-- pools beyond the route of the next number have done nothing of it
done_beyond : (p n r : ℕ) (rs : List ℕ) (w : Work) (ws : List Work) (dones : List (List Done)) → r < p
    → AreDone p n (r ∷ rs) (w ∷ ws) dones → AreDone p (n + 1) rs ws dones
done_beyond p n r rs w ws [] low h = tt
done_beyond p n r rs w ws (d ∷ dones) low h =
    let other : nat_eq r p ≡ false = grind (arith, nat_tests, low) in (
      h.0 ∙ chosen_done r p n w (routed p (n + 1) rs ws) (nat_eq r p) refl other,
      done_beyond (p + 1) n r rs w ws dones (omega (arith, low)) h.1,
    )

-- the next number is in front of what its pool has done
pub next_done : (p k n : ℕ) (rs : List ℕ) (w : Work) (ws : List Work) (dones : List (List Done)) (d : List Done)
    → AreDone p n ((p + k) ∷ rs) (w ∷ ws) dones → slice_get dones k ≡ Some d
    → jobs_of d ≡ numbered n w ∷ routed (p + k) (n + 1) rs ws
next_done p k n rs w ws [] d h e = absurd (none_some d e)
next_done p zero n rs w ws (c ∷ dones) d h e =
    let z : p + 0 ≡ p = omega arith in
    let same : nat_eq (p + 0) p ≡ true = grind (arith, nat_tests) in
    ap jobs_of (sym (some_some c d e)) ∙ h.0 ∙ rw same (ap (λ m. numbered n w ∷ routed m (n + 1) rs ws) (sym z))
next_done p (suc k) n rs w ws (c ∷ dones) d h e =
    subst (λ m. jobs_of d ≡ numbered n w ∷ routed m (n + 1) rs ws) (sym (next p k))
    (next_done (p + 1) k n rs w ws dones d (subst (λ m. AreDone (p + 1) n (m ∷ rs) (w ∷ ws) dones) (next p k) h.1) e)

-- and the rest stays, where that is taken
pub rest_done : (p k n : ℕ) (rs : List ℕ) (w : Work) (ws : List Work) (dones : List (List Done)) (d : List Done)
    → AreDone p n ((p + k) ∷ rs) (w ∷ ws) dones
    → jobs_of d ≡ routed (p + k) (n + 1) rs ws → AreDone p (n + 1) rs ws (set dones k d)
rest_done p k n rs w ws [] d h e = tt
rest_done p zero n rs w ws (c ∷ dones) d h e =
    let z : p + 0 ≡ p = omega arith in
    (e ∙ ap (λ m. routed m (n + 1) rs ws) z, done_beyond (p + 1) n (p + 0) rs w ws dones (omega arith) h.1)
rest_done p (suc k) n rs w ws (c ∷ dones) d h e =
    let other : nat_eq (p + suc k) p ≡ false = grind (arith, nat_tests) in (
      h.0 ∙ chosen_done (p + suc k) p n w (routed p (n + 1) rs ws) (nat_eq (p + suc k) p) refl other,
      rest_done (p + 1) k n rs w ws dones d (subst (λ m. AreDone (p + 1) n (m ∷ rs) (w ∷ ws) dones) (next p k) h.1)
          (subst (λ m. jobs_of d ≡ routed m (n + 1) rs ws) (next p k) e),
    )

-- what the pools have done is what was routed to them
pub all_done : (p : ℕ) (rs : List ℕ) (ws : List Work) (pools : List Source) (dones : List (List Done))
    → HaveRouted p rs ws pools → map jobs_of dones ≡ map (λ (s : Source). s.jobs) pools → AreDone p 0 rs ws dones
all_done p rs ws [] [] h e = tt
all_done p rs ws (s ∷ pools) [] h e = absurd (omega (arith, ap length e))
all_done p rs ws [] (d ∷ dones) h e = absurd (omega (arith, ap length e))
all_done p rs ws (s ∷ pools) (d ∷ dones) h e = (
  ap (λ l. unwrap_or (slice_get l 0) (jobs_of d)) e ∙ h.0,
  all_done (p + 1) rs ws pools dones h.1 (ap (λ l. drop 1 l) e),
)

-- ---- which have failed

or_left : (a b : Bool) → (a || b) ≡ false → a ≡ false
or_left true b h = h
or_left false b h = refl

or_right : (a b : Bool) → (a || b) ≡ false → b ≡ false
or_right true b h = absurd (true≢false h)
or_right false b h = h

-- where none has failed, the pool in this place hasn't
pub none_failed : (pools : List Source) (k : ℕ) (pool : Source) → has_failed pools ≡ false
    → slice_get pools k ≡ Some pool → pool.failed ≡ false
none_failed [] k pool h e = absurd (none_some pool e)
none_failed (s ∷ pools) zero pool h e =
    ap (λ (x : Source). x.failed) (sym (some_some s pool e)) ∙ or_left s.failed (has_failed pools) h
none_failed (s ∷ pools) (suc k) pool h e = none_failed pools k pool (or_right s.failed (has_failed pools) h) e

-- where a pool that changed has failed or not as before, so have they all
pub same_failed : (pools : List Source) (k : ℕ) (old new : Source) → slice_get pools k ≡ Some old
    → new.failed ≡ old.failed → has_failed (set pools k new) ≡ has_failed pools
same_failed [] k old new e same = refl
same_failed (s ∷ pools) zero old new e same =
    ap (λ b. b || has_failed pools) (same ∙ ap (λ (x : Source). x.failed) (sym (some_some s old e)))
same_failed (s ∷ pools) (suc k) old new e same = ap (λ b. s.failed || b) (same_failed pools k old new e same)

-- ---- what is at a place

pub get_there : {X : Type 0} (xs : List X) (k : ℕ) (x : X) → k < length xs → x ≡ get_or xs k x → slice_get xs k ≡ Some x
get_there [] k x low at = absurd (omega (arith, low))
get_there (y ∷ ys) zero x low at = ap Some (sym at)
get_there (y ∷ ys) (suc k) x low at = get_there ys k x (omega (arith, low)) at

pub number_there : (ns : List ℕ) (k : ℕ) → k < length ns → slice_get ns k ≡ Some (get_or ns k 0)
number_there [] k low = absurd (omega (arith, low))
number_there (n ∷ ns) zero low = refl
number_there (n ∷ ns) (suc k) low = number_there ns k (omega (arith, low))

pub some_low : {X : Type 0} (xs : List X) (k : ℕ) (x : X) → slice_get xs k ≡ Some x → k < length xs
some_low [] k x e = absurd (none_some x e)
some_low (y ∷ ys) zero x e = omega arith
some_low (y ∷ ys) (suc k) x e = let low = some_low ys k x e in omega arith

-- a route leads to a pool
pub leads_at : (n i r : ℕ) (rs : List ℕ) → LeadBelow n rs → slice_get rs i ≡ Some r → r < n
leads_at n i r [] h e = absurd (none_some r e)
leads_at n zero r (x ∷ rs) h e = subst (λ m. m < n) (some_some x r e) h.0
leads_at n (suc i) r (x ∷ rs) h e = leads_at n i r rs h.1 e

leads_snoc : (n r : ℕ) (rs : List ℕ) → LeadBelow n rs → r < n → LeadBelow n (rs ++ r ∷ [])
leads_snoc n r [] h low = (low, tt)
leads_snoc n r (x ∷ rs) h low = (h.0, leads_snoc n r rs h.1 low)

-- ---- what a source of several pools keeps

abbrev pub fresh : Source
fresh = record { pools = 0; jobs = []; failed = false }

fresh_routed : (p n : ℕ) → HaveRouted p [] [] (replicate n fresh)
fresh_routed p zero = tt
fresh_routed p (suc n) = (refl, fresh_routed (p + 1) n)

pub fresh_works : (n : ℕ) → has_failed (replicate n fresh) ≡ false
fresh_works zero = refl
fresh_works (suc n) = fresh_works n

-- pools that were opened have no jobs
pub opened : (named : ℕ) (pools : List Source) → pools ≡ replicate (named + 1) fresh → AreRouted named [] [] pools
opened named pools all = record {
  all = ap length all ∙ length-replicate (named + 1) fresh;
  few = omega arith;
  paired = refl;
  known = tt;
  jobs = subst (λ l. HaveRouted 0 [] [] l) (sym all) (fresh_routed 0 (named + 1));
}

-- one more job went to the pool in this place
routed_more : (named : ℕ) (rs : List ℕ) (ws : List Work) (pools : List Source) (k : ℕ) (w : Work) (old new : Source)
    → AreRouted named rs ws pools → length ws < MOST_JOBS → slice_get pools k ≡ Some old
    → new.jobs ≡ old.jobs ++ numbered (length ws) w ∷ []
    → AreRouted named (rs ++ k ∷ []) (ws ++ w ∷ []) (set pools k new)
routed_more named rs ws pools k w old new h room at grown = record {
  all = length-set pools k new ∙ h.all;
  few = omega (arith, length-append ws (w ∷ []), room);
  paired = length-append rs (k ∷ []) ∙ ap (λ n. n + 1) h.paired ∙ sym (length-append ws (w ∷ []));
  known =
      subst (λ n. LeadBelow n (rs ++ k ∷ [])) (sym (length-set pools k new))
      (leads_snoc (length pools) k rs h.known (some_low pools k old at));
  jobs =
      let z : 0 + k ≡ k = omega arith in
      subst (λ m. HaveRouted 0 (rs ++ m ∷ []) (ws ++ w ∷ []) (set pools k new)) z
      (one_more_routed 0 k rs ws w pools new h.paired h.jobs
      (grown ∙ ap (λ l. l ++ numbered (length ws) w ∷ []) (jobs_at 0 k rs ws pools old h.jobs at)));
}

pub submitted : (named : ℕ) (rs more_rs : List ℕ) (ws more_ws : List Work) (pools : List Source) (k n : ℕ) (w : Work)
    (old new : Source) → AreRouted named rs ws pools → length ws < MOST_JOBS → slice_get pools k ≡ Some old
    → more_rs ≡ rs ++ k ∷ [] → more_ws ≡ ws ++ w ∷ [] → n ≡ length ws → new.jobs ≡ old.jobs ++ numbered n w ∷ []
    → AreRouted named more_rs more_ws (set pools k new)
submitted named rs more_rs ws more_ws pools k n w old new h room at routes works number grown =
    subst (λ l. AreRouted named l more_ws (set pools k new)) (sym routes)
    (subst (λ l. AreRouted named (rs ++ k ∷ []) l (set pools k new)) (sym works)
    (routed_more named rs ws pools k w old new h room at (grown ∙ ap (λ m. old.jobs ++ numbered m w ∷ []) number)))

routed_same : (named : ℕ) (rs : List ℕ) (ws : List Work) (pools : List Source) (k : ℕ) (old new : Source)
    → AreRouted named rs ws pools → slice_get pools k ≡ Some old → new.jobs ≡ old.jobs
    → AreRouted named rs ws (set pools k new)
routed_same named rs ws pools k old new h at same = record {
  all = length-set pools k new ∙ h.all;
  few = h.few;
  paired = h.paired;
  known = subst (λ n. LeadBelow n rs) (sym (length-set pools k new)) h.known;
  jobs = same_routed 0 k rs ws pools old new h.jobs at same;
}

-- the pool in this place changed, and has the jobs that it had
pub kept : (named : ℕ) (rs same_rs : List ℕ) (ws same_ws : List Work) (pools : List Source) (k : ℕ) (old new : Source)
    → AreRouted named rs ws pools → slice_get pools k ≡ Some old → same_rs ≡ rs → same_ws ≡ ws
    → new.jobs ≡ old.jobs → AreRouted named same_rs same_ws (set pools k new)
kept named rs same_rs ws same_ws pools k old new h at routes works same =
    subst (λ l. AreRouted named l same_ws (set pools k new)) (sym routes) (subst
    (λ l. AreRouted named rs l (set pools k new)) (sym works) (routed_same named rs ws pools k old new h at same))

zero_add : (k : ℕ) → 0 + k ≡ k
zero_add k = omega arith

-- the next number is above those of each pool
pub next_above : (named : ℕ) (rs : List ℕ) (ws : List Work) (pools : List Source) (k : ℕ) (pool : Source)
    → AreRouted named rs ws pools → slice_get pools k ≡ Some pool → AreBelow (length ws) pool.jobs
next_above named rs ws pools k pool h at =
    subst (λ l. AreBelow (length ws) l) (sym (jobs_at 0 k rs ws pools pool h.jobs at))
    (subst (λ n. AreBelow n (routed (0 + k) 0 rs ws)) (zero_add (length ws)) (routed_below (0 + k) 0 rs ws))

-- and no pool has more jobs than there are
pub room_at : (named : ℕ) (rs : List ℕ) (ws : List Work) (pools : List Source) (k : ℕ) (pool : Source)
    → AreRouted named rs ws pools → slice_get pools k ≡ Some pool → length pool.jobs ≤ length ws
room_at named rs ws pools k pool h at =
    subst (λ l. length l ≤ length ws) (sym (jobs_at 0 k rs ws pools pool h.jobs at)) (length-routed (0 + k) 0 rs ws)

-- ---- what was submitted

-- one more job of all
pub one_more_job : (ws more : List Work) (js : List Job) (w : Work) → js ≡ jobs_from 0 ws → more ≡ ws ++ w ∷ []
    → jobs_from 0 more ≡ js ++ numbered (length js) w ∷ []
one_more_job ws more js w seen grown =
    let n : 0 + length ws ≡ length js = zero_add (length ws) ∙ sym (length-jobs 0 ws) ∙ ap length (sym seen) in
    ap (jobs_from 0) grown ∙ jobs_from-snoc 0 ws w ∙ ap (λ m. jobs_from 0 ws ++ numbered m w ∷ []) n
    ∙ ap (λ l. l ++ numbered (length js) w ∷ []) (sym seen)

-- there are as many as works
pub as_many : (ws : List Work) (js : List Job) → js ≡ jobs_from 0 ws → length js ≡ length ws
as_many ws js seen = ap length seen ∙ length-jobs 0 ws

pub room_there : (ws : List Work) (js : List Job) → js ≡ jobs_from 0 ws → length ws < MOST_JOBS → Ok tt ≡ room_after js
room_there ws js seen low =
    let n = as_many ws js seen in
    let yes : nat_lt (length js) MOST_JOBS ≡ true = grind (arith, nat_tests) in
    rw yes refl

pub full_there : (ws : List Work) (js : List Job) → js ≡ jobs_from 0 ws → MOST_JOBS ≤ length ws
    → Err Full ≡ room_after js
full_there ws js seen low =
    let n = as_many ws js seen in
    let no : nat_lt (length js) MOST_JOBS ≡ false = grind (arith, nat_tests) in
    rw no refl

-- the work of a number that was submitted
pub known_work : (ws : List Work) (k : ℕ) (h : IsSubmitted k (jobs_from 0 ws)) → slice_get ws k ≡ Some h.0
known_work ws k h = sym (under_row 0 k ws) ∙ ap (λ m. work_under m (jobs_from 0 ws)) (zero_add k) ∙ h.1

-- it has a route
pub known_route : (named : ℕ) (rs : List ℕ) (ws : List Work) (pools : List Source) (k : ℕ) → AreRouted named rs ws pools
    → IsSubmitted k (jobs_from 0 ws) → k < length rs
known_route named rs ws pools k h known =
    let low = some_low ws k known.0 (known_work ws k known) in omega (arith, h.paired, low)

-- and is submitted to the pool of its route
pub known_there : (named : ℕ) (rs : List ℕ) (ws : List Work) (pools : List Source) (k r : ℕ) (pool : Source) (w : Work)
    → AreRouted named rs ws pools → slice_get ws k ≡ Some w → slice_get rs k ≡ Some r
    → slice_get pools r ≡ Some pool → work_under k pool.jobs ≡ Some w
known_there named rs ws pools k r pool w h work route at =
    ap (work_under k) (jobs_at 0 r rs ws pools pool h.jobs at) ∙ ap (λ m. work_under k (routed m 0 rs ws)) (zero_add r)
    ∙ ap (λ m. work_under m (routed r 0 rs ws)) (sym (zero_add k)) ∙ under_route r 0 k rs ws w route work

-- so what is its value there is its value
pub value_there : (named : ℕ) (rs : List ℕ) (ws : List Work) (pools : List Source) (k r : ℕ) (pool : Source)
    (value : Result Value AllocError) → AreRouted named rs ws pools → IsSubmitted k (jobs_from 0 ws)
    → slice_get rs k ≡ Some r → slice_get pools r ≡ Some pool → IfOk value (IsValueUnder k pool.jobs)
    → IfOk value (IsValueUnder k (jobs_from 0 ws))
value_there named rs ws pools k r pool (Ok value) h known route at is =
    let there = known_there named rs ws pools k r pool known.0 h (known_work ws k known) route at in
    (is.0, known.1 ∙ sym there ∙ is.1, is.2)
value_there named rs ws pools k r pool (Err e) h known route at is = tt

-- ---- the next number in order

-- what is left of the works, from this number on
next_work : (i : ℕ) (ws : List Work) → i < length ws → (w : Work) × (drop i ws ≡ w ∷ drop (i + 1) ws)
next_work i [] low = absurd (omega (arith, low))
next_work zero (w ∷ ws) low = (w, refl)
next_work (suc i) (w ∷ ws) low =
    let e : suc i + 1 ≡ suc (i + 1) = omega arith in rw e (next_work i ws (omega (arith, low)))

next_route : (i r : ℕ) (rs : List ℕ) → slice_get rs i ≡ Some r → drop i rs ≡ r ∷ drop (i + 1) rs
next_route i r [] e = absurd (none_some r e)
next_route zero r (x ∷ rs) e = ap (λ y. y ∷ rs) (some_some x r e)
next_route (suc i) r (x ∷ rs) e = let z : suc i + 1 ≡ suc (i + 1) = omega arith in rw z (next_route i r rs e)

-- so many of what was done are taken in order, and what is left is there
pub record InOrder (i : ℕ) (rs : List ℕ) (ws : List Work) (ran : List Done) (dones : List (List Done)) : Type 0 where
  pub taken : jobs_of ran ++ jobs_from i (drop i ws) ≡ jobs_from 0 ws
  pub left : AreDone 0 i (drop i rs) (drop i ws) dones

jobs_snoc : (ran : List Done) (d : Done) (js : List Job) → jobs_of (ran ++ d ∷ []) ++ js ≡ jobs_of ran ++ d.job ∷ js
jobs_snoc [] d js = refl
jobs_snoc (x ∷ ran) d js = ap (λ l. x.job ∷ l) (jobs_snoc ran d js)

head_done : (d : List Done) (j : Job) (js : List Job) → jobs_of d ≡ j ∷ js
    → (x : Done) × (slice_get d 0 ≡ Some x) × (x.job ≡ j) × (jobs_of (drop 1 d) ≡ js)
head_done [] j js e = absurd (omega (arith, ap length e))
head_done (x ∷ d) j js e = (x, refl, ap (λ l. unwrap_or (slice_get l 0) j) e, ap (λ l. drop 1 l) e)

-- what is in front for the next number
front : (i r : ℕ) (rs : List ℕ) (ws : List Work) (ran : List Done) (dones : List (List Done)) (d : List Done)
    → length rs ≡ length ws → slice_get rs i ≡ Some r → slice_get dones r ≡ Some d → InOrder i rs ws ran dones
    → (w : Work) × (drop i ws ≡ w ∷ drop (i + 1) ws)
    × (jobs_of d ≡ numbered i w ∷ routed (0 + r) (i + 1) (drop (i + 1) rs) (drop (i + 1) ws))
front i r rs ws ran dones d paired route at h =
    let low = some_low rs i r route in
    let work = next_work i ws (omega (arith, paired, low)) in
    let left : AreDone 0 i ((0 + r) ∷ drop (i + 1) rs) (work.0 ∷ drop (i + 1) ws) dones =
    subst (λ m. AreDone 0 i (m ∷ drop (i + 1) rs) (work.0 ∷ drop (i + 1) ws) dones) (sym (zero_add r))
    (subst (λ l. AreDone 0 i l (work.0 ∷ drop (i + 1) ws) dones) (next_route i r rs route)
    (subst (λ l. AreDone 0 i (drop i rs) l dones) work.1 h.left)) in
    (work.0, work.1, next_done 0 r i (drop (i + 1) rs) work.0 (drop (i + 1) ws) dones d left at)

-- there is one
pub none_missing : (i r : ℕ) (rs : List ℕ) (ws : List Work) (ran : List Done) (dones : List (List Done)) (d : List Done)
    → length rs ≡ length ws → slice_get rs i ≡ Some r → slice_get dones r ≡ Some d → InOrder i rs ws ran dones
    → slice_get d 0 ≡ None → ⊥
none_missing i r rs ws ran dones d paired route at h missing =
    let f = front i r rs ws ran dones d paired route at h in
    let x = head_done d _ _ f.2 in
    none_some x.0 (sym missing ∙ x.1)

-- and it is taken next
pub next_taken : (i r : ℕ) (rs : List ℕ) (ws : List Work) (ran new : List Done) (dones : List (List Done))
    (d rest : List Done) (done : Done) → length rs ≡ length ws → slice_get rs i ≡ Some r → slice_get dones r ≡ Some d
    → InOrder i rs ws ran dones → slice_get d 0 ≡ Some done → rest ≡ drop 1 d → new ≡ ran ++ done ∷ []
    → InOrder (i + 1) rs ws new (set dones r rest)
next_taken i r rs ws ran new dones d rest done paired route at h first left grown =
    let f = front i r rs ws ran dones d paired route at h in
    let x = head_done d _ _ f.2 in
    let job : done.job ≡ numbered i f.0 = ap (λ (y : Done). y.job) (some_some done x.0 (sym first ∙ x.1)) ∙ x.2 in
    let old : AreDone 0 i ((0 + r) ∷ drop (i + 1) rs) (f.0 ∷ drop (i + 1) ws) dones =
    subst (λ m. AreDone 0 i (m ∷ drop (i + 1) rs) (f.0 ∷ drop (i + 1) ws) dones) (sym (zero_add r))
    (subst (λ l. AreDone 0 i l (f.0 ∷ drop (i + 1) ws) dones) (next_route i r rs route)
    (subst (λ l. AreDone 0 i (drop i rs) l dones) f.1 h.left)) in
    record {
      taken =
          ap (λ l. jobs_of l ++ jobs_from (i + 1) (drop (i + 1) ws)) grown ∙ jobs_snoc ran done
          (jobs_from (i + 1) (drop (i + 1) ws)) ∙ ap (λ j. jobs_of ran ++ j ∷ jobs_from (i + 1) (drop (i + 1) ws)) job
          ∙ ap (λ l. jobs_of ran ++ jobs_from i l) (sym f.1) ∙ h.taken;
      left = rest_done 0 r i (drop (i + 1) rs) f.0 (drop (i + 1) ws) dones rest old (ap jobs_of left ∙ x.3);
    }

-- as many are done as there are pools
pub same_count : (dones : List (List Done)) (pools : List Source)
    → map jobs_of dones ≡ map (λ (s : Source). s.jobs) pools → length dones ≡ length pools
same_count [] [] e = refl
same_count [] (s ∷ pools) e = absurd (omega (arith, ap length e))
same_count (d ∷ dones) [] e = absurd (omega (arith, ap length e))
same_count (d ∷ dones) (s ∷ pools) e = ap suc (same_count dones pools (ap (λ l. drop 1 l) e))

replicate-snoc : (n : ℕ) → replicate n fresh ++ fresh ∷ [] ≡ replicate (n + 1) fresh
replicate-snoc zero = refl
replicate-snoc (suc n) =
    let e : suc (n + 1) ≡ suc n + 1 = omega arith in
    ap (λ l. fresh ∷ l) (replicate-snoc n) ∙ ap (λ m. replicate m fresh) e

-- one more pool is opened
pub one_opened : (n : ℕ) (new old : List Source) (pool : Source) → new ≡ old ++ pool ∷ [] → old ≡ replicate n fresh
    → pool ≡ fresh → new ≡ replicate (n + 1) fresh
one_opened n new old pool grown all is =
    grown ∙ ap (λ l. l ++ pool ∷ []) all ∙ ap (λ x. replicate n fresh ++ x ∷ []) is ∙ replicate-snoc n

-- where so many pools were opened, nothing was submitted to any
pub opened_empty : (named n : ℕ) (routes : List ℕ) (works : List Work) (pools : List Source) → routes ≡ [] → works ≡ []
    → pools ≡ replicate (n + 1) fresh → n ≡ named → AreRouted named routes works pools
opened_empty named n routes works pools none nothing all count =
    let rest = opened named pools (all ∙ ap (λ m. replicate (m + 1) fresh) count) in
    subst (λ r. AreRouted named r works pools) (sym none) (subst (λ w. AreRouted named [] w pools) (sym nothing) rest)

pub opened_seen : (named n : ℕ) (works : List Work) (pools : List Source) → works ≡ [] → pools ≡ replicate n fresh
    → ◌≡◌ {A = Source} (record { pools = named; jobs = jobs_from 0 works; failed = has_failed pools })
    (record { pools = named; jobs = []; failed = false })
opened_seen named n works pools nothing all =
    let works_none : has_failed pools ≡ false = ap has_failed all ∙ fresh_works n in
    λ i. record { pools = named; jobs = jobs_from 0 (nothing i); failed = works_none i }

-- where no pool is left, what was closed is all
pub all_closed : (left : List Source) (closed all : List (List Job)) → length left ≡ 0
    → closed ++ map (λ (s : Source). s.jobs) left ≡ all → closed ≡ all
all_closed [] closed all none h = sym (append-nil closed) ∙ h
all_closed (pool ∷ left) closed all none h = absurd (omega (arith, none))
