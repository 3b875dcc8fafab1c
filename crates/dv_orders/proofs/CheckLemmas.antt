-- What a check finds out, and what it means.
use Rattle.std.proofs.Common.{arith, ◌≡◌, ℕ, zero, suc, ◌+◌, ◌<◌, ◌≤◌, ◌==◌, true, false, List, [], ◌∷◌, ◌++◌, ◌∙◌}
use Rattle.std.proofs.Common.{Option, None, Some, length, map, take, drop, slice_get, slice_index_or, slice_set, refl}
use Rattle.std.proofs.Common.{sym, ap, subst, append-nil, append_assoc, length-append, add-one, take-append-drop}
use Rattle.std.proofs.lemmas.Bool.Decides.{nat_tests}
use Rattle.std.proofs.lemmas.Bool.{cases_eq}
use Rattle.std.proofs.lemmas.List.{length-map, take-append-le, take-map, take_all}
use Rattle.std.proofs.lemmas.List.Elements.{filter-append}
use Rattle.std.proofs.Math.Seq.{take-suc}
use mathlib.Core.Logic.{inl, inr}
use Rattle.dv_script.specs.declared.event.Event.{Event}
use Rattle.dv_script.specs.declared.event.Event.TheVariants as event
use Rattle.dv_script.specs.declared.script.Script.{Script}
use Rattle.dv_posts.specs.Batches.{AreNext, Batch, Callers, Fit, below, bodies_of, first_posts, joined}
use Rattle.dv_posts.specs.Posts.{post, of}
use Rattle.dv_posts.specs.Taking.{Counted, IsNext}
use Rattle.dv_posts.specs.declared.posted.Posted.{Posted}
use Rattle.dv_posts.proofs.CountLemmas.{counted_at, counted_next, joined_more, strange_at}
use Rattle.dv_orders.specs.Faults.{AreFitting, Checks, ChecksEnd, FaultsAreOfNoOrder, FirstStrange, IsStrange}
use Rattle.dv_orders.specs.Faults.{StrangeAt, drains_of, is_next, posts_before}
use Rattle.dv_orders.specs.declared.fault.OrderFault.{OrderFault}
use Rattle.dv_orders.specs.declared.fault.OrderFault.TheVariants.{Missing, Needless, TooLong, NotNext, Untaken}

-- batches that fit the drains fit the events
pub fit_from : (events : List Event) (batches : List Batch) → AreFitting (drains_of events) batches → Fit events batches
fit_from [] [] fitting = absurd (let l = fitting.count in omega (arith, l))
fit_from [] (b ∷ []) fitting = refl
fit_from [] (b ∷ c ∷ batches) fitting = absurd (let l = fitting.count in omega (arith, l))
fit_from (event.Action action ∷ events) batches fitting = fit_from events batches fitting
fit_from (event.Advance ticks ∷ events) batches fitting = fit_from events batches fitting
fit_from (event.Expect name expected ∷ events) batches fitting = fit_from events batches fitting
fit_from (event.Drain most ∷ events) [] fitting = absurd (let l = fitting.count in omega (arith, l))
fit_from (event.Drain most ∷ events) (b ∷ batches) fitting = (
  fitting.few 0 most refl,
  fit_from events batches
      (record { count = let l = fitting.count in omega (arith, l); few = λ k n at. fitting.few (suc k) n at }),
)

-- and the other way round
some_is : {X : Type 0} {x y : X} → Some x ≡ Some y → x ≡ y
some_is e = cc

pub fitting_from : (events : List Event) (batches : List Batch) → Fit events batches
    → AreFitting (drains_of events) batches
fitting_from [] [] fit = absurd fit
fitting_from [] (b ∷ batches) fit =
    record { count = let l : length batches ≡ 0 = ap length fit in omega (arith, l); few = λ k most at. absurd cc }
fitting_from (event.Action action ∷ events) batches fit = fitting_from events batches fit
fitting_from (event.Advance ticks ∷ events) batches fit = fitting_from events batches fit
fitting_from (event.Expect name expected ∷ events) batches fit = fitting_from events batches fit
fitting_from (event.Drain most ∷ events) [] fit = absurd fit
fitting_from (event.Drain most ∷ events) (b ∷ batches) fit =
    let rest = fitting_from events batches fit.1 in
    record { count = let l = rest.count in omega (arith, l); few = few rest }
  where
    few : AreFitting (drains_of events) batches → (k n : ℕ) → slice_get (most ∷ drains_of events) k ≡ Some n
        → length (slice_index_or (b ∷ batches) k []) ≤ n
    few rest zero n at = let e : most ≡ n = some_is at in let low = fit.0 in omega (arith, e, low)
    few rest (suc k) n at = rest.few k n at

-- what the test of a post tells
next_from : (callers : Callers) (counts : List ℕ) (p : Posted) → is_next callers counts p ≡ true
    → IsNext callers counts p
next_from callers counts p e = (grind (arith, nat_tests), grind (arith, nat_tests))

not_next_from : (callers : Callers) (counts : List ℕ) (p : Posted) → is_next callers counts p ≡ false
    → IsNext callers counts p → ⊥
not_next_from callers counts p e next = grind (arith, nat_tests)

-- a post more is counted
pub counted_here : (callers : Callers) (counts after : List ℕ) (before batch : Batch) (i : ℕ) (p : Posted)
    → i < length batch → p ≡ slice_index_or batch i p → is_next callers counts p ≡ true
    → after ≡ slice_set counts p.caller (p.index + 1) → Counted callers counts (before ++ take i batch)
    → Counted callers after (before ++ take (i + 1) batch)
counted_here callers counts after before batch i p low is e set was =
    counted_at callers counts after before batch i p low is (next_from callers counts p e) set was

-- a post that isn't the next one of its caller
pub strange_here : (callers : Callers) (first counts : List ℕ) (before batch : Batch) (i : ℕ) (p : Posted)
    → i < length batch → p ≡ slice_index_or batch i p → is_next callers counts p ≡ false
    → Counted callers counts (before ++ take i batch) → StrangeAt callers first batch before i
strange_here callers first counts before batch i p low is e was =
    let so_far = before ++ take i batch in
    let more : before ++ take (suc i) batch ≡ so_far ++ p ∷ [] =
    ap (λ l. before ++ l) (take-suc batch i p low ∙ ap (λ x. take i batch ++ x ∷ []) (sym is))
    ∙ sym (append_assoc before (take i batch) (p ∷ [])) in
    record {
      next = counted_next callers counts so_far was;
      strange =
          λ next. strange_at callers counts so_far (p ∷ []) 0 p (omega arith) refl (not_next_from callers counts p e)
          (subst (Counted callers counts) (sym (append-nil so_far)) was) (subst (AreNext callers) more next);
    }

-- the batches up to one, and that one
pub joined_at : (batches : List Batch) (n : ℕ) → n < length batches
    → joined (take (n + 1) batches) ≡ joined (take n batches) ++ slice_index_or batches n []
joined_at batches n low =
    ap (λ m. joined (take m batches)) (add-one n) ∙ ap joined (take-suc batches n [] low)
    ∙ joined_more (take n batches) (slice_index_or batches n [])

-- where a batch has such a post
pub is_strange : (callers : Callers) (counts : List ℕ) (batches : List Batch) (batch : Batch) (n place : ℕ)
    → n < length batches → batch ≡ slice_index_or batches n [] → Counted callers counts (joined (take n batches))
    → FirstStrange (Some place) callers counts counts batch → IsStrange callers batches n place
is_strange callers counts batches batch n place low is counted strange =
    let at = strange.1 (joined (take n batches)) counted in
    record {
      batch = low;
      post = subst (λ (b : Batch). place < length b) is strange.0;
      before = subst (λ (b : Batch). AreNext callers (joined (take n batches) ++ take place b)) is at.next;
      strange =
          subst (λ (b : Batch). AreNext callers (joined (take n batches) ++ take (suc place) b) → ⊥) is at.strange;
    }

length-below : (n : ℕ) → length (below n) ≡ n
length-below zero = refl
length-below (suc n) = omega (arith, length-append (below n) (n ∷ []), length-below n)

length-first : (c n : ℕ) → length (first_posts c n) ≡ n
length-first c n = length-map (below n) (post c) ∙ length-below n

take-below : (k n : ℕ) → k ≤ n → take k (below n) ≡ below k
take-below zero zero low = refl
take-below (suc k) zero low = absurd (omega (arith, low))
take-below k (suc n) low = elim (cases_eq k (suc n)) [
  | inl e ↦ take_all k (below (suc n)) (omega (arith, length-below (suc n), e)) ∙ ap below (sym e)
  | inr apart ↦ let less : k ≤ n = omega (arith, low, apart) in
      take-append-le k (below n) (n ∷ []) (omega (arith, less, length-below n)) ∙ take-below k n less
]

take-both : {X : Type 0} (xs ys : List X) → take (length xs) (xs ++ ys) ≡ xs
take-both [] ys = refl
take-both (x ∷ xs) ys = ap (λ l. x ∷ l) (take-both xs ys)

-- the beginning of first posts
first_of : (c n : ℕ) (xs ys : Batch) → xs ++ ys ≡ first_posts c n → (length xs ≤ n) × (xs ≡ first_posts c (length xs))
first_of c n xs ys e =
    let low : length xs ≤ n = omega (arith, ap length e, length-append xs ys, length-first c n) in (
      low,
      sym (take-both xs ys) ∙ ap (take (length xs)) e ∙ take-map (post c) (length xs) (below n)
          ∙ ap (map (post c)) (take-below (length xs) n low),
    )

-- the first of posts that are next ones are next ones
pub next_before : (callers : Callers) (xs ys : Batch) → AreNext callers (xs ++ ys) → AreNext callers xs
next_before callers xs ys next c =
    let n = next c in
    let r = first_of c n.0 (of c xs) (of c ys) (sym (filter-append (λ p. p.caller == c) xs ys) ∙ n.2) in
    (length (of c xs), omega (arith, r.0, n.1), r.1)

-- all posts are those before a place, and others
split_at : (batches : List Batch) (number place : ℕ) → number < length batches
    → (rest : Batch) × (joined batches ≡ posts_before batches number place ++ rest)
split_at [] number place low = absurd (omega (arith, low))
split_at (b ∷ batches) zero place low = (
  drop place b ++ joined batches,
  ap (λ l. l ++ joined batches) (sym (take-append-drop place b))
      ∙ append_assoc (take place b) (drop place b) (joined batches),
)
split_at (b ∷ batches) (suc number) place low =
    let r = split_at batches number place (omega (arith, low)) in (
      r.0,
      ap (λ l. b ++ l) r.1 ∙ sym (append_assoc b (posts_before batches number place) r.0)
          ∙ ap (λ l. l ++ r.0)
          (sym (append_assoc b (joined (take number batches)) (take place (slice_index_or batches number [])))),
    )

-- batches of which the checks find nothing wrong are an order
pub is_order : (script : Script) (batches : List Batch) (counts : List ℕ) (end : Option OrderFault)
    → AreFitting (drains_of script.events) batches → Counted script.callers counts (joined batches)
    → ChecksEnd end script.callers counts → Checks end script batches
is_order script batches counts None fitting counted all = record {
  lawful = record {
    fit = fit_from script.events batches fitting;
    next = counted_next script.callers counts (joined batches) counted;
  };
  complete =
      λ c. let low = (counted.each c).0 in let n : slice_index_or counts c 0 ≡ length (bodies_of script.callers c) =
      omega (arith, low, all c) in (counted.each c).1 ∙ ap (first_posts c) n;
}
is_order script batches counts (Some (Missing number)) fitting counted all = absurd all
is_order script batches counts (Some (Needless number)) fitting counted all = absurd all
is_order script batches counts (Some (TooLong number most)) fitting counted all = absurd all
is_order script batches counts (Some (NotNext number place)) fitting counted all = absurd all
is_order script batches counts (Some (Untaken caller index)) fitting counted all =
    (all.0, (counted.each caller).1 ∙ ap (first_posts caller) (sym all.1))

-- a fault that holds is of no order
pub of_no_order : FaultsAreOfNoOrder
of_no_order (Missing number) script batches refuses order =
    let l = (fitting_from script.events batches order.lawful.fit).count in omega (arith, l, refuses.0, refuses.1)
of_no_order (Needless number) script batches refuses order =
    let l = (fitting_from script.events batches order.lawful.fit).count in omega (arith, l, refuses.0, refuses.1)
of_no_order (TooLong number most) script batches refuses order =
    let few = (fitting_from script.events batches order.lawful.fit).few number most refuses.0 in
    omega (arith, few, refuses.2)
of_no_order (NotNext number place) script batches refuses order =
    let r = split_at batches number (suc place) refuses.batch in
    refuses.strange (next_before script.callers (posts_before batches number (suc place)) r.0
    (subst (AreNext script.callers) r.1 order.lawful.next))
of_no_order (Untaken caller index) script batches refuses order =
    let n = length (bodies_of script.callers caller) in
    let e : first_posts caller n ≡ first_posts caller index = sym (order.complete caller) ∙ refuses.1 in
    omega (arith, ap length e, length-first caller n, length-first caller index, refuses.0)
