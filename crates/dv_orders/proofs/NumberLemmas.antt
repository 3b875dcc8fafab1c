-- Numbers up to a cap.
use Rattle.std.proofs.Common.{arith, ◌≡◌, ℕ, zero, suc, ◌+◌, ◌-◌, ◌*◌, ◌<◌, ◌≤◌, ◌∙◌, List, [], ◌∷◌, ◌++◌, length, drop}
use Rattle.std.proofs.Common.{min, slice_index, refl, sym, ap, subst, zero-mul, mul-zero}
use Rattle.std.proofs.lemmas.List.{drop_more}
use Rattle.std.proofs.lemmas.Bool.{cases_lt}
use mathlib.Core.Logic.{inl, inr}
use Rattle.dv_script.specs.declared.event.Event.{Event}
use Rattle.dv_script.specs.declared.event.Event.TheVariants as event
use Rattle.dv_script.specs.declared.script.Script.{Script}
use Rattle.dv_orders.specs.Counted.{Counts, CountsUpTo, limit_of}
use Rattle.dv_orders.specs.Numbers.{number_of_cuts, number_of_sequences, sum_over_splits, ways}
use Rattle.dv_orders.specs.Orders.{counts_of, orders, total}
use Rattle.dv_orders.specs.declared.number.Number.{Number}
use Rattle.dv_orders.specs.declared.number.Number.TheVariants.{Exactly, More}
use Rattle.dv_orders.specs.Listed.{ThereIsAnOrder}
use Rattle.dv_orders.proofs.Listing.{all_counted}

-- the sum over splits, but for the first of them
abbrev pub sum_of_others : (ℕ → ℕ) → ℕ → ℕ → ℕ
sum_of_others number zero count = 0
sum_of_others number (suc most) zero = 0
sum_of_others number (suc most) (suc count) = sum_over_splits number most count

pub splits_first : (number : ℕ → ℕ) (most count : ℕ)
    → sum_over_splits number most count ≡ number count + sum_of_others number most count
splits_first number zero count = omega arith
splits_first number (suc most) zero = omega arith
splits_first number (suc most) (suc count) = refl

pub others_none : (number : ℕ → ℕ) (count : ℕ) → sum_of_others number 0 count ≡ 0
others_none number count = refl

pub others_end : (number : ℕ → ℕ) (most : ℕ) → sum_of_others number most 0 ≡ 0
others_end number zero = refl
others_end number (suc most) = refl

pub others_more : (number : ℕ → ℕ) (most count : ℕ) → 0 < most → 0 < count
    → sum_of_others number most count ≡ number (count - 1) + sum_of_others number (most - 1) (count - 1)
others_more number zero count some left = absurd (omega (arith, some))
others_more number (suc most) zero some left = absurd (omega (arith, left))
others_more number (suc most) (suc count) some left =
    let a : suc most - 1 ≡ most = omega arith in let b : suc count - 1 ≡ count = omega arith in
    rw (a, b) (splits_first number most count)

-- a sum of numbers up to a cap
pub min_sum : (a b c : ℕ) → min (min a c + min b c) c ≡ min (a + b) c
min_sum a b c = omega arith

times_one : (x y : ℕ) → 0 < y → x ≤ x * y
times_one x zero some = absurd (omega (arith, some))
times_one x (suc y) some = omega arith

one_times : (x y : ℕ) → 0 < x → y ≤ x * y
one_times zero y some = absurd (omega (arith, some))
one_times (suc x) y some = omega arith

both_past : (p q c : ℕ) → c ≤ p → c ≤ q → min p c ≡ min q c
both_past p q c one other = omega arith

min_positive : (a b c : ℕ) → 0 < a → 0 < b → 0 < c → min (min a c * min b c) c ≡ min (a * b) c
min_positive a b c some_a some_b some_c = elim (cases_lt c a) [
  | inl high ↦
      let e : c ≡ min a c = omega arith in
      both_past (min a c * min b c) (a * b) c
      (subst (λ (k : ℕ). c ≤ k * min b c) e (times_one c (min b c) (omega arith)))
      (omega (arith, times_one a b some_b))
  | inr low ↦ elim (cases_lt c b) [
    | inl high ↦
        let e : c ≡ min b c = omega arith in
        both_past (min a c * min b c) (a * b) c
        (subst (λ (k : ℕ). c ≤ min a c * k) e (one_times (min a c) c (omega arith)))
        (omega (arith, one_times a b some_a))
    | inr below ↦
        let e : min a c ≡ a = omega arith in
        let f : min b c ≡ b = omega arith in
        rw (e, f) refl
  ]
]

-- a product of numbers up to a cap
pub min_product : (a b c : ℕ) → 0 < c → min (min a c * min b c) c ≡ min (a * b) c
min_product a zero c some = let e : min 0 c ≡ 0 = omega arith in rw (e, mul-zero (min a c), mul-zero a) refl
min_product zero (suc b) c some =
    let e : min 0 c ≡ 0 = omega arith in rw (e, zero-mul (min (suc b) c), zero-mul (suc b)) refl
min_product (suc a) (suc b) c some = min_positive (suc a) (suc b) c (omega arith) (omega arith) some

-- one more number of a sum
pub sum_step : (t v f r s c : ℕ) → v ≡ min f c → min (t + (f + r)) c ≡ s → min (min (t + v) c + r) c ≡ s
sum_step t v f r s c is whole = omega arith

-- one more caller's posts
pub total_more : {A : Type 0} (xs : List (List A)) (x : List A)
    → total (counts_of (xs ++ x ∷ [])) ≡ total (counts_of xs) + length x
total_more [] x = omega arith
total_more (y ∷ xs) x = omega (arith, total_more xs x)

-- the sequences of one more caller's posts
pub sequences_more : (counts : List ℕ) (place i own number others w p cap : ℕ) → place ≡ i + 1 → i < length counts
    → own ≡ slice_index counts i → 0 < cap
    → others ≡ total (drop place counts) → number ≡ min (number_of_sequences (drop place counts)) cap
    → w ≡ min (ways own others) cap → p ≡ min (w * number) cap
    → (p ≡ min (number_of_sequences (drop i counts)) cap) × (others + own ≡ total (drop i counts))
sequences_more counts place i own number others w p cap at low is some all so_far here product =
    let rest = drop place counts in
    let first : drop i counts ≡ own ∷ rest =
    drop_more counts i 0 low ∙ ap (λ n. n ∷ drop (i + 1) counts) (sym is) ∙ ap (λ n. own ∷ drop n counts) (sym at) in
    let sequences = number_of_sequences rest in
    let way : w ≡ min (ways own (total rest)) cap = here ∙ ap (λ n. min (ways own n) cap) all in (
      product
          ∙ ap (λ n. min (n * number) cap) way
          ∙ ap (λ n. min (min (ways own (total rest)) cap * n) cap) so_far
          ∙ min_product (ways own (total rest)) sequences cap some
          ∙ ap (λ (l : List ℕ). min (number_of_sequences l) cap) (sym first),
      let e = ap (λ (l : List ℕ). total l) first in omega arith,
    )

-- more posts come in no fewer ways
more_ways : (own others : ℕ) → ways own others ≤ ways (suc own) others
more_ways own zero = omega arith
more_ways own (suc others) = omega arith

pub ways_grow : (own more others : ℕ) → ways own others ≤ ways (own + more) others
ways_grow own zero others = let e : own + 0 ≡ own = omega arith in rw e (omega arith)
ways_grow own (suc more) others =
    let e : own + suc more ≡ suc (own + more) = omega arith in
    rw e (omega (arith, ways_grow own more others, more_ways (own + more) others))

ways_some : (own others : ℕ) → 0 < ways own others
ways_some zero others = omega arith
ways_some (suc own) others = omega (arith, ways_some own others, more_ways own others)

-- more callers have no fewer sequences
pub sequences_grow : (counts : List ℕ) (n : ℕ) → number_of_sequences (drop n counts) ≤ number_of_sequences counts
sequences_grow counts zero = omega arith
sequences_grow [] (suc n) = omega arith
sequences_grow (count ∷ counts) (suc n) = omega (
  arith,
  sequences_grow counts n,
  one_times (ways count (total counts)) (number_of_sequences counts) (ways_some count (total counts)),
)

-- what has reached the cap is no less with more
pub at_cap : (number fewer all cap : ℕ) → number ≡ min fewer cap → cap ≤ number → fewer ≤ all → number ≡ min all cap
at_cap number fewer all cap is past grows = omega (arith, is, past, grows)

-- the product of the numbers of sequences and of cuts is the number of orders
pub counts_all : (script : Script) (most : ℕ) (n : Number) (sequences cuts product cap : ℕ) → cap ≡ limit_of most + 1
    → sequences ≡ min (number_of_sequences (counts_of script.callers)) cap
    → cuts ≡ min (number_of_cuts script.events (total (counts_of script.callers))) cap
    → product ≡ min (sequences * cuts) cap
    → CountsUpTo n product cap → Counts n script most
counts_all script most n sequences cuts product cap limit first second is counts = by_number n counts
  where
    whole : product ≡ min (length (orders script)) cap
    whole =
        is
        ∙ ap (λ k. min (k * cuts) cap) first
        ∙ ap (λ k. min (min (number_of_sequences (counts_of script.callers)) cap * k) cap) second
        ∙ min_product (number_of_sequences (counts_of script.callers))
        (number_of_cuts script.events (total (counts_of script.callers))) cap (omega arith)
        ∙ ap (λ k. min k cap) (sym (all_counted script))

    by_number : (n : Number) → CountsUpTo n product cap → Counts n script most
    by_number (Exactly number) counts = let e = counts.0 in let l = counts.1 in (omega (arith, whole), omega arith)
    by_number More counts = omega (arith, whole)

-- each sequence is cut in one way at least
pub cuts_some : (events : List Event) (count : ℕ) → 0 < number_of_cuts events count
cuts_some [] count = omega arith
cuts_some (event.Action action ∷ events) count = cuts_some events count
cuts_some (event.Advance ticks ∷ events) count = cuts_some events count
cuts_some (event.Expect name expected ∷ events) count = cuts_some events count
cuts_some (event.Drain most ∷ events) count =
    omega (arith, splits_first (number_of_cuts events) most count, cuts_some events count)

-- where there are as many sequences as the cap, there are no fewer orders
pub sequences_past : (script : Script) (most sequences cap : ℕ) → cap ≡ limit_of most + 1
    → sequences ≡ min (number_of_sequences (counts_of script.callers)) cap → sequences ≡ cap
    → limit_of most < length (orders script)
sequences_past script most sequences cap limit is past =
    let ways = number_of_sequences (counts_of script.callers) in
    let cuts = number_of_cuts script.events (total (counts_of script.callers)) in
    omega (arith, times_one ways cuts (cuts_some script.events (total (counts_of script.callers))), all_counted script)

-- the posts come in one sequence at least
sequences_some : (counts : List ℕ) → 0 < number_of_sequences counts
sequences_some [] = omega arith
sequences_some (count ∷ counts) =
    omega (
      arith,
      sequences_some counts,
      one_times (ways count (total counts)) (number_of_sequences counts) (ways_some count (total counts)),
    )

pub there_is_one : ThereIsAnOrder
there_is_one script =
    let counts = counts_of script.callers in
    let sequences = number_of_sequences counts in
    let cuts = number_of_cuts script.events (total counts) in
    omega (
      arith,
      all_counted script,
      one_times sequences cuts (sequences_some counts),
      cuts_some script.events (total counts),
    )
