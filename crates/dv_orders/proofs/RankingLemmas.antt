-- What stands at a number among the pieces of a list.
use Rattle.std.proofs.Common.{arith, ◌≡◌, ℕ, zero, suc, ◌+◌, ◌-◌, ◌*◌, ◌^◌, ◌/◌, ◌%◌, ◌<◌, ◌≤◌, Option, Some, None}
use Rattle.std.proofs.Common.{option_map, List, [], ◌∷◌, ◌++◌, ◌∙◌, length, map, flat_map, min, replicate, sum}
use Rattle.std.proofs.Common.{slice_get, slice_index, slice_set, drop, take, refl, sym, ap, add-zero, zero-add, suc-mul}
use Rattle.std.proofs.Common.{zero-mul, append_assoc, append-nil, length-append, length-drop}
use Rattle.std.specs.List.{range_with_len}
use Rattle.std.proofs.Math.Nat.{div-eq_of_lt, mod-eq_of_lt, mod-lt}
use Rattle.std.proofs.lemmas.Nat.{div-add-mod'}
use Rattle.std.proofs.lemmas.List.{length-map}
use Rattle.std.proofs.lemmas.Option.{slice_get-map, slice_get_past}
use Rattle.dv_orders.specs.Ranking.{FallsIn, left_counts, length_before, number_by}
use Rattle.dv_orders.specs.declared.ranking.Place.{Place}
use Rattle.std.proofs.lemmas.Bool.{cases_lt}
use Rattle.std.proofs.lemmas.List.Sums.{sum_by-cons}
use Rattle.dv_script.specs.declared.event.Event.{Event}
use Rattle.dv_script.specs.declared.event.Event.TheVariants as event
use Rattle.dv_script.specs.declared.script.Script.{Script}
use Rattle.dv_posts.specs.Batches.{Batch, Callers}
use Rattle.dv_posts.specs.Posts.{post}
use Rattle.dv_orders.specs.Numbers.{number_of_cuts, number_of_sequences}
use Rattle.dv_orders.specs.Orders.{counts_of, cuts, orders, posts_from, sequences, total}
use Rattle.dv_orders.specs.Sequencing.{IsPath, left_over, sequences_by, sequences_from, sequences_on, with_taken}
use Rattle.dv_orders.proofs.Counting.{cuts_counted, sequences_counted}
use Rattle.dv_orders.proofs.CutLemmas.{splits_are}
use Rattle.dv_orders.proofs.Choosing.{sequences_hold_all}
use Rattle.dv_orders.proofs.Members.{In}
use Rattle.dv_orders.proofs.OrderLemmas.{left_of, length-zeros, posts_at, sequences_are, start_left, sum_zeros}
use Rattle.dv_orders.proofs.OrderLemmas.{total_sum}
use Rattle.dv_orders.proofs.SequenceLemmas.{by_none, by_some, left_taken, none_left, on_step, on_zero, path_taken}
use Rattle.dv_orders.proofs.SequenceLemmas.{some_left}
use mathlib.Core.Logic.{inl, inr}

get_left : {X : Type 0} (xs ys : List X) (n : ℕ) → n < length xs → slice_get (xs ++ ys) n ≡ slice_get xs n
get_left [] ys n low = absurd (omega (arith, low))
get_left (x ∷ xs) ys zero low = refl
get_left (x ∷ xs) ys (suc n) low = get_left xs ys n (omega (arith, low))

get_right : {X : Type 0} (xs ys : List X) (i n : ℕ) → i ≡ length xs + n → slice_get (xs ++ ys) i ≡ slice_get ys n
get_right [] ys i n is = ap (slice_get ys) (is ∙ zero-add n)
get_right (x ∷ xs) ys zero n is = absurd (omega (arith, is))
get_right (x ∷ xs) ys (suc i) n is = get_right xs ys i n (omega (arith, is))

-- the pieces of a range, in two parts
flat_range : {X : Type 0} (f : ℕ → List X) (a k m : ℕ)
    → flat_map f (range_with_len a (k + m)) ≡ flat_map f (range_with_len a k) ++ flat_map f (range_with_len (a + k) m)
flat_range f a zero m =
    ap (λ n. flat_map f (range_with_len a n)) (zero-add m)
    ∙ ap (λ n. flat_map f (range_with_len n m)) (sym (add-zero a))
flat_range f a (suc k) m =
    let e : suc k + m ≡ suc (k + m) = omega arith in
    let g : a + 1 + k ≡ a + suc k = omega arith in
    ap (λ n. flat_map f (range_with_len a n)) e
    ∙ ap (λ l. f a ++ l) (flat_range f (a + 1) k m)
    ∙ sym (append_assoc (f a) (flat_map f (range_with_len (a + 1) k)) (flat_map f (range_with_len (a + 1 + k) m)))
    ∙ ap (λ n. (f a ++ flat_map f (range_with_len (a + 1) k)) ++ flat_map f (range_with_len n m)) g

before_length : {X : Type 0} (f : ℕ → List X) (sizes : ℕ → ℕ) (n : ℕ) → ((k : ℕ) → k < n → length (f k) ≡ sizes k)
    → length (flat_map f (range_with_len 0 n)) ≡ length_before sizes n
before_length f sizes zero same = refl
before_length f sizes (suc n) same =
    let e : suc n ≡ n + 1 = omega arith in
    let z : 0 + n ≡ n = omega arith in
    let last : flat_map f (range_with_len (0 + n) 1) ≡ f n = append-nil (f (0 + n)) ∙ ap f z in
    ap (λ m. length (flat_map f (range_with_len 0 m))) e
    ∙ ap (λ l. length l) (flat_range f 0 n 1)
    ∙ length-append (flat_map f (range_with_len 0 n)) (flat_map f (range_with_len (0 + n) 1))
    ∙ ap (λ m. m + length (flat_map f (range_with_len (0 + n) 1)))
    (before_length f sizes n (λ k low. same k (omega (arith, low))))
    ∙ ap (λ l. length_before sizes n + length l) last
    ∙ ap (λ m. length_before sizes n + m) (same n (omega arith))

-- what stands at a number that falls in this piece
pub at_piece : {X : Type 0} (f : ℕ → List X) (sizes : ℕ → ℕ) (n number : ℕ) (place : Place)
    → ((k : ℕ) → k < n → length (f k) ≡ sizes k) → FallsIn (Some place) sizes n number
    → slice_get (flat_map f (range_with_len 0 n)) number ≡ slice_get (f place.piece) place.number
at_piece f sizes n number place same falls =
    let k = place.piece in
    let r = place.number in
    let low : k < n = falls.0 in
    let e : n ≡ k + suc (n - (k + 1)) = omega (arith, low) in
    let z : 0 + k ≡ k = omega arith in
    let before = flat_map f (range_with_len 0 k) in
    let rest = flat_map f (range_with_len (k + 1) (n - (k + 1))) in
    let len : length before ≡ length_before sizes k =
    before_length f sizes k (λ j below. same j (omega (arith, below, low))) in
    let all : flat_map f (range_with_len 0 n) ≡ before ++ (f k ++ rest) =
    ap (λ m. flat_map f (range_with_len 0 m)) e ∙ flat_range f 0 k (suc (n - (k + 1)))
    ∙ ap (λ m. before ++ flat_map f (range_with_len m (suc (n - (k + 1))))) z in
    ap (λ l. slice_get l number) all
    ∙ get_right before (f k ++ rest) number r (omega (arith, falls.2, len))
    ∙ get_left (f k) rest r (omega (arith, falls.1, same k low))

-- where it is past all pieces, nothing does
pub past_pieces : {X : Type 0} (f : ℕ → List X) (sizes : ℕ → ℕ) (n number : ℕ)
    → ((k : ℕ) → k < n → length (f k) ≡ sizes k) → FallsIn None sizes n number
    → slice_get (flat_map f (range_with_len 0 n)) number ≡ None
past_pieces f sizes n number same falls =
    slice_get_past (flat_map f (range_with_len 0 n)) number (omega (arith, falls, before_length f sizes n same))

-- pieces of the same length
pub at_group : {X Y : Type 0} (f : X → List Y) (c : ℕ) (xs : List X) → ((x : X) → In x xs → length (f x) ≡ c)
    → (s r number : ℕ) (x : X) → r < c → number ≡ s * c + r → slice_get xs s ≡ Some x
    → slice_get (flat_map f xs) number ≡ slice_get (f x) r
at_group f c [] same s r number x low is there = absurd (grind (arith, there))
at_group f c (y ∷ xs) same zero r number x low is there =
    let e : y ≡ x = grind (arith, there) in
    get_left (f y) (flat_map f xs) number (omega (arith, is, low, same y (inl refl)))
    ∙ ap (slice_get (f y)) (omega (arith, is))
    ∙ ap (λ z. slice_get (f z) r) e
at_group f c (y ∷ xs) same (suc s) r number x low is there =
    get_right (f y) (flat_map f xs) number (s * c + r) (omega (arith, is, suc-mul s c, same y (inl refl)))
    ∙ at_group f c xs (λ z i. same z (inr i)) s r (s * c + r) x low refl there

pub past_groups : {X Y : Type 0} (f : X → List Y) (c : ℕ) (xs : List X) → ((x : X) → In x xs → length (f x) ≡ c)
    → (s r number : ℕ) → number ≡ s * c + r → slice_get xs s ≡ None → slice_get (flat_map f xs) number ≡ None
past_groups f c [] same s r number is none = refl
past_groups f c (y ∷ xs) same zero r number is none = absurd (grind (arith, none))
past_groups f c (y ∷ xs) same (suc s) r number is none =
    get_right (f y) (flat_map f xs) number (s * c + r) (omega (arith, is, suc-mul s c, same y (inl refl)))
    ∙ past_groups f c xs (λ z i. same z (inr i)) s r (s * c + r) refl none

-- how many posts are left
pub left_more : (counts taken : List ℕ) (i : ℕ) → i < length counts → length taken ≡ length counts
    → left_counts (take (suc i) counts) (take (suc i) taken)
    ≡ left_counts (take i counts) (take i taken) ++ (slice_index counts i - slice_index taken i) ∷ []
left_more [] taken i low len = absurd (omega (arith, low))
left_more (count ∷ counts) [] i low len = absurd (omega (arith, len))
left_more (count ∷ counts) (t ∷ taken) zero low len = refl
left_more (count ∷ counts) (t ∷ taken) (suc i) low len =
    ap (λ l. (count - t) ∷ l) (left_more counts taken i (omega (arith, low)) (omega (arith, len)))

pub left-length : (counts taken : List ℕ) → length (left_counts counts taken) ≡ length counts
left-length [] taken = refl
left-length (count ∷ counts) [] = ap suc (left-length counts [])
left-length (count ∷ counts) (t ∷ taken) = ap suc (left-length counts taken)

pub left_at : (counts taken : List ℕ) (c : ℕ) → length taken ≡ length counts → c < length counts
    → slice_index (left_counts counts taken) c ≡ slice_index counts c - slice_index taken c
left_at [] taken c len low = absurd (omega (arith, low))
left_at (count ∷ counts) [] c len low = absurd (omega (arith, len))
left_at (count ∷ counts) (t ∷ taken) zero len low = refl
left_at (count ∷ counts) (t ∷ taken) (suc c) len low = left_at counts taken c (omega (arith, len)) (omega (arith, low))

left_set : (counts taken : List ℕ) (c : ℕ) → length taken ≡ length counts → c < length counts
    → slice_set (left_counts counts taken) c (slice_index counts c - slice_index taken c - 1)
    ≡ left_counts counts (with_taken taken c)
left_set [] taken c len low = absurd (omega (arith, low))
left_set (count ∷ counts) [] c len low = absurd (omega (arith, len))
left_set (count ∷ counts) (t ∷ taken) zero len low =
    let e : count - t - 1 ≡ count - (t + 1) = omega arith in ap (λ n. n ∷ left_counts counts taken) e
left_set (count ∷ counts) (t ∷ taken) (suc c) len low =
    ap (λ l. (count - t) ∷ l) (left_set counts taken c (omega (arith, len)) (omega (arith, low)))

total_left : (counts taken : List ℕ) → length taken ≡ length counts
    → ((k : ℕ) → slice_index taken k ≤ slice_index counts k) → total (left_counts counts taken) + sum taken ≡ sum counts
total_left [] [] len within = refl
total_left [] (t ∷ taken) len within = absurd (omega (arith, len))
total_left (count ∷ counts) [] len within = absurd (omega (arith, len))
total_left (count ∷ counts) (t ∷ taken) len within =
    omega (
      arith,
      sum_by-cons (λ (k : ℕ). k) count counts,
      sum_by-cons (λ (k : ℕ). k) t taken,
      within 0,
      total_left counts taken (omega (arith, len)) (λ k. within (suc k)),
    )

posts_length : (c index n : ℕ) → length (posts_at c index n) ≡ n
posts_length c index zero = refl
posts_length c index (suc n) = ap suc (posts_length c (index + 1) n)

counts_left : (c : ℕ) (counts taken : List ℕ) → counts_of (left_of c counts taken) ≡ left_counts counts taken
counts_left c [] taken = refl
counts_left c (count ∷ counts) [] =
    ap (λ n. n ∷ counts_of (left_of (suc c) counts [])) (posts_length c 0 count)
    ∙ ap (λ l. count ∷ l) (counts_left (suc c) counts [])
counts_left c (count ∷ counts) (t ∷ taken) =
    ap (λ n. n ∷ counts_of (left_of (suc c) counts taken)) (posts_length c t (count - t))
    ∙ ap (λ l. (count - t) ∷ l) (counts_left (suc c) counts taken)

-- how many sequences there are of what is left
on_counted : (counts taken : List ℕ) (posts : Batch) → IsPath counts taken posts
    → length (sequences_on counts (left_over counts taken) taken) ≡ number_of_sequences (left_counts counts taken)
on_counted counts taken posts path =
    let same = counts_left 0 counts taken in
    let all : total (counts_of (left_of 0 counts taken)) ≡ left_over counts taken =
    ap total same ∙ (let e = total_left counts taken path.len path.within in omega (arith, e)) in
    ap (λ l. length l) (sym (sequences_are (left_over counts taken) counts taken path.len))
    ∙ sequences_counted (left_over counts taken) (left_of 0 counts taken) all
    ∙ ap number_of_sequences same

-- where the caller has no post left, no sequence goes on with one
pub by_past : (counts taken : List ℕ) (c : ℕ) → slice_index counts c ≤ slice_index taken c
    → number_by counts taken c ≡ 0
by_past counts taken c past =
    ap (λ l. length l) (by_none counts (left_over counts taken - 1) taken c (none_left counts taken c past))

-- where it has one, there are as many as of what is then left
pub by_counted : (counts taken : List ℕ) (posts : Batch) (c : ℕ) → IsPath counts taken posts → c < length counts
    → slice_index taken c < slice_index counts c
    → number_by counts taken c
    ≡ number_of_sequences (slice_set (left_counts counts taken) c (slice_index counts c - slice_index taken c - 1))
by_counted counts taken posts c path low some =
    let new = with_taken taken c in
    let more = path_taken counts taken posts c path low some in
    let less : left_over counts taken - 1 ≡ left_over counts new = let e =
    left_taken counts taken posts c path low some in omega (arith, e) in
    ap (λ l. length l) (by_some counts (left_over counts taken - 1) taken c (some_left counts taken c some))
    ∙ length-map (sequences_on counts (left_over counts taken - 1) new)
    (λ sequence. post c (slice_index taken c) ∷ sequence)
    ∙ ap (λ n. length (sequences_on counts n new)) less
    ∙ on_counted counts new (posts ++ post c (slice_index taken c) ∷ []) more
    ∙ ap number_of_sequences (sym (left_set counts taken c path.len low))

-- a caller with whose next post sequences go on has one left
pub has_next : (counts taken : List ℕ) (number : ℕ) (place : Place)
    → FallsIn (Some place) (number_by counts taken) (length counts) number
    → slice_index taken place.piece < slice_index counts place.piece
has_next counts taken number place falls =
    elim (cases_lt (slice_index taken place.piece) (slice_index counts place.piece)) [
      | inl low ↦ low
      | inr high ↦ absurd (omega (arith, falls.1, by_past counts taken place.piece high))
    ]

from_all : (counts taken : List ℕ) (m number : ℕ) → slice_get (sequences_from counts m taken 0) number
    ≡ slice_get (flat_map (sequences_by counts m taken) (range_with_len 0 (length counts))) number
unfolding sequences_from
from_all counts taken m number =
    let e : length counts - 0 ≡ length counts = omega arith in
    ap (λ n. slice_get (flat_map (sequences_by counts m taken) (range_with_len 0 n)) number) e

on_all : (counts taken : List ℕ) (number : ℕ) → 0 < left_over counts taken
    → slice_get (sequences_on counts (left_over counts taken) taken) number ≡ slice_get
    (flat_map (sequences_by counts (left_over counts taken - 1) taken) (range_with_len 0 (length counts))) number
on_all counts taken number some =
    let e : left_over counts taken ≡ suc (left_over counts taken - 1) = omega arith in
    ap (λ n. slice_get (sequences_on counts n taken) number) e
    ∙ ap (λ l. slice_get l number) (on_step counts (left_over counts taken - 1) taken)
    ∙ from_all counts taken (left_over counts taken - 1) number

-- the sequence of a number goes on with the next post of the caller among whose sequences it falls
pub goes_on_by : (counts taken : List ℕ) (posts : Batch) (number : ℕ) (place : Place) → IsPath counts taken posts
    → 0 < left_over counts taken → FallsIn (Some place) (number_by counts taken) (length counts) number
    → slice_get (sequences_on counts (left_over counts taken) taken) number
    ≡ option_map (λ sequence. post place.piece (slice_index taken place.piece) ∷ sequence) (slice_get
    (sequences_on counts (left_over counts (with_taken taken place.piece)) (with_taken taken place.piece)) place.number)
goes_on_by counts taken posts number place path left falls =
    let c = place.piece in
    let m = left_over counts taken - 1 in
    let some = has_next counts taken number place falls in
    let less : m ≡ left_over counts (with_taken taken c) = let e = left_taken counts taken posts c path falls.0 some in
    omega (arith, e) in
    on_all counts taken number left
    ∙ at_piece (sequences_by counts m taken) (number_by counts taken) (length counts) number place (λ k low. refl) falls
    ∙ ap (λ l. slice_get l place.number) (by_some counts m taken c (some_left counts taken c some))
    ∙ slice_get-map (λ sequence. post c (slice_index taken c) ∷ sequence)
    (sequences_on counts m (with_taken taken c)) place.number
    ∙ ap (λ n. option_map (λ sequence. post c (slice_index taken c) ∷ sequence)
    (slice_get (sequences_on counts n (with_taken taken c)) place.number)) less

-- where it falls among those of none, there is no such sequence
pub goes_on_none : (counts taken : List ℕ) (number : ℕ) → 0 < left_over counts taken
    → FallsIn None (number_by counts taken) (length counts) number
    → slice_get (sequences_on counts (left_over counts taken) taken) number ≡ None
goes_on_none counts taken number left falls =
    on_all counts taken number left
    ∙ past_pieces (sequences_by counts (left_over counts taken - 1) taken) (number_by counts taken)
    (length counts) number (λ k low. refl) falls

-- what is mapped twice
pub map_twice : {A B C : Type 0} (f : B → C) (g : A → B) (o : Option A)
    → option_map f (option_map g o) ≡ option_map (λ x. f (g x)) o
map_twice f g None = refl
map_twice f g (Some x) = refl

pub added : {X : Type 0} (done : List X) (x : X) (o : Option (List X))
    → option_map (λ l. done ++ l) (option_map (λ l. x ∷ l) o) ≡ option_map (λ l. (done ++ x ∷ []) ++ l) o
added done x None = refl
added done x (Some l) = ap Some (sym (append_assoc done (x ∷ []) l))

pub nothing_added : {X : Type 0} (o : Option (List X)) → option_map (λ l. [] ++ l) o ≡ o
nothing_added None = refl
nothing_added (Some l) = refl

-- the sequence of a number, from the first post on
pub from_start : (callers : Callers) (counts taken : List ℕ) (posts : Batch) (number : ℕ) → counts ≡ counts_of callers
    → taken ≡ replicate (length callers) 0 → posts ≡ []
    → slice_get (sequences (total (counts_of callers)) (posts_from 0 callers)) number
    ≡ option_map (λ sequence. posts ++ sequence) (slice_get (sequences_on counts (left_over counts taken) taken) number)
from_start callers counts taken posts number same zeros none =
    let all = counts_of callers in
    let start = replicate (length callers) 0 in
    let left : total all ≡ left_over all start = let a = total_sum all in let b = sum_zeros (length callers) in
    omega (arith, a, b) in
    let len : length start ≡ length all =
    length-zeros (length callers) ∙ sym (length-map callers (λ posts. length posts)) in
    ap (λ l. slice_get (sequences (total all) l) number) (start_left 0 callers)
    ∙ ap (λ l. slice_get l number) (sequences_are (total all) all start len)
    ∙ ap (λ n. slice_get (sequences_on all n start) number) left
    ∙ ap (λ t. slice_get (sequences_on all (left_over all t) t) number) (sym zeros)
    ∙ ap (λ l. slice_get (sequences_on l (left_over l taken) taken) number) (sym same)
    ∙ sym (nothing_added (slice_get (sequences_on counts (left_over counts taken) taken) number))
    ∙ ap (λ l. option_map (λ sequence. l ++ sequence)
    (slice_get (sequences_on counts (left_over counts taken) taken) number)) (sym none)

-- a sequence that is whole is the only one
pub at_end : {X : Type 0} (x : X) (number : ℕ) → 0 < number → slice_get (x ∷ []) number ≡ None
at_end x zero some = absurd (omega (arith, some))
at_end x (suc n) some = refl

pub whole_only : (counts taken : List ℕ) (number : ℕ) → left_over counts taken ≡ 0
    → slice_get (sequences_on counts (left_over counts taken) taken) number ≡ slice_get ([] ∷ []) number
whole_only counts taken number none =
    ap (λ n. slice_get (sequences_on counts n taken) number) none ∙ ap (λ l. slice_get l number) (on_zero counts taken)

-- a drain takes as many as the cut of the number does
drain_length : (later : List Event) (rest : Batch) (k : ℕ)
    → length (map (λ batches. take k rest ∷ batches) (cuts later (drop k rest)))
    ≡ number_of_cuts later (length rest - k)
drain_length later rest k =
    length-map (cuts later (drop k rest)) (λ batches. take k rest ∷ batches) ∙ cuts_counted later (drop k rest)
    ∙ ap (number_of_cuts later) (length-drop k rest)

pub drain_some : (later : List Event) (most : ℕ) (rest : Batch) (number : ℕ) (place : Place)
    → FallsIn (Some place) (λ taken. number_of_cuts later (length rest - taken)) (suc (min most (length rest))) number
    → slice_get (cuts (event.Drain most ∷ later) rest) number
    ≡ option_map (λ cut. take place.piece rest ∷ cut) (slice_get (cuts later (drop place.piece rest)) place.number)
drain_some later most rest number place falls =
    ap (λ l. slice_get l number)
    (splits_are (λ split. map (λ batches. split.taken ∷ batches) (cuts later split.left)) most rest)
    ∙ at_piece (λ k. map (λ batches. take k rest ∷ batches) (cuts later (drop k rest))) (λ taken. number_of_cuts later
    (length rest - taken)) (suc (min most (length rest))) number place (λ k low. drain_length later rest k) falls
    ∙ slice_get-map (λ batches. take place.piece rest ∷ batches) (cuts later (drop place.piece rest)) place.number

pub drain_none : (later : List Event) (most : ℕ) (rest : Batch) (number : ℕ)
    → FallsIn None (λ taken. number_of_cuts later (length rest - taken)) (suc (min most (length rest))) number
    → slice_get (cuts (event.Drain most ∷ later) rest) number ≡ None
drain_none later most rest number falls =
    ap (λ l. slice_get l number)
    (splits_are (λ split. map (λ batches. split.taken ∷ batches) (cuts later split.left)) most rest)
    ∙ past_pieces (λ k. map (λ batches. take k rest ∷ batches) (cuts later (drop k rest))) (λ taken. number_of_cuts
    later (length rest - taken)) (suc (min most (length rest))) number (λ k low. drain_length later rest k) falls

-- each sequence is cut in as many ways
same_cuts : (script : Script) (sequence : Batch)
    → In sequence (sequences (total (counts_of script.callers)) (posts_from 0 script.callers))
    → length (cuts script.events sequence) ≡ number_of_cuts script.events (total (counts_of script.callers))
same_cuts script sequence i =
    cuts_counted script.events sequence ∙ ap (number_of_cuts script.events)
    (sequences_hold_all (total (counts_of script.callers)) (posts_from 0 script.callers) sequence i)

-- the order of a number is a cut of a sequence
pub order_some : (script : Script) (s r number : ℕ) (sequence : Batch)
    → r < number_of_cuts script.events (total (counts_of script.callers))
    → number ≡ s * number_of_cuts script.events (total (counts_of script.callers)) + r
    → slice_get (sequences (total (counts_of script.callers)) (posts_from 0 script.callers)) s ≡ Some sequence
    → slice_get (orders script) number ≡ slice_get (cuts script.events sequence) r
order_some script s r number sequence low is there =
    at_group (cuts script.events) (number_of_cuts script.events (total (counts_of script.callers)))
    (sequences (total (counts_of script.callers)) (posts_from 0 script.callers))
    (same_cuts script) s r number sequence low is there

pub order_none : (script : Script) (s r number : ℕ)
    → number ≡ s * number_of_cuts script.events (total (counts_of script.callers)) + r
    → slice_get (sequences (total (counts_of script.callers)) (posts_from 0 script.callers)) s ≡ None
    → slice_get (orders script) number ≡ None
order_none script s r number is none =
    past_groups (cuts script.events) (number_of_cuts script.events (total (counts_of script.callers)))
    (sequences (total (counts_of script.callers)) (posts_from 0 script.callers)) (same_cuts script) s r number is none

pub first_only : {X : Type 0} (number : ℕ) → number ≤ 0 → slice_get {X = List X} ([] ∷ []) number ≡ Some []
first_only zero none = refl
first_only (suc n) none = absurd (omega (arith, none))

-- a number below the cap is divided as by the number that isn't capped
pub divided : (number ways k : ℕ) → number + 1 < 2 ^ 64 → k ≡ min ways (2 ^ 64 - 1) → 0 < ways
    → (number % k < ways) × (number ≡ number / k * ways + number % k)
divided number ways k small capped some = elim (cases_lt ways (2 ^ 64 - 1)) [
  | inl low ↦
      let e : k ≡ ways = omega (arith, capped, low) in
      rw e (mod-lt number some, sym (div-add-mod' number ways))
  | inr high ↦
      let below : number < k = omega (arith, capped, high, small) in
      rw (mod-eq_of_lt below, div-eq_of_lt below) (
        omega (arith, high, small),
        sym (ap (λ n. n + number) (zero-mul ways) ∙ zero-add number),
      )
]
