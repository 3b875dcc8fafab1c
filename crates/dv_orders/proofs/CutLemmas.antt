-- How the list of ways to cut a sequence goes on from one to the next, and that it is the list of its cuts.
use Rattle.std.proofs.Common.{arith, ◌≡◌, ℕ, zero, suc, ◌+◌, ◌-◌, ◌<◌, ◌≤◌, List, [], ◌∷◌, ◌++◌, ◌∙◌, length, map}
use Rattle.std.proofs.Common.{flat_map, min, replicate, reverse, slice_index, slice_set, take, drop, refl, sym, ap}
use Rattle.std.proofs.Common.{add-one, append_assoc, append-nil, length-append, length-drop, length-take}
use Rattle.std.specs.List.{range_with_len}
use Rattle.std.proofs.Math.Nat.{sub-zero}
use Rattle.std.proofs.lemmas.List.{drop-drop, drop_more, drop-set, length-reverse, set_split, take_more, take-set}
use Rattle.std.proofs.lemmas.List.{map-append, reverse-append, reverse-reverse}
use Rattle.dv_script.specs.declared.event.Event.{Event}
use Rattle.dv_script.specs.declared.event.Event.TheVariants as event
use Rattle.dv_posts.specs.Batches.{Batch}
use Rattle.dv_orders.specs.Batching.{cut_by, later_lengths, lengths_beyond, lengths_from, lengths_of}
use Rattle.dv_orders.specs.Faults.{drains_of}
use Rattle.dv_orders.specs.Orders.{Split, after_post, cuts, splits}
use Rattle.dv_orders.proofs.Members.{map_map}

range_step : (k n : ℕ) → k < n → range_with_len k (n - k) ≡ k ∷ range_with_len (k + 1) (n - (k + 1))
range_step k n low = let e : n - k ≡ suc (n - (k + 1)) = omega arith in rw e refl

-- the ways in which the first drain takes so many
abbrev with_first : List ℕ → ℕ → ℕ → List (List ℕ)
with_first drains count taken = map (λ lengths. taken ∷ lengths) (lengths_of drains (count - taken))

from_step : (most : ℕ) (drains : List ℕ) (count k : ℕ) → k ≤ most → k ≤ count
    → lengths_from (most ∷ drains) count k ≡ with_first drains count k ++ lengths_from (most ∷ drains) count (k + 1)
unfolding lengths_from
from_step most drains count k few some =
    ap (flat_map (with_first drains count)) (range_step k (suc (min most count)) (omega arith))

from_past : (drains : List ℕ) (count k : ℕ) (most : ℕ) → min most count < k → lengths_from (most ∷ drains) count k ≡ []
unfolding lengths_from
from_past drains count k most many = let e : suc (min most count) - k ≡ 0 = omega arith in rw e refl

of_more : (most : ℕ) (drains : List ℕ) (count : ℕ)
    → lengths_of (most ∷ drains) count ≡ lengths_from (most ∷ drains) count 0
unfolding lengths_of lengths_from
of_more most drains count =
    ap (λ n. flat_map (with_first drains count) (range_with_len 0 n)) (sym (sub-zero (suc (min most count))))

of_all : (most : ℕ) (drains : List ℕ) (count : ℕ)
    → lengths_of (most ∷ drains) count ≡ flat_map (with_first drains count) (range_with_len 0 (suc (min most count)))
unfolding lengths_of
of_all most drains count = refl

of_none : (count : ℕ) → lengths_of [] count ≡ [] ∷ []
unfolding lengths_of
of_none count = refl

beyond_more : (drains : List ℕ) (left taken : ℕ) (before : List ℕ)
    → lengths_beyond drains left (taken ∷ before)
    ≡ map (λ lengths. reverse before ++ lengths) (lengths_from (drop (length before) drains) (left + taken) (taken + 1))
    ++ lengths_beyond drains (left + taken) before
unfolding lengths_beyond
beyond_more drains left taken before = refl

-- what is listed after these lengths and one more: the ways in which that is greater, and what is listed after the
-- others
later_push : (drains : List ℕ) (left : ℕ) (xs : List ℕ) (k : ℕ)
    → later_lengths drains left (xs ++ k ∷ []) ≡ map (λ lengths. xs ++ lengths)
    (lengths_from (drop (length xs) drains) (left + k) (k + 1)) ++ later_lengths drains (left + k) xs
later_push drains left xs k =
    ap (lengths_beyond drains left) (reverse-append xs (k ∷ []))
    ∙ beyond_more drains left k (reverse xs)
    ∙ ap
    (λ (l : List ℕ). map (λ lengths. l ++ lengths) (lengths_from (drop (length (reverse xs)) drains) (left + k) (k + 1))
    ++ later_lengths drains (left + k) xs) (reverse-reverse xs)
    ∙ ap (λ n. map (λ lengths. xs ++ lengths) (lengths_from (drop n drains) (left + k) (k + 1))
    ++ later_lengths drains (left + k) xs) (length-reverse xs)

-- the ways in which a drain takes so many or more, and what is listed later: all that begin so, and what is listed
-- after them
ways_on : (drains xs rest : List ℕ) (most count k : ℕ) → drop (length xs) drains ≡ most ∷ rest → k ≤ most → k ≤ count
    → map (λ lengths. xs ++ lengths) (lengths_from (most ∷ rest) count k) ++ later_lengths drains count xs
    ≡ map (λ lengths. (xs ++ k ∷ []) ++ lengths) (lengths_of rest (count - k))
    ++ later_lengths drains (count - k) (xs ++ k ∷ [])
ways_on drains xs rest most count k at few some =
    let with : List ℕ → List ℕ = λ lengths. xs ++ lengths in
    let ways = lengths_of rest (count - k) in
    let more = lengths_from (most ∷ rest) count (k + 1) in
    let later = later_lengths drains count xs in
    let all : count - k + k ≡ count = omega arith in
    let same : map with (map (λ lengths. k ∷ lengths) ways) ≡ map (λ lengths. (xs ++ k ∷ []) ++ lengths) ways =
    map_map with (λ lengths. k ∷ lengths) ways ∙ simp append_assoc in
    let back : map with more ++ later ≡ later_lengths drains (count - k) (xs ++ k ∷ []) =
    sym (later_push drains (count - k) xs k
    ∙ ap (λ n. map with (lengths_from (drop (length xs) drains) n (k + 1)) ++ later_lengths drains n xs) all
    ∙ ap (λ l. map with (lengths_from l count (k + 1)) ++ later) at) in
    ap (λ l. map with l ++ later) (from_step most rest count k few some)
    ∙ ap (λ l. l ++ later) (map-append with (map (λ lengths. k ∷ lengths) ways) more)
    ∙ append_assoc (map with (map (λ lengths. k ∷ lengths) ways)) (map with more) later
    ∙ ap (λ l. l ++ (map with more ++ later)) same
    ∙ ap (λ l. map (λ lengths. (xs ++ k ∷ []) ++ lengths) ways ++ l) back

next_drain : (drains xs rest : List ℕ) (most k : ℕ) → drop (length xs) drains ≡ most ∷ rest
    → drop (length (xs ++ k ∷ [])) drains ≡ rest
next_drain drains xs rest most k at =
    ap (λ n. drop n drains) (length-append xs (k ∷ [])) ∙ sym (drop-drop 1 (length xs) drains) ∙ ap (drop 1) at

-- the first of the ways that begin so takes no more
pub first_way : (drains xs rest : List ℕ) (left : ℕ) → drop (length xs) drains ≡ rest
    → map (λ lengths. xs ++ lengths) (lengths_of rest left) ++ later_lengths drains left xs
    ≡ (xs ++ replicate (length rest) 0) ∷ later_lengths drains left (xs ++ replicate (length rest) 0)
first_way drains xs [] left at =
    ap (λ l. map (λ lengths. xs ++ lengths) l ++ later_lengths drains left xs) (of_none left)
    ∙ ap (λ l. (xs ++ []) ∷ later_lengths drains left l) (sym (append-nil xs))
first_way drains xs (most ∷ rest) left at =
    ap (λ l. map (λ lengths. xs ++ lengths) l ++ later_lengths drains left xs) (of_more most rest left)
    ∙ ways_on drains xs rest most left 0 at (omega arith) (omega arith)
    ∙ ap (λ k. map (λ lengths. (xs ++ 0 ∷ []) ++ lengths) (lengths_of rest k) ++ later_lengths drains k (xs ++ 0 ∷ []))
    (sub-zero left)
    ∙ first_way drains (xs ++ 0 ∷ []) rest left (next_drain drains xs rest most 0 at)
    ∙ ap (λ l. l ∷ later_lengths drains left l) (append_assoc xs (0 ∷ []) (replicate (length rest) 0))

-- where a drain takes one more, this is the next way
pub next_way : (drains xs rest : List ℕ) (most left k : ℕ) → drop (length xs) drains ≡ most ∷ rest → k < most → 0 < left
    → later_lengths drains left (xs ++ k ∷ []) ≡ (xs ++ (k + 1) ∷ replicate (length rest) 0)
    ∷ later_lengths drains (left - 1) (xs ++ (k + 1) ∷ replicate (length rest) 0)
next_way drains xs rest most left k at few some =
    let less : left + k - (k + 1) ≡ left - 1 = omega arith in
    later_push drains left xs k
    ∙ ap
    (λ l. map (λ lengths. xs ++ lengths) (lengths_from l (left + k) (k + 1)) ++ later_lengths drains (left + k) xs) at
    ∙ ways_on drains xs rest most (left + k) (k + 1) at (omega arith) (omega arith)
    ∙ ap (λ n. map (λ lengths. (xs ++ (k + 1) ∷ []) ++ lengths) (lengths_of rest n)
    ++ later_lengths drains n (xs ++ (k + 1) ∷ [])) less
    ∙ first_way drains (xs ++ (k + 1) ∷ []) rest (left - 1) (next_drain drains xs rest most (k + 1) at)
    ∙ ap (λ l. l ∷ later_lengths drains (left - 1) l) (append_assoc xs ((k + 1) ∷ []) (replicate (length rest) 0))

-- where it can take no more, what is listed later goes on from the drain before it
pub last_way : (drains xs rest : List ℕ) (most left k : ℕ) → drop (length xs) drains ≡ most ∷ rest
    → min most (left + k) ≤ k
    → later_lengths drains left (xs ++ k ∷ []) ≡ later_lengths drains (left + k) xs
last_way drains xs rest most left k at none =
    later_push drains left xs k
    ∙ ap
    (λ l. map (λ lengths. xs ++ lengths) (lengths_from l (left + k) (k + 1)) ++ later_lengths drains (left + k) xs) at
    ∙ ap (λ l. map (λ lengths. xs ++ lengths) l ++ later_lengths drains (left + k) xs)
    (from_past rest (left + k) (k + 1) most (omega arith))

-- at the first drain nothing is listed later
pub later_none : (drains : List ℕ) (left : ℕ) → later_lengths drains left [] ≡ []
unfolding lengths_beyond
later_none drains left = refl

-- the first of all ways takes nothing at any drain
pub all_ways : (drains : List ℕ) (left : ℕ)
    → lengths_of drains left ≡ replicate (length drains) 0 ∷ later_lengths drains left (replicate (length drains) 0)
all_ways drains left =
    sym (map_same (lengths_of drains left))
    ∙ sym (append-nil (map (λ lengths. [] ++ lengths) (lengths_of drains left)))
    ∙ ap (λ l. map (λ lengths. [] ++ lengths) (lengths_of drains left) ++ l) (sym (later_none drains left))
    ∙ first_way drains [] drains left refl
  where
    map_same : (l : List (List ℕ)) → map (λ lengths. [] ++ lengths) l ≡ l
    map_same [] = refl
    map_same (x ∷ l) = ap (λ r. x ∷ r) (map_same l)

-- lists made of a list
pub flat_same : {X Y : Type 0} (f g : X → List Y) (xs : List X) → ((x : X) → f x ≡ g x) → flat_map f xs ≡ flat_map g xs
flat_same f g [] same = refl
flat_same f g (x ∷ xs) same = ap (λ l. l ++ flat_map f xs) (same x) ∙ ap (λ l. g x ++ l) (flat_same f g xs same)

pub flat_mapped : {X Y Z : Type 0} (f : Y → List Z) (g : X → Y) (xs : List X)
    → flat_map f (map g xs) ≡ flat_map (λ x. f (g x)) xs
flat_mapped f g [] = refl
flat_mapped f g (x ∷ xs) = ap (λ l. f (g x) ++ l) (flat_mapped f g xs)

map_flat : {X Y Z : Type 0} (f : Y → Z) (g : X → List Y) (xs : List X)
    → map f (flat_map g xs) ≡ flat_map (λ x. map f (g x)) xs
map_flat f g [] = refl
map_flat f g (x ∷ xs) = map-append f (g x) (flat_map g xs) ∙ ap (λ l. map f (g x) ++ l) (map_flat f g xs)

pub flat_shift : {Y : Type 0} (f : ℕ → List Y) (a n : ℕ)
    → flat_map f (range_with_len (a + 1) n) ≡ flat_map (λ k. f (k + 1)) (range_with_len a n)
flat_shift f a zero = refl
flat_shift f a (suc n) = ap (λ l. f (a + 1) ++ l) (flat_shift f (a + 1) n)

pub splits_are : {Y : Type 0} (f : Split → List Y) (most : ℕ) (sequence : Batch)
    → flat_map f (splits most sequence) ≡ flat_map (λ k. f (record { taken = take k sequence; left = drop k sequence }))
    (range_with_len 0 (suc (min most (length sequence))))
splits_are f zero sequence = let e : min 0 (length sequence) ≡ 0 = omega arith in rw e refl
splits_are f (suc most) [] = let e : min (suc most) 0 ≡ 0 = omega arith in rw e refl
splits_are f (suc most) (p ∷ sequence) =
    let e : min (suc most) (suc (length sequence)) ≡ suc (min most (length sequence)) = omega arith in
    let first = f (record { taken = []; left = p ∷ sequence }) in
    ap (λ l. first ++ l) (flat_mapped f (after_post p) (splits most sequence)
    ∙ splits_are (λ split. f (after_post p split)) most sequence
    ∙ flat_same (λ k. f (record { taken = p ∷ take k sequence; left = drop k sequence }))
    (λ k. f (record { taken = take (k + 1) (p ∷ sequence); left = drop (k + 1) (p ∷ sequence) }))
    (range_with_len 0 (suc (min most (length sequence)))) (λ k. rw add-one refl)
    ∙ sym (flat_shift (λ k. f (record { taken = take k (p ∷ sequence); left = drop k (p ∷ sequence) })) 0
    (suc (min most (length sequence)))))
    ∙ ap (λ n. flat_map (λ k. f (record { taken = take k (p ∷ sequence); left = drop k (p ∷ sequence) }))
    (range_with_len 0 (suc n))) (sym e)

-- the cuts of a sequence are its batches of all lengths
pub cuts_are : (events : List Event) (sequence : Batch)
    → cuts events sequence ≡ map (λ lengths. cut_by lengths sequence) (lengths_of (drains_of events) (length sequence))
cuts_are [] sequence = ap (map (λ lengths. cut_by lengths sequence)) (sym (of_none (length sequence)))
cuts_are (event.Action action ∷ events) sequence = cuts_are events sequence
cuts_are (event.Advance ticks ∷ events) sequence = cuts_are events sequence
cuts_are (event.Expect name expected ∷ events) sequence = cuts_are events sequence
cuts_are (event.Drain most ∷ events) sequence =
    let drains = drains_of events in
    let range = range_with_len 0 (suc (min most (length sequence))) in
    splits_are (λ split. map (λ batches. split.taken ∷ batches) (cuts events split.left)) most sequence
    ∙ flat_same (λ k. map (λ batches. take k sequence ∷ batches) (cuts events (drop k sequence)))
    (λ k. map (λ lengths. cut_by lengths sequence) (with_first drains (length sequence) k)) range
    (λ k.
    ap (map (λ batches. take k sequence ∷ batches)) (cuts_are events (drop k sequence)
    ∙ ap (λ n. map (λ lengths. cut_by lengths (drop k sequence)) (lengths_of drains n)) (length-drop k sequence))
    ∙ map_map (λ batches. take k sequence ∷ batches) (λ lengths. cut_by lengths (drop k sequence))
    (lengths_of drains (length sequence - k))
    ∙ sym
    (map_map (λ lengths. cut_by lengths sequence) (λ lengths. k ∷ lengths) (lengths_of drains (length sequence - k))))
    ∙ sym (map_flat (λ lengths. cut_by lengths sequence) (with_first drains (length sequence)) range)
    ∙ ap (map (λ lengths. cut_by lengths sequence)) (sym (of_all most drains (length sequence)))

length-take_le : (i : ℕ) (l : List ℕ) → i ≤ length l → length (take i l) ≡ i
length-take_le i l low = omega (arith, length-take i l)

-- the drain at this place takes one more: the next way
pub way_found : (drains lengths : List ℕ) (left place i k : ℕ) → place ≡ i + 1 → i < length drains
    → length lengths ≡ length drains → k ≡ slice_index lengths i → k < slice_index drains i → 0 < left
    → drop place lengths ≡ replicate (length drains - place) 0
    → later_lengths drains left (take place lengths)
    ≡ slice_set lengths i (k + 1) ∷ later_lengths drains (left - 1) (slice_set lengths i (k + 1))
way_found drains lengths left place i k at low len is few some zeros =
    let low' : i < length lengths = omega arith in
    let rest = drop (i + 1) drains in
    let begin : take place lengths ≡ take i lengths ++ k ∷ [] =
    ap (λ n. take n lengths) at ∙ take_more lengths i 0 low' ∙ ap (λ n. take i lengths ++ n ∷ []) (sym is) in
    let here : drop (length (take i lengths)) drains ≡ slice_index drains i ∷ rest =
    ap (λ n. drop n drains) (length-take_le i lengths (omega arith)) ∙ drop_more drains i 0 low in
    let left_zeros : drop (suc i) lengths ≡ replicate (length rest) 0 =
    ap (λ n. drop n lengths) (sym (add-one i) ∙ sym at) ∙ zeros
    ∙ ap (λ n. replicate n 0) (ap (λ n. length drains - n) at ∙ sym (length-drop (i + 1) drains)) in
    let set : take i lengths ++ (k + 1) ∷ replicate (length rest) 0 ≡ slice_set lengths i (k + 1) =
    sym (set_split lengths i (k + 1) low' ∙ ap (λ l. take i lengths ++ (k + 1) ∷ l) left_zeros) in
    ap (later_lengths drains left) begin
    ∙ next_way drains (take i lengths) rest (slice_index drains i) left k here few some
    ∙ ap (λ l. l ∷ later_lengths drains (left - 1) l) set

-- the drain at this place can take no more
pub way_passed : (drains lengths : List ℕ) (left place i k : ℕ) → place ≡ i + 1 → i < length drains
    → length lengths ≡ length drains → k ≡ slice_index lengths i → min (slice_index drains i) (left + k) ≤ k
    → later_lengths drains left (take place lengths) ≡ later_lengths drains (left + k) (take i (slice_set lengths i 0))
way_passed drains lengths left place i k at low len is none =
    let low' : i < length lengths = omega arith in
    let begin : take place lengths ≡ take i lengths ++ k ∷ [] =
    ap (λ n. take n lengths) at ∙ take_more lengths i 0 low' ∙ ap (λ n. take i lengths ++ n ∷ []) (sym is) in
    let here : drop (length (take i lengths)) drains ≡ slice_index drains i ∷ drop (i + 1) drains =
    ap (λ n. drop n drains) (length-take_le i lengths (omega arith)) ∙ drop_more drains i 0 low in
    ap (later_lengths drains left) begin
    ∙ last_way drains (take i lengths) (drop (i + 1) drains) (slice_index drains i) left k here none
    ∙ ap (later_lengths drains (left + k)) (sym (take-set lengths i 0))

-- from here on nothing is taken
pub zeros_more : (lengths : List ℕ) (n place i : ℕ) → place ≡ i + 1 → i < length lengths → place ≤ n
    → drop place lengths ≡ replicate (n - place) 0 → drop i (slice_set lengths i 0) ≡ replicate (n - i) 0
zeros_more lengths n place i at low within zeros =
    drop-set lengths i 0 low ∙ ap (λ l. 0 ∷ l) (ap (λ k. drop k lengths) (sym at) ∙ zeros)
    ∙ ap (λ k. replicate k 0) (let e : suc (n - place) ≡ n - i = omega arith in e)
