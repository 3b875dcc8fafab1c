-- How the list of sequences goes on from one to the next.
use Rattle.std.proofs.Common.{arith, ◌≡◌, ℕ, zero, suc, ◌+◌, ◌-◌, ◌<◌, ◌≤◌, Bool, true, false, cond, Some, None, List}
use Rattle.std.proofs.Common.{[], ◌∷◌, ◌++◌, ◌∙◌, length, map, flat_map, reverse, slice_index, slice_set, sum, refl}
use Rattle.std.proofs.Common.{sym, ap, subst, add-zero, append_assoc, append-nil, length-append}
use Rattle.std.specs.List.{range_with_len}
use Rattle.std.proofs.Math.Nat.{sub-zero}
use Rattle.std.proofs.lemmas.List.{get_or-set_same, get_or-set_other, set-set, set-get_or, length-set, map-append}
use Rattle.std.proofs.lemmas.List.{reverse-append, reverse-reverse}
use Rattle.std.proofs.lemmas.List.Sums.{sum_by-set, sum_by-cons}
use Rattle.std.proofs.lemmas.Bool.{cases_eq, cases_lt}
use Rattle.std.proofs.lemmas.Bool.Decides.{nat_tests}
use mathlib.Core.Logic.{inl, inr}
use Rattle.dv_posts.specs.Batches.{Batch}
use Rattle.dv_posts.specs.Posts.{post}
use Rattle.dv_posts.specs.declared.posted.Posted.{Posted}
use Rattle.dv_orders.specs.Sequencing.{AreTaken, FindsCaller, IsPath, has_left, later_sequences, left_over}
use Rattle.dv_orders.specs.Sequencing.{listed_sequences, sequences_beyond, sequences_by, sequences_from, sequences_on}
use Rattle.dv_orders.specs.Sequencing.{sequences_through, with_taken}
use Rattle.dv_orders.proofs.Members.{map_map}

range_step : (c n : ℕ) → c < n → range_with_len c (n - c) ≡ c ∷ range_with_len (c + 1) (n - (c + 1))
range_step c n low = let e : n - c ≡ suc (n - (c + 1)) = omega arith in rw e refl

range_past : (c n : ℕ) → n ≤ c → range_with_len c (n - c) ≡ []
range_past c n high = let e : n - c ≡ 0 = omega arith in rw e refl

-- those of a caller, and those of the callers after it
from_step : (counts : List ℕ) (n : ℕ) (taken : List ℕ) (c : ℕ) → c < length counts
    → sequences_from counts n taken c ≡ sequences_by counts n taken c ++ sequences_from counts n taken (c + 1)
unfolding sequences_from
from_step counts n taken c low = ap (flat_map (sequences_by counts n taken)) (range_step c (length counts) low)

from_past : (counts : List ℕ) (n : ℕ) (taken : List ℕ) (c : ℕ) → length counts ≤ c
    → sequences_from counts n taken c ≡ []
unfolding sequences_from
from_past counts n taken c high = ap (flat_map (sequences_by counts n taken)) (range_past c (length counts) high)

pub by_none : (counts : List ℕ) (n : ℕ) (taken : List ℕ) (c : ℕ) → has_left counts taken c ≡ false
    → sequences_by counts n taken c ≡ []
unfolding sequences_by
by_none counts n taken c none =
    ap (λ (b : Bool). cond b
    (map (λ sequence. post c (slice_index taken c) ∷ sequence) (sequences_on counts n (with_taken taken c))) []) none

pub by_some : (counts : List ℕ) (n : ℕ) (taken : List ℕ) (c : ℕ) → has_left counts taken c ≡ true
    → sequences_by counts n taken c
    ≡ map (λ sequence. post c (slice_index taken c) ∷ sequence) (sequences_on counts n (with_taken taken c))
unfolding sequences_by
by_some counts n taken c some =
    ap (λ (b : Bool). cond b
    (map (λ sequence. post c (slice_index taken c) ∷ sequence) (sequences_on counts n (with_taken taken c))) []) some

-- callers that have no post left are passed over
from_skips : (counts : List ℕ) (n : ℕ) (taken : List ℕ) (c d : ℕ) → c + d ≤ length counts
    → ((k : ℕ) → c ≤ k → k < c + d → has_left counts taken k ≡ false)
    → sequences_from counts n taken c ≡ sequences_from counts n taken (c + d)
from_skips counts n taken c zero low none = ap (sequences_from counts n taken) (sym (add-zero c))
from_skips counts n taken c (suc d) low none =
    from_skips counts n taken c d (omega (arith, low)) (λ k above below. none k above (omega (arith, below)))
    ∙ from_step counts n taken (c + d) (omega (arith, low))
    ∙ ap (λ l. l ++ sequences_from counts n taken (c + d + 1))
    (by_none counts n taken (c + d) (none (c + d) (omega arith) (omega arith)))
    ∙ ap (sequences_from counts n taken) (omega arith)

pub none_left : (counts taken : List ℕ) (k : ℕ) → slice_index counts k ≤ slice_index taken k
    → has_left counts taken k ≡ false
none_left counts taken k high = grind (arith, nat_tests)

pub some_left : (counts taken : List ℕ) (k : ℕ) → slice_index taken k < slice_index counts k
    → has_left counts taken k ≡ true
some_left counts taken k some = grind (arith, nat_tests)

first_found : (counts : List ℕ) (n : ℕ) (taken : List ℕ) (from c : ℕ) → FindsCaller (Some c) counts taken from
    → sequences_from counts n taken from ≡ sequences_by counts n taken c ++ sequences_from counts n taken (c + 1)
first_found counts n taken from c found =
    let above = found.0 in
    let low = found.1 in
    let e : from + (c - from) ≡ c = omega arith in
    from_skips counts n taken from (c - from) (omega arith)
    (λ k a b. none_left counts taken k (found.3 k a (omega (arith, b))))
    ∙ ap (sequences_from counts n taken) e
    ∙ from_step counts n taken c low

none_found : (counts : List ℕ) (n : ℕ) (taken : List ℕ) (from : ℕ) → FindsCaller None counts taken from
    → sequences_from counts n taken from ≡ []
none_found counts n taken from none = elim (cases_lt from (length counts)) [
  | inr high ↦ from_past counts n taken from high
  | inl low ↦
      let e : from + (length counts - from) ≡ length counts = omega arith in
      from_skips counts n taken from (length counts - from) (omega arith)
      (λ k above below. none_left counts taken k (none k above))
      ∙ from_past counts n taken (from + (length counts - from)) (omega arith)
]

-- all sequences are those of the first caller and those after it
pub on_step : (counts : List ℕ) (n : ℕ) (taken : List ℕ)
    → sequences_on counts (suc n) taken ≡ sequences_from counts n taken 0
unfolding sequences_on sequences_from sequences_by
on_step counts n taken = rw sub-zero refl

pub on_zero : (counts taken : List ℕ) → sequences_on counts 0 taken ≡ [] ∷ []
unfolding sequences_on
on_zero counts taken = refl

beyond_more : (counts : List ℕ) (n : ℕ) (taken : List ℕ) (p : Posted) (before : Batch)
    → sequences_beyond counts n taken (p ∷ before) ≡ map (λ sequence. reverse before ++ sequence)
    (sequences_from counts n (slice_set taken p.caller p.index) (p.caller + 1))
    ++ sequences_beyond counts (suc n) (slice_set taken p.caller p.index) before
unfolding sequences_beyond
beyond_more counts n taken p before = refl

pub beyond_none : (counts : List ℕ) (n : ℕ) (taken : List ℕ) → sequences_beyond counts n taken [] ≡ []
unfolding sequences_beyond
beyond_none counts n taken = refl

reverse_push : (posts : Batch) (p : Posted) → reverse (posts ++ p ∷ []) ≡ p ∷ reverse posts
reverse_push posts p = reverse-append posts (p ∷ [])

-- what is taken is given back
given_back : (taken : List ℕ) (c : ℕ) → slice_set (with_taken taken c) c (slice_index taken c) ≡ taken
given_back taken c = set-set taken c (slice_index taken c + 1) (slice_index taken c) ∙ set-get_or taken c 0

-- the sequences from a caller on, where that is the first that has a post left: all that go on with this, and the
-- others
pub through_found : (counts taken : List ℕ) (posts : Batch) (from c m : ℕ) → FindsCaller (Some c) counts taken from
    → left_over counts taken ≡ suc m → left_over counts (with_taken taken c) ≡ m
    → sequences_through counts taken posts from
    ≡ listed_sequences counts (with_taken taken c) (posts ++ post c (slice_index taken c) ∷ [])
through_found counts taken posts from c m found left less =
    let p = post c (slice_index taken c) in
    let new = with_taken taken c in
    let on = sequences_on counts m new in
    let rest = sequences_from counts m taken (c + 1) in
    let beyond = sequences_beyond counts (suc m) taken (reverse posts) in
    let with : Batch → Batch = λ s. posts ++ s in
    let one : left_over counts taken - 1 ≡ m = omega arith in
    let start : sequences_through counts taken posts from ≡ map with (sequences_from counts m taken from) ++ beyond =
    ap (λ k. map with (sequences_from counts k taken from) ++ later_sequences counts taken posts) one
    ∙ ap (λ k. map with (sequences_from counts m taken from) ++ sequences_beyond counts k taken (reverse posts)) left in
    let first : sequences_from counts m taken from ≡ map (λ s. p ∷ s) on ++ rest =
    first_found counts m taken from c found
    ∙ ap (λ l. l ++ rest) (by_some counts m taken c (some_left counts taken c found.2)) in
    let same : map with (map (λ s. p ∷ s) on) ≡ map (λ s. (posts ++ p ∷ []) ++ s) on =
    map_map with (λ s. p ∷ s) on ∙ simp append_assoc in
    let back : sequences_beyond counts m new (reverse (posts ++ p ∷ [])) ≡ map with rest ++ beyond =
    ap (sequences_beyond counts m new) (reverse_push posts p)
    ∙ beyond_more counts m new p (reverse posts)
    ∙ ap (λ t. map (λ s. reverse (reverse posts) ++ s) (sequences_from counts m t (c + 1))
    ++ sequences_beyond counts (suc m) t (reverse posts)) (given_back taken c)
    ∙ ap (λ (l : Batch). map (λ s. l ++ s) rest ++ beyond) (reverse-reverse posts) in
    start
    ∙ ap (λ l. map with l ++ beyond) first
    ∙ ap (λ l. l ++ beyond) (map-append with (map (λ s. p ∷ s) on) rest)
    ∙ append_assoc (map with (map (λ s. p ∷ s) on)) (map with rest) beyond
    ∙ ap (λ l. l ++ (map with rest ++ beyond)) same
    ∙ ap (λ l. map (λ s. (posts ++ p ∷ []) ++ s) on ++ l) (sym back)
    ∙ ap (λ k. map (λ s. (posts ++ p ∷ []) ++ s) (sequences_on counts k new)
    ++ sequences_beyond counts k new (reverse (posts ++ p ∷ []))) (sym less)

-- where none has a post left, those are none
pub through_none : (counts taken : List ℕ) (posts : Batch) (from : ℕ) → FindsCaller None counts taken from
    → sequences_through counts taken posts from ≡ later_sequences counts taken posts
through_none counts taken posts from none =
    ap (λ l. map (λ s. posts ++ s) l ++ later_sequences counts taken posts)
    (none_found counts (left_over counts taken - 1) taken from none)

-- all sequences that begin with these posts, where some are left
pub listed_through : (counts taken : List ℕ) (posts : Batch) → 0 < left_over counts taken
    → listed_sequences counts taken posts ≡ sequences_through counts taken posts 0
listed_through counts taken posts some =
    let e : left_over counts taken ≡ suc (left_over counts taken - 1) = omega arith in
    ap (λ k. map (λ s. posts ++ s) (sequences_on counts k taken) ++ later_sequences counts taken posts) e
    ∙ ap (λ l. map (λ s. posts ++ s) l ++ later_sequences counts taken posts)
    (on_step counts (left_over counts taken - 1) taken)

-- where none is left, the sequence itself is the first
pub listed_whole : (counts taken : List ℕ) (posts : Batch) → left_over counts taken ≡ 0
    → listed_sequences counts taken posts ≡ posts ∷ later_sequences counts taken posts
listed_whole counts taken posts none =
    ap (λ k. map (λ s. posts ++ s) (sequences_on counts k taken) ++ later_sequences counts taken posts) none
    ∙ ap (λ l. map (λ s. posts ++ s) l ++ later_sequences counts taken posts) (on_zero counts taken)
    ∙ ap (λ l. l ∷ later_sequences counts taken posts) (append-nil posts)

-- without the last post, what is listed later goes on from the callers after its own
pub later_back : (counts taken : List ℕ) (posts : Batch) (p : Posted)
    → left_over counts (slice_set taken p.caller p.index) ≡ suc (left_over counts taken)
    → later_sequences counts taken (posts ++ p ∷ [])
    ≡ sequences_through counts (slice_set taken p.caller p.index) posts (p.caller + 1)
later_back counts taken posts p more =
    let n = left_over counts taken in
    let back = slice_set taken p.caller p.index in
    let e : left_over counts back - 1 ≡ n = omega arith in
    ap (sequences_beyond counts n taken) (reverse_push posts p)
    ∙ beyond_more counts n taken p (reverse posts)
    ∙ ap (λ (l : Batch). map (λ s. l ++ s) (sequences_from counts n back (p.caller + 1))
    ++ sequences_beyond counts (suc n) back (reverse posts)) (reverse-reverse posts)
    ∙ ap (λ k. map (λ s. posts ++ s) (sequences_from counts k back (p.caller + 1))
    ++ sequences_beyond counts (suc n) back (reverse posts)) (sym e)
    ∙ ap (λ k. map (λ s. posts ++ s) (sequences_from counts (left_over counts back - 1) back (p.caller + 1))
    ++ sequences_beyond counts k back (reverse posts)) (sym more)

-- no more are taken together than there are
pub sum_within : (xs ys : List ℕ) → length xs ≡ length ys → ((k : ℕ) → slice_index xs k ≤ slice_index ys k)
    → sum xs ≤ sum ys
sum_within [] [] len within = omega arith
sum_within [] (y ∷ ys) len within = absurd (omega (arith, len))
sum_within (x ∷ xs) [] len within = absurd (omega (arith, len))
sum_within (x ∷ xs) (y ∷ ys) len within =
    omega (
      arith,
      sum_by-cons (λ (k : ℕ). k) x xs,
      sum_by-cons (λ (k : ℕ). k) y ys,
      within 0,
      sum_within xs ys (omega (arith, len)) (λ k. within (suc k)),
    )

sum_taken : (taken : List ℕ) (c : ℕ) → c < length taken → sum (with_taken taken c) ≡ sum taken + 1
sum_taken taken c low = omega (arith, sum_by-set (λ (k : ℕ). k) taken c (slice_index taken c + 1) 0 low)

pub sum_back : (taken : List ℕ) (c index : ℕ) → c < length taken → slice_index taken c ≡ index + 1
    → sum (slice_set taken c index) + 1 ≡ sum taken
sum_back taken c index low one = omega (arith, sum_by-set (λ (k : ℕ). k) taken c index 0 low)

within_taken : (counts taken : List ℕ) (c : ℕ) → c < length taken → slice_index taken c < slice_index counts c
    → ((k : ℕ) → slice_index taken k ≤ slice_index counts k) → (k : ℕ)
    → slice_index (with_taken taken c) k ≤ slice_index counts k
within_taken counts taken c low some within k = elim (cases_eq k c) [
  | inl same ↦ omega (
    arith,
    ap (slice_index (with_taken taken c)) same,
    get_or-set_same taken c (slice_index taken c + 1) 0 low,
    ap (slice_index counts) same,
  )
  | inr other ↦ omega (arith, get_or-set_other taken c k (slice_index taken c + 1) 0 other, within k)
]

-- one more post is taken
pub path_taken : (counts taken : List ℕ) (posts : Batch) (c : ℕ) → IsPath counts taken posts → c < length counts
    → slice_index taken c < slice_index counts c
    → IsPath counts (with_taken taken c) (posts ++ post c (slice_index taken c) ∷ [])
path_taken counts taken posts c path low some =
    let len = path.len in
    let p = post c (slice_index taken c) in
    let low' : c < length taken = omega arith in
    record {
      few = path.few;
      len = length-set taken c (slice_index taken c + 1) ∙ path.len;
      within = within_taken counts taken c low' some path.within;
      count = length-append posts (p ∷ []) ∙ ap (λ k. k + 1) path.count ∙ sym (sum_taken taken c low');
      back = subst (AreTaken (with_taken taken c)) (sym (reverse_push posts p)) (
        omega (arith, length-set taken c (slice_index taken c + 1)),
        get_or-set_same taken c (slice_index taken c + 1) 0 low',
        subst (λ (t : List ℕ). AreTaken t (reverse posts)) (sym (given_back taken c)) path.back,
      );
    }

pub left_taken : (counts taken : List ℕ) (posts : Batch) (c : ℕ) → IsPath counts taken posts → c < length counts
    → slice_index taken c < slice_index counts c → left_over counts taken ≡ suc (left_over counts (with_taken taken c))
left_taken counts taken posts c path low some =
    let len = path.len in
    let low' : c < length taken = omega arith in
    omega (
      arith,
      sum_taken taken c low',
      sum_within (with_taken taken c) counts (length-set taken c (slice_index taken c + 1) ∙ path.len)
          (within_taken counts taken c low' some path.within),
    )

-- what is known of the last post
pub record LastPost (counts taken : List ℕ) (posts : Batch) (p : Posted) : Type 0 where
  pub low : p.caller < length taken
  pub low_count : p.caller < length counts
  pub one : slice_index taken p.caller ≡ p.index + 1
  pub path : IsPath counts (slice_set taken p.caller p.index) posts
  pub left : left_over counts (slice_set taken p.caller p.index) ≡ suc (left_over counts taken)

pub path_back : (counts taken : List ℕ) (posts : Batch) (p : Posted) → IsPath counts taken (posts ++ p ∷ [])
    → LastPost counts taken posts p
path_back counts taken posts p path =
    let back : AreTaken taken (p ∷ reverse posts) = subst (AreTaken taken) (reverse_push posts p) path.back in
    let low = back.0 in
    let one = back.1 in
    let len = path.len in
    let less = sum_back taken p.caller p.index low one in
    record {
      low = low;
      low_count = omega arith;
      one = one;
      path = record {
        few = path.few;
        len = length-set taken p.caller p.index ∙ path.len;
        within = λ k. elim (cases_eq k p.caller) [
          | inl same ↦ omega (
            arith,
            ap (slice_index (slice_set taken p.caller p.index)) same,
            get_or-set_same taken p.caller p.index 0 low,
            path.within p.caller,
            ap (slice_index counts) same,
          )
          | inr other ↦ omega (arith, get_or-set_other taken p.caller k p.index 0 other, path.within k)
        ];
        count = omega (arith, length-append posts (p ∷ []), path.count);
        back = back.2;
      };
      left = omega (arith, sum_within taken counts path.len path.within);
    }

-- with one more taken, fewer are left
pub less_left : (counts new_counts taken new_taken : List ℕ) (posts : Batch) → new_counts ≡ counts
    → IsPath new_counts new_taken posts → sum new_taken ≡ sum taken + 1
    → left_over new_counts new_taken < left_over counts taken
less_left counts new_counts taken new_taken posts same path one =
    omega (arith, ap sum same, sum_within new_taken new_counts path.len path.within)

-- where no fewer are taken than there are, all are
pub all_taken : (counts taken : List ℕ) (posts : Batch) → IsPath counts taken posts → sum counts ≤ sum taken
    → (left_over counts taken ≡ 0) × (length posts ≡ sum counts)
all_taken counts taken posts path all =
    (omega arith, omega (arith, path.count, sum_within taken counts path.len path.within))

-- without posts nothing is listed later
pub later_end : (counts taken : List ℕ) (posts : Batch) → length posts ≡ 0 → later_sequences counts taken posts ≡ []
later_end counts taken [] none = beyond_none counts (left_over counts taken) taken
later_end counts taken (p ∷ posts) none = absurd (omega (arith, none))
