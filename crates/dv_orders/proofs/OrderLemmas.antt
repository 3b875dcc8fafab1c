-- The orders from the first one on are those that are listed.
use Rattle.std.proofs.Common.{arith, ◌≡◌, ℕ, zero, suc, ◌+◌, ◌-◌, ◌<◌, ◌≤◌, nat_lt, MatchBool, Bool, true, false, cond}
use Rattle.std.proofs.Common.{List, [], ◌∷◌, ◌++◌, ◌∙◌, length, map, flat_map, replicate, slice_index, sum, refl, sym}
use Rattle.std.proofs.Common.{ap, subst, add-one, add-zero, zero-add, append-nil}
use Rattle.std.specs.List.{range_with_len}
use Rattle.std.proofs.Math.Nat.{sub-zero}
use Rattle.std.proofs.lemmas.List.{length-map, length-set, map-append}
use Rattle.std.proofs.lemmas.List.Sums.{sum_by-cons}
use Rattle.std.proofs.lemmas.Bool.Decides.{nat_tests}
use Rattle.dv_script.specs.declared.script.Script.{Script}
use Rattle.dv_posts.specs.Batches.{Batch, Callers, below, first_posts}
use Rattle.dv_posts.specs.Posts.{post}
use Rattle.dv_orders.specs.Batching.{cut_by, later_lengths}
use Rattle.dv_orders.specs.Faults.{drains_of}
use Rattle.dv_orders.specs.Listed.{AreOrder}
use Rattle.dv_orders.specs.Ordering.{all_cuts}
use Rattle.dv_orders.specs.Orders.{Choice, beside, choices, counts_of, cuts, orders, posts_from, sequences, total}
use Rattle.dv_orders.specs.Sequencing.{has_left, later_sequences, listed_sequences, left_over, sequences_on, with_taken}
use Rattle.dv_orders.proofs.CutLemmas.{all_ways, cuts_are, flat_mapped, flat_same, flat_shift}
use Rattle.dv_orders.proofs.Listing.{every_order}
use Rattle.dv_orders.proofs.Members.{In, contains_from, in_right}
use Rattle.dv_orders.proofs.SequenceLemmas.{beyond_none}
use mathlib.Core.Logic.{inl}

-- so many posts of a caller, from this index on
abbrev pub posts_at : ℕ → ℕ → ℕ → Batch
posts_at c index zero = []
posts_at c index (suc n) = post c index ∷ posts_at c (index + 1) n

-- what is left of each caller's posts, of so many each, where so many are taken; the first caller has this number
abbrev pub left_of : ℕ → List ℕ → List ℕ → List Batch
left_of c [] taken = []
left_of c (count ∷ counts) [] = posts_at c 0 count ∷ left_of (suc c) counts []
left_of c (count ∷ counts) (t ∷ taken) = posts_at c t (count - t) ∷ left_of (suc c) counts taken

-- what is made of the choice of this caller's next post, where it has one left
abbrev pick : {X : Type 0} → (Choice → List X) → ℕ → List ℕ → List ℕ → ℕ → List X
pick f c counts taken k =
    cond (has_left counts taken k)
    (f (record { posted = post (c + k) (slice_index taken k); left = left_of c counts (with_taken taken k) })) []

next_left : (count t d : ℕ) → count - t ≡ suc d → count - (t + 1) ≡ d
next_left count t d e = omega arith

not_below : (count t : ℕ) → count - t ≡ 0 → nat_lt t count ≡ false
not_below count t e = let high : count ≤ t = omega arith in grind (arith, nat_tests)

is_below : (count t d : ℕ) → count - t ≡ suc d → nat_lt t count ≡ true
is_below count t d e = let low : t < count = omega arith in grind (arith, nat_tests)

same_caller : (c k : ℕ) → suc c + k ≡ c + suc k
same_caller c k = omega arith

-- what is made of the choices among the other callers, where these posts of the first are left
choices_later : {X : Type 0}
    (f : Choice → List X) (c count : ℕ) (counts : List ℕ) (t : ℕ) (taken : List ℕ) (posts : Batch)
    → ((g : Choice → List X) → flat_map g (choices (left_of (suc c) counts taken))
    ≡ flat_map (pick g (suc c) counts taken) (range_with_len 0 (length counts)))
    → posts_at c t (count - t) ≡ posts
    → flat_map f (map (beside posts) (choices (left_of (suc c) counts taken)))
    ≡ flat_map (pick f c (count ∷ counts) (t ∷ taken)) (range_with_len 1 (length counts))
choices_later f c count counts t taken posts others is =
    let picks = pick f c (count ∷ counts) (t ∷ taken) in
    flat_mapped f (beside posts) (choices (left_of (suc c) counts taken))
    ∙ others (λ choice. f (beside posts choice))
    ∙ flat_same (pick (λ choice. f (beside posts choice)) (suc c) counts taken) (λ k. picks (k + 1))
    (range_with_len 0 (length counts)) (λ k.
    ap (λ n. cond (has_left counts taken k) (f (record {
      posted = post n (slice_index taken k);
      left = posts ∷ left_of (suc c) counts (with_taken taken k);
    })) []) (same_caller c k)
    ∙ ap (λ l. cond (has_left counts taken k) (f (record {
      posted = post (c + suc k) (slice_index taken k);
      left = l ∷ left_of (suc c) counts (with_taken taken k);
    })) []) (sym is)
    ∙ ap picks (sym (add-one k)))
    ∙ sym (flat_shift picks 0 (length counts))

-- with that of the choice of the first caller's next post, where it has one left
choices_more : {X : Type 0} (f : Choice → List X) (c count : ℕ) (counts : List ℕ) (t : ℕ) (taken : List ℕ) (d : ℕ)
    → count - t ≡ d
    → ((g : Choice → List X) → flat_map g (choices (left_of (suc c) counts taken))
    ≡ flat_map (pick g (suc c) counts taken) (range_with_len 0 (length counts)))
    → flat_map f (choices (left_of c (count ∷ counts) (t ∷ taken)))
    ≡ flat_map (pick f c (count ∷ counts) (t ∷ taken)) (range_with_len 0 (suc (length counts)))
choices_more f c count counts t taken zero is others =
    let none : posts_at c t (count - t) ≡ [] = ap (posts_at c t) is in
    let later = flat_map (pick f c (count ∷ counts) (t ∷ taken)) (range_with_len 1 (length counts)) in
    ap (λ l. flat_map f (choices (l ∷ left_of (suc c) counts taken))) none
    ∙ choices_later f c count counts t taken [] others none
    ∙ ap (λ b. cond b (f (record {
      posted = post (c + 0) t;
      left = posts_at c (t + 1) (count - (t + 1)) ∷ left_of (suc c) counts taken;
    })) [] ++ later) (sym (not_below count t is))
choices_more f c count counts t taken (suc n) is others =
    let some : posts_at c t (count - t) ≡ post c t ∷ posts_at c (t + 1) n = ap (posts_at c t) is in
    let rest = left_of (suc c) counts taken in
    let later = flat_map (pick f c (count ∷ counts) (t ∷ taken)) (range_with_len 1 (length counts)) in
    ap (λ l. flat_map f (choices (l ∷ rest))) some
    ∙ ap (λ l. f (record { posted = post c t; left = posts_at c (t + 1) n ∷ rest }) ++ l)
    (choices_later f c count counts t taken (post c t ∷ posts_at c (t + 1) n) others some)
    ∙ ap (λ m. f (record { posted = post m t; left = posts_at c (t + 1) n ∷ rest }) ++ later) (sym (add-zero c))
    ∙ ap (λ m. f (record { posted = post (c + 0) t; left = posts_at c (t + 1) m ∷ rest }) ++ later)
    (sym (next_left count t n is))
    ∙ ap (λ b. cond b (f (record { posted = post (c + 0) t; left = posts_at c (t + 1) (count - (t + 1)) ∷ rest })) []
    ++ later) (sym (is_below count t n is))

-- what is made of the choices is what is made of each caller's next post
choices_are : {X : Type 0} (f : Choice → List X) (c : ℕ) (counts taken : List ℕ) → length taken ≡ length counts
    → flat_map f (choices (left_of c counts taken))
    ≡ flat_map (pick f c counts taken) (range_with_len 0 (length counts))
choices_are f c [] taken len = refl
choices_are f c (count ∷ counts) [] len = absurd (omega (arith, len))
choices_are f c (count ∷ counts) (t ∷ taken) len =
    choices_more f c count counts t taken (count - t) refl
    (λ g. choices_are g (suc c) counts taken (omega (arith, len)))

posts_end : (c index n : ℕ) → posts_at c index (suc n) ≡ posts_at c index n ++ post c (index + n) ∷ []
posts_end c index zero = rw add-zero refl
posts_end c index (suc n) =
    ap (λ l. post c index ∷ l) (posts_end c (index + 1) n)
    ∙ ap (λ k. post c index ∷ (posts_at c (index + 1) n ++ post c k ∷ [])) (omega arith)

first_are : (c n : ℕ) → first_posts c n ≡ posts_at c 0 n
first_are c zero = refl
first_are c (suc n) =
    map-append (post c) (below n) (n ∷ [])
    ∙ ap (λ l. l ++ post c n ∷ []) (first_are c n)
    ∙ sym (posts_end c 0 n ∙ ap (λ k. posts_at c 0 n ++ post c k ∷ []) (zero-add n))

-- at the beginning all posts are left
pub start_left : (c : ℕ) (callers : Callers)
    → posts_from c callers ≡ left_of c (counts_of callers) (replicate (length callers) 0)
start_left c [] = refl
start_left c (bodies ∷ callers) =
    ap (λ l. l ∷ posts_from (suc c) callers)
    (first_are c (length bodies) ∙ ap (posts_at c 0) (sym (sub-zero (length bodies))))
    ∙ ap (λ l. posts_at c 0 (length bodies - 0) ∷ l) (start_left (suc c) callers)

-- the sequences of what is left
pub sequences_are : (n : ℕ) (counts taken : List ℕ) → length taken ≡ length counts
    → sequences n (left_of 0 counts taken) ≡ sequences_on counts n taken
unfolding sequences_on
sequences_are zero counts taken len = refl
sequences_are (suc n) counts taken len =
    choices_are (λ choice. map (λ s. choice.posted ∷ s) (sequences n choice.left)) 0 counts taken len
    ∙ flat_same (pick (λ choice. map (λ s. choice.posted ∷ s) (sequences n choice.left)) 0 counts taken)
    (λ k. cond (has_left counts taken k) (map (λ s. post k (slice_index taken k) ∷ s)
    (sequences_on counts n (with_taken taken k))) []) (range_with_len 0 (length counts))
    (λ k.
    ap (λ l. cond (has_left counts taken k) (map (λ s. post (0 + k) (slice_index taken k) ∷ s) l) [])
    (sequences_are n counts (with_taken taken k) (length-set taken k (slice_index taken k + 1) ∙ len))
    ∙ ap (λ c. cond (has_left counts taken k)
    (map (λ s. post c (slice_index taken k) ∷ s) (sequences_on counts n (with_taken taken k))) []) (zero-add k))

pub total_sum : (counts : List ℕ) → total counts ≡ sum counts
total_sum [] = refl
total_sum (count ∷ counts) = ap (λ n. count + n) (total_sum counts) ∙ sym (sum_by-cons (λ (k : ℕ). k) count counts)

pub sum_zeros : (n : ℕ) → sum (replicate n 0) ≡ 0
sum_zeros zero = refl
sum_zeros (suc n) = sum_by-cons (λ (k : ℕ). k) 0 (replicate n 0) ∙ omega (arith, sum_zeros n)

pub length-zeros : (n : ℕ) → length {A = ℕ} (replicate n 0) ≡ n
length-zeros zero = refl
length-zeros (suc n) = ap suc (length-zeros n)

-- all orders are all sequences, each cut in every way
pub orders_are : (script : Script) → let counts = counts_of script.callers in orders script
    ≡ flat_map (all_cuts (drains_of script.events)) (listed_sequences counts (replicate (length script.callers) 0) [])
orders_are script =
    let counts = counts_of script.callers in
    let zeros = replicate (length script.callers) 0 in
    let left : total counts ≡ left_over counts zeros = total_sum counts ∙ sym (sub-zero (sum counts))
    ∙ ap (λ n. sum counts - n) (sym (sum_zeros (length script.callers))) in
    let len : length zeros ≡ length counts =
    length-zeros (length script.callers) ∙ sym (length-map script.callers (λ posts. length posts)) in
    let all = sequences_on counts (left_over counts zeros) zeros in
    flat_same (cuts script.events) (all_cuts (drains_of script.events))
    (sequences (total counts) (posts_from 0 script.callers)) (λ s. cuts_are script.events s)
    ∙ ap (flat_map (all_cuts (drains_of script.events))) (
    ap (sequences (total counts)) (start_left 0 script.callers)
    ∙ sequences_are (total counts) counts zeros len
    ∙ ap (λ n. sequences_on counts n zeros) left
    ∙ sym (map_same all)
    ∙ sym (append-nil (map (λ s. [] ++ s) all))
    ∙ ap (λ l. map (λ s. [] ++ s) all ++ l) (sym (beyond_none counts (left_over counts zeros) zeros))
    )
  where
    map_same : (l : List Batch) → map (λ s. [] ++ s) l ≡ l
    map_same [] = refl
    map_same (x ∷ l) = ap (λ r. x ∷ r) (map_same l)

-- the cuts of a sequence, and of those after it: the first takes nothing at any drain
pub cuts_first : (drains : List ℕ) (posts : Batch) (later : List Batch) → flat_map (all_cuts drains) (posts ∷ later)
    ≡ cut_by (replicate (length drains) 0) posts ∷ (map (λ lengths. cut_by lengths posts)
    (later_lengths drains (length posts) (replicate (length drains) 0)) ++ flat_map (all_cuts drains) later)
cuts_first drains posts later =
    ap (λ l. map (λ lengths. cut_by lengths posts) l ++ flat_map (all_cuts drains) later)
    (all_ways drains (length posts))

-- what is listed is an order
pub listed : (script : Script) (done rest : List (List Batch)) (batches : List Batch)
    → orders script ≡ done ++ batches ∷ rest → AreOrder script batches
listed script done rest batches all =
    (every_order script batches).1 (contains_from batches (orders script)
    (subst (In batches) (sym all) (in_right batches done (batches ∷ rest) (inl refl))))

-- after the last cut of a sequence the next sequence begins with its first
pub goes_on : (drains : List ℕ) (posts new : Batch) (later new_later : List Batch) (old_left left : ℕ)
    (old_lengths lengths : List ℕ) (more : Bool)
    → later_lengths drains old_left old_lengths ≡ [] → lengths ≡ replicate (length drains) 0
    → (more ≡ true → left ≡ length new) → MatchBool more (later ≡ new ∷ new_later) (later ≡ [])
    → let rest =
    map (λ l. cut_by l posts) (later_lengths drains old_left old_lengths) ++ flat_map (all_cuts drains) later in
    MatchBool more (rest ≡ cut_by lengths new
    ∷ (map (λ l. cut_by l new) (later_lengths drains left lengths) ++ flat_map (all_cuts drains) new_later)) (rest ≡ [])
goes_on drains posts new later new_later old_left left old_lengths lengths true none zeros all next =
    ap (λ l. map (λ l. cut_by l posts) l ++ flat_map (all_cuts drains) later) none
    ∙ ap (flat_map (all_cuts drains)) next
    ∙ cuts_first drains new new_later
    ∙ ap (λ n. cut_by (replicate (length drains) 0) new ∷ (map (λ l. cut_by l new)
    (later_lengths drains n (replicate (length drains) 0)) ++ flat_map (all_cuts drains) new_later)) (sym (all refl))
    ∙ ap (λ l. cut_by l new
    ∷ (map (λ l. cut_by l new) (later_lengths drains left l) ++ flat_map (all_cuts drains) new_later)) (sym zeros)
goes_on drains posts new later new_later old_left left old_lengths lengths false none zeros all next =
    ap (λ l. map (λ l. cut_by l posts) l ++ flat_map (all_cuts drains) later) none
    ∙ ap (flat_map (all_cuts drains)) next

-- the first order of a script
pub first_order : (script : Script) (drains counts taken lengths : List ℕ) (posts : Batch) (left : ℕ)
    → drains ≡ drains_of script.events → counts ≡ counts_of script.callers
    → listed_sequences counts (replicate (length script.callers) 0) [] ≡ posts ∷ later_sequences counts taken posts
    → lengths ≡ replicate (length drains) 0 → left ≡ length posts
    → orders script ≡ cut_by lengths posts ∷ (map (λ l. cut_by l posts) (later_lengths drains left lengths)
    ++ flat_map (all_cuts drains) (later_sequences counts taken posts))
first_order script drains counts taken lengths posts left is same first zeros all =
    orders_are script
    ∙ ap (λ c. flat_map (all_cuts (drains_of script.events))
    (listed_sequences c (replicate (length script.callers) 0) [])) (sym same)
    ∙ ap (flat_map (all_cuts (drains_of script.events))) first
    ∙ ap (λ d. flat_map (all_cuts d) (posts ∷ later_sequences counts taken posts)) (sym is)
    ∙ cuts_first drains posts (later_sequences counts taken posts)
    ∙ ap (λ n. cut_by (replicate (length drains) 0) posts ∷ (map (λ l. cut_by l posts) (later_lengths drains n
    (replicate (length drains) 0)) ++ flat_map (all_cuts drains) (later_sequences counts taken posts))) (sym all)
    ∙ ap (λ l. cut_by l posts ∷ (map (λ l. cut_by l posts) (later_lengths drains left l)
    ++ flat_map (all_cuts drains) (later_sequences counts taken posts))) (sym zeros)

pub sum_of_zeros : (lengths : List ℕ) (n : ℕ) → lengths ≡ replicate n 0 → sum lengths ≡ 0
sum_of_zeros lengths n is = ap sum is ∙ sum_zeros n
