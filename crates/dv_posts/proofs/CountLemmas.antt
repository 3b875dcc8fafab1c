-- Counting the posts of each caller.
use Rattle.std.proofs.Common.{arith, ◌≡◌, ◌≢◌, ℕ, zero, suc, ◌+◌, ◌<◌, ◌==◌, Bool, true, false, List, [], ◌∷◌, ◌++◌}
use Rattle.std.proofs.Common.{◌∙◌, length, map, take, drop, replicate, slice_index_or, slice_set, refl, sym, ap, subst}
use Rattle.std.proofs.Common.{append-nil, append_assoc, length-append, add-one}
use Rattle.std.proofs.lemmas.Bool.Decides.{nat_tests}
use Rattle.std.proofs.lemmas.List.{length-map, length-set, get_or-map, get_or-set_same, get_or-set_other}
use Rattle.std.proofs.lemmas.List.{get_or_append_left, take-append-drop}
use Rattle.std.proofs.lemmas.List.Elements.{filter-append}
use Rattle.std.proofs.Math.Seq.{drop-cons, get_or-append_seam, take-suc}
use Rattle.dv_posts.specs.Posts.{post, of}
use Rattle.dv_posts.specs.declared.posted.Posted.{Posted}
use Rattle.dv_posts.specs.Batches.{AreNext, Batch, Callers, below, bodies_of, first_posts, joined}
use Rattle.dv_posts.specs.Taking.{AreCounted, Counted, IsNext}

same_at : (c n : ℕ) → (n == c) ≡ true → n ≡ c
same_at c n e = grind (arith, nat_tests)

other_at : (c n : ℕ) → (n == c) ≡ false → c ≢ n
other_at c n e = grind (arith, nat_tests)

of_own : (c : ℕ) (p : Posted) (ps : Batch) → (p.caller == c) ≡ true → of c (p ∷ ps) ≡ p ∷ of c ps
of_own c p ps e = rw e refl

of_other : (c : ℕ) (p : Posted) (ps : Batch) → (p.caller == c) ≡ false → of c (p ∷ ps) ≡ of c ps
of_other c p ps e = rw e refl

of_both : (c : ℕ) (xs ys : Batch) → of c (xs ++ ys) ≡ of c xs ++ of c ys
of_both c xs ys = filter-append (λ p. p.caller == c) xs ys

pub joined_more : (batches : List Batch) (batch : Batch) → joined (batches ++ batch ∷ []) ≡ joined batches ++ batch
joined_more [] batch = append-nil batch
joined_more (first ∷ batches) batch =
    ap (λ l. first ++ l) (joined_more batches batch) ∙ sym (append_assoc first (joined batches) batch)

length-below : (n : ℕ) → length (below n) ≡ n
length-below zero = refl
length-below (suc n) = omega (arith, length-append (below n) (n ∷ []), length-below n)

length-first : (c n : ℕ) → length (first_posts c n) ≡ n
length-first c n = length-map (below n) (post c) ∙ length-below n

map_one : {X Y : Type 0} (f : X → Y) (xs : List X) (x : X) → map f (xs ++ x ∷ []) ≡ map f xs ++ f x ∷ []
map_one f [] x = refl
map_one f (y ∷ xs) x = ap (λ l. f y ∷ l) (map_one f xs x)

-- the number at a place below n is that of the place
below_in : (m n d : ℕ) (b : Bool) → (n == m) ≡ b → m < suc n → (m < n → slice_index_or (below n) m d ≡ m)
    → slice_index_or (below n ++ n ∷ []) m d ≡ m
below_in m n d true e low rec =
    let same = same_at m n e in
    subst (λ j. slice_index_or (below n ++ n ∷ []) j d ≡ j) same
    (subst (λ j. slice_index_or (below n ++ n ∷ []) j d ≡ n) (length-below n) (get_or-append_seam (below n) n [] d))
below_in m n d false e low rec =
    let apart = other_at m n e in
    let less : m < n = omega (arith, low, apart) in
    get_or_append_left (below n) (n ∷ []) d m (omega (arith, less, length-below n)) ∙ rec less

below_at : (m n d : ℕ) → m < n → slice_index_or (below n) m d ≡ m
below_at m zero d low = absurd (omega (arith, low))
below_at m (suc n) d low = below_in m n d (n == m) refl low (below_at m n d)

-- what comes after m first posts of a caller, among n of them, is the next one
next_is : (c m n : ℕ) (p : Posted) (rest : Batch) → first_posts c m ++ p ∷ rest ≡ first_posts c n
    → (p ≡ post c m) × (m < n)
next_is c m n p rest e =
    let low : m < n =
    omega (arith, length-append (first_posts c m) (p ∷ rest), length-first c m, length-first c n, ap length e) in
    let left : slice_index_or (first_posts c m ++ p ∷ rest) m p ≡ p =
    subst (λ j. slice_index_or (first_posts c m ++ p ∷ rest) j p ≡ p) (length-first c m)
    (get_or-append_seam (first_posts c m) p rest p) in
    let right : slice_index_or (first_posts c n) m p ≡ post c m =
    get_or-map (post c) (below n) m 0 p (omega (arith, low, length-below n)) ∙ ap (post c) (below_at m n 0 low) in
    (sym left ∙ ap (λ l. slice_index_or l m p) e ∙ right, low)

-- a caller that has bodies is one of the callers
is_caller : (callers : Callers) (c m : ℕ) → m < length (bodies_of callers c) → c < length callers
is_caller [] c m low = absurd (omega (arith, low))
is_caller (bodies ∷ callers) zero m low = omega arith
is_caller (bodies ∷ callers) (suc c) m low = omega (arith, is_caller callers c m low)

-- one more is counted
one_counted : (callers : Callers) (counts : List ℕ) (posts : Batch) (p : Posted) (c : ℕ) (b : Bool)
    → (p.caller == c) ≡ b → p.caller < length counts → IsNext callers counts p
    → AreCounted callers c posts (slice_index_or counts c 0)
    → AreCounted callers c (posts ++ p ∷ []) (slice_index_or (slice_set counts p.caller (p.index + 1)) c 0)
one_counted callers counts posts p c true e within next was =
    let same = same_at c p.caller e in
    let here : slice_index_or (slice_set counts p.caller (p.index + 1)) c 0 ≡ suc p.index =
    subst (λ k. slice_index_or (slice_set counts p.caller (p.index + 1)) k 0 ≡ suc p.index) same
    (get_or-set_same counts p.caller (p.index + 1) 0 within ∙ add-one p.index) in
    let low : p.index < length (bodies_of callers c) =
    subst (λ k. p.index < length (bodies_of callers k)) same next.0 in
    let is : slice_index_or counts c 0 ≡ p.index = subst (λ k. slice_index_or counts k 0 ≡ p.index) same (sym next.1) in
    let it : post c p.index ≡ p = ap (λ k. post k p.index) (sym same) in (
      omega (arith, here, low),
      of_both c posts (p ∷ []) ∙ ap (λ l. of c posts ++ l) (of_own c p [] e) ∙ ap (λ l. l ++ p ∷ [])
          (was.1 ∙ ap (first_posts c) is)
          ∙ ap (λ x. first_posts c p.index ++ x ∷ []) (sym it) ∙ sym (map_one (post c) (below p.index) p.index)
          ∙ ap (first_posts c) (sym here),
    )
one_counted callers counts posts p c false e within next was =
    let here : slice_index_or (slice_set counts p.caller (p.index + 1)) c 0 ≡ slice_index_or counts c 0 =
    get_or-set_other counts p.caller c (p.index + 1) 0 (other_at c p.caller e) in (
      omega (arith, here, was.0),
      of_both c posts (p ∷ []) ∙ ap (λ l. of c posts ++ l)
          (of_other c p [] e) ∙ append-nil (of c posts) ∙ was.1 ∙ ap (first_posts c) (sym here),
    )

counted_more : (callers : Callers) (counts : List ℕ) (posts : Batch) (p : Posted) → IsNext callers counts p
    → Counted callers counts posts → Counted callers (slice_set counts p.caller (p.index + 1)) (posts ++ p ∷ [])
counted_more callers counts posts p next was = record {
  len = length-set counts p.caller (p.index + 1) ∙ was.len;
  each =
      λ c. one_counted callers counts posts p c (p.caller == c) refl (let l = was.len in
      omega (arith, l, is_caller callers p.caller p.index next.0)) next (was.each c);
}

-- the posts of a batch up to the one at a place, and that one
up_to : (before batch : Batch) (i : ℕ) (p : Posted) → i < length batch → p ≡ slice_index_or batch i p
    → before ++ take (i + 1) batch ≡ (before ++ take i batch) ++ p ∷ []
up_to before batch i p low is =
    ap (λ l. before ++ l) (ap (λ n. take n batch) (add-one i) ∙ take-suc batch i p low)
    ∙ sym (append_assoc before (take i batch) (slice_index_or batch i p ∷ []))
    ∙ ap (λ x. (before ++ take i batch) ++ x ∷ []) (sym is)

pub counted_at : (callers : Callers) (counts after : List ℕ) (before batch : Batch) (i : ℕ) (p : Posted)
    → i < length batch → p ≡ slice_index_or batch i p → IsNext callers counts p
    → after ≡ slice_set counts p.caller (p.index + 1) → Counted callers counts (before ++ take i batch)
    → Counted callers after (before ++ take (i + 1) batch)
counted_at callers counts after before batch i p low is next set was =
    subst (λ l. Counted callers l (before ++ take (i + 1) batch)) (sym set)
    (subst (λ l. Counted callers (slice_set counts p.caller (p.index + 1)) l) (sym (up_to before batch i p low is))
    (counted_more callers counts (before ++ take i batch) p next was))

pub length-after : (counts after : List ℕ) (p : Posted) → after ≡ slice_set counts p.caller (p.index + 1)
    → length after ≡ length counts
length-after counts after p set = ap length set ∙ length-set counts p.caller (p.index + 1)

-- a post that isn't the next one of its caller
pub strange_at : (callers : Callers) (counts : List ℕ) (before batch : Batch) (i : ℕ) (p : Posted) → i < length batch
    → p ≡ slice_index_or batch i p → (IsNext callers counts p → ⊥)
    → Counted callers counts (before ++ take i batch) → AreNext callers (before ++ batch) → ⊥
strange_at callers counts before batch i p low is strange was next =
    let c = p.caller in
    let m = slice_index_or counts c 0 in
    let n = next c in
    let rest = drop (suc i) batch in
    let split : batch ≡ take i batch ++ p ∷ rest = sym (take-append-drop i batch)
    ∙ ap (λ l. take i batch ++ l) (drop-cons batch i p low ∙ ap (λ x. x ∷ rest) (sym is)) in
    let all : before ++ batch ≡ (before ++ take i batch) ++ p ∷ rest =
    ap (λ l. before ++ l) split ∙ sym (append_assoc before (take i batch) (p ∷ rest)) in
    let own : (p.caller == c) ≡ true = grind (arith, nat_tests) in
    let e : first_posts c m ++ p ∷ of c rest ≡ first_posts c n.0 =
    ap (λ l. l ++ p ∷ of c rest) (sym (was.each c).1)
    ∙ ap (λ l. of c (before ++ take i batch) ++ l) (sym (of_own c p rest own))
    ∙ sym (of_both c (before ++ take i batch) (p ∷ rest)) ∙ ap (of c) (sym all) ∙ n.2 in
    let r = next_is c m n.0 p (of c rest) e in
    let at : p.index ≡ m = ap (λ x. x.index) r.0 in
    strange (omega (arith, at, r.1, n.1), at)

-- what is counted are first posts
pub counted_next : (callers : Callers) (counts : List ℕ) (posts : Batch) → Counted callers counts posts
    → AreNext callers posts
counted_next callers counts posts was c = (slice_index_or counts c 0, (was.each c).0, (was.each c).1)

-- at first none is counted
same_each : {A : Type 0} (n c : ℕ) (x : A) → slice_index_or (replicate n x) c x ≡ x
same_each zero c x = refl
same_each (suc n) zero x = refl
same_each (suc n) (suc c) x = same_each n c x

length-same : {A : Type 0} (n : ℕ) (x : A) → length (replicate n x) ≡ n
length-same zero x = refl
length-same (suc n) x = ap suc (length-same n x)

pub none_counted : (callers : Callers) → Counted callers (replicate (length callers) 0) []
none_counted callers = record {
  len = let none : ℕ = 0 in length-same (length callers) none;
  each =
      λ c. let none : ℕ = 0 in
      (omega (arith, same_each (length callers) c none), ap (first_posts c) (sym (same_each (length callers) c none)));
}

-- with one batch more
pub counted_with : (callers : Callers) (counts : List ℕ) (batches all : List Batch) (batch : Batch)
    → Counted callers counts (joined batches ++ batch) → all ≡ batches ++ batch ∷ []
    → Counted callers counts (joined all)
counted_with callers counts batches all batch was more =
    subst (λ l. Counted callers counts (joined l)) (sym more)
    (subst (Counted callers counts) (sym (joined_more batches batch)) was)

-- the posts of a batch from a place on
pub drop_at : (batch : Batch) (i : ℕ) (p : Posted) → i < length batch → p ≡ slice_index_or batch i p
    → drop i batch ≡ p ∷ drop (i + 1) batch
drop_at batch i p low is =
    drop-cons batch i p low ∙ ap (λ x. x ∷ drop (suc i) batch) (sym is) ∙ ap (λ n. p ∷ drop n batch) (sym (add-one i))
