-- What callers and their inbox have of a script's posts.
use Rattle.std.proofs.Common.{arith, ◌≡◌, ◌≢◌, ℕ, zero, suc, ◌+◌, ◌<◌, ◌≤◌, ◌==◌, Bool, true, false, List, [], ◌∷◌}
use Rattle.std.proofs.Common.{◌++◌, ◌∙◌, length, map, take, drop, slice_index_or, slice_get, Some, refl, sym, ap, subst}
use Rattle.std.proofs.Common.{append-nil, append_assoc, length-append, add-one}
use mathlib.Core.Logic.{◌⊎◌, inl, inr}
use Rattle.std.proofs.lemmas.Bool.Decides.{nat_tests}
use Rattle.std.proofs.lemmas.List.{length-map, get_or_past, take-append-drop, take-append-le, nil_from_length}
use Rattle.std.proofs.lemmas.List.Elements.{filter-append}
use Rattle.std.proofs.lemmas.Option.{slice_get_within}
use Rattle.std.proofs.Math.Seq.{take-append_seam}
use Rattle.dv_script.specs.declared.body.Body.{Body}
use Rattle.dv_posts.specs.Batches.{AreNext, Batch, Callers, below, bodies_of, first_posts, joined, posts_of}
use Rattle.dv_posts.specs.Posts.{post, of}
use Rattle.dv_posts.specs.Posts as inbox
use Rattle.dv_posts.specs.Ring.{Ring}
use Rattle.dv_posts.specs.declared.posted.Posted.{Posted}
use Rattle.dv_posts.specs.Callers.{AllServe, HasAll, HasPosted, HavePosted, Serves, TookBatches}
use Rattle.dv_posts.specs.declared.callers.Caller.{Caller}

same_at : (c n : ℕ) → (n == c) ≡ true → n ≡ c
same_at c n e = grind (arith, nat_tests)

other_at : (c n : ℕ) → (n == c) ≡ false → c ≢ n
other_at c n e = grind (arith, nat_tests)

of_both : (c : ℕ) (xs ys : Batch) → of c (xs ++ ys) ≡ of c xs ++ of c ys
of_both c xs ys = filter-append (λ p. p.caller == c) xs ys

length-below : (n : ℕ) → length (below n) ≡ n
length-below zero = refl
length-below (suc n) = omega (arith, length-append (below n) (n ∷ []), length-below n)

length-first : (c n : ℕ) → length (first_posts c n) ≡ n
length-first c n = length-map (below n) (post c) ∙ length-below n

map_one : {X Y : Type 0} (f : X → Y) (xs : List X) (x : X) → map f (xs ++ x ∷ []) ≡ map f xs ++ f x ∷ []
map_one f [] x = refl
map_one f (y ∷ xs) x = ap (λ l. f y ∷ l) (map_one f xs x)

-- one post more
first_more : (c n : ℕ) → first_posts c (n + 1) ≡ first_posts c n ++ post c n ∷ []
first_more c n = ap (first_posts c) (add-one n) ∙ map_one (post c) (below n) n

pub posted_more : (first p q : inbox.Poster) (n : ℕ) (posted : Posted) → HasPosted first n p → posted ≡ post p.caller n
    → q ≡ inbox.with_post posted p → HasPosted first (n + 1) q
posted_more first p q n posted h is e =
    let c : p.caller ≡ first.caller = h.same.0 in
    record {
      same = (ap (λ x. x.caller) e ∙ h.same.0, ap (λ x. x.ring) e ∙ h.same.1, ap (λ x. x.capacity) e ∙ h.same.2);
      posted =
          ap (λ x. x.posts) e ∙ ap (λ x. p.posts ++ x ∷ []) (is ∙ ap (λ k. post k n) c)
          ∙ ap (λ l. l ++ post first.caller n ∷ []) h.posted ∙ sym (first_more first.caller n);
    }

-- at first none
pub posted_none : (p : inbox.Poster) → p.posts ≡ [] → HasPosted p 0 p
posted_none p none = record { same = (refl, refl, refl); posted = none }

pub posted_length : (first p : inbox.Poster) (n : ℕ) → HasPosted first n p → length p.posts ≡ n
posted_length first p n h = ap length h.posted ∙ length-first first.caller n

-- a beginning of a caller's posts
begin_in : (c n : ℕ) (a b : Batch) (t : Bool) → (length a == suc n) ≡ t → a ++ b ≡ first_posts c (suc n)
    → ((b' : Batch) → a ++ b' ≡ first_posts c n → (k : ℕ) × (k ≤ n) × (a ≡ first_posts c k))
    → (k : ℕ) × (k ≤ suc n) × (a ≡ first_posts c k)
begin_in c n a b true at e rec =
    let len : length a ≡ suc n = same_at (suc n) (length a) at in
    let none : b ≡ [] =
    nil_from_length b (omega (arith, length-append a b, ap length e, length-first c (suc n), len)) in
    (suc n, omega arith, sym (append-nil a) ∙ ap (λ l. a ++ l) (sym none) ∙ e)
begin_in c n a b false at e rec =
    let e' : a ++ b ≡ first_posts c n ++ post c n ∷ [] = e ∙ map_one (post c) (below n) n in
    let len : length a ≤ n = let apart = other_at (suc n) (length a) at in
    omega (arith, apart, length-append a b, ap length e, length-first c (suc n)) in
    let front : a ≡ take (length a) (first_posts c n) =
    sym (take-append_seam a b) ∙ ap (take (length a)) e'
    ∙ take-append-le (length a) (first_posts c n) (post c n ∷ []) (omega (arith, len, length-first c n)) in
    let t = rec (drop (length a) (first_posts c n))
    (ap (λ l. l ++ drop (length a) (first_posts c n)) front ∙ take-append-drop (length a) (first_posts c n)) in
    (t.0, omega (arith, t.1), t.2)

first_of : (c n : ℕ) (a b : Batch) → a ++ b ≡ first_posts c n → (k : ℕ) × (k ≤ n) × (a ≡ first_posts c k)
first_of c zero [] b e = (0, omega arith, refl)
first_of c zero (x ∷ a) b e = absurd (let l = ap length e in omega (arith, l))
first_of c (suc n) a b e = begin_in c n a b (length a == suc n) refl e (λ b' e'. first_of c n a b' e')

-- once all have posted, what was taken and the rest are all posts
pub all_posts : (bodies : Callers) (box : inbox.Inbox) (posters : List inbox.Poster) (rest before : Batch)
    → HavePosted bodies posters → inbox.IsRest box posters rest → TookBatches box before
    → (c : ℕ) → of c (before ++ rest) ≡ posts_of bodies c
all_posts bodies box posters rest before have is took c =
    of_both c before rest ∙ ap (λ l. l ++ of c rest) (took c) ∙ is c ∙ have c

-- and what was taken are first posts of each caller
pub next_posts : (bodies : Callers) (box : inbox.Inbox) (posters : List inbox.Poster) (rest before : Batch)
    → HavePosted bodies posters → inbox.IsRest box posters rest → TookBatches box before → AreNext bodies before
next_posts bodies box posters rest before have is took c =
    first_of c (length (bodies_of bodies c)) (of c before) (of c rest)
    (sym (of_both c before rest) ∙ all_posts bodies box posters rest before have is took c)

-- posts that are all posts are first posts of each caller
pub all_next : (bodies : Callers) (posts : Batch) → ((c : ℕ) → of c posts ≡ posts_of bodies c) → AreNext bodies posts
all_next bodies posts all c = (length (bodies_of bodies c), omega arith, all c)

-- one batch more
pub joined_more : (batches : List Batch) (batch : Batch) → joined (batches ++ batch ∷ []) ≡ joined batches ++ batch
joined_more [] batch = append-nil batch
joined_more (b ∷ batches) batch =
    ap (λ l. b ++ l) (joined_more batches batch) ∙ sym (append_assoc b (joined batches) batch)

-- a post was taken
took_in : (c : ℕ) (b : Bool) (old new : inbox.Inbox) (posted : Posted) (before : Batch) → (posted.caller == c) ≡ b
    → inbox.Takes old new posted → of c before ≡ inbox.taken_of old c
    → of c (before ++ posted ∷ []) ≡ inbox.taken_of new c
took_in c true old new posted before e t was =
    let own : of c (posted ∷ []) ≡ posted ∷ [] = rw e refl in
    of_both c before (posted ∷ []) ∙ ap (λ l. of c before ++ l) own ∙ ap (λ l. l ++ posted ∷ []) was
    ∙ subst (λ k. inbox.taken_of old k ++ posted ∷ [] ≡ inbox.taken_of new k) (same_at c posted.caller e) (sym t.next)
took_in c false old new posted before e t was =
    let other : of c (posted ∷ []) ≡ [] = rw e refl in
    of_both c before (posted ∷ []) ∙ ap (λ l. of c before ++ l) other ∙ append-nil (of c before) ∙ was
    ∙ sym (t.others c (other_at c posted.caller e)).0

pub took_more : (old new : inbox.Inbox) (posted : Posted) (before : Batch) → inbox.Takes old new posted
    → TookBatches old before → TookBatches new (before ++ posted ∷ [])
took_more old new posted before t was c = took_in c (posted.caller == c) old new posted before refl t (was c)

-- an inbox serves on whatever was taken
pub serve_on : (bodies : Callers) (old new : inbox.Inbox) (callers : List Caller) → inbox.SameInbox old new
    → AllServe bodies old callers → AllServe bodies new callers
serve_on bodies old new callers same all = record {
  len = all.len ∙ ap length (sym same);
  count = ap length same ∙ all.count;
  each = λ c ring caller at there. all.each c ring caller (subst (λ rs. slice_get rs c ≡ Some ring) same at) there;
}

-- what stands at a place of a list with one more
get_more : {X : Type 0} (xs : List X) (x y : X) (k : ℕ) → slice_get (xs ++ x ∷ []) k ≡ Some y
    → (slice_get xs k ≡ Some y) ⊎ ((k ≡ length xs) × (x ≡ y))
get_more [] x y zero e = inr (refl, cc)
get_more [] x y (suc k) e = absurd cc
get_more (z ∷ xs) x y zero e = inl e
get_more (z ∷ xs) x y (suc k) e = elim (get_more xs x y k e) [
  | inl h ↦ (inl h)
  | inr h ↦ (inr (ap suc h.0, h.1))
]

-- something stands at each place
get_there : {X : Type 0} (xs : List X) (k : ℕ) → k < length xs → (x : X) × (slice_get xs k ≡ Some x)
get_there [] k low = absurd (omega (arith, low))
get_there (x ∷ xs) zero low = (x, refl)
get_there (x ∷ xs) (suc k) low = get_there xs k (omega (arith, low))

-- as many, each made of the one at its place
pub record Made {X Y : Type 0} (R : ℕ → X → Y → Type 0) (xs : List X) (ys : List Y) : Type 0 where
  pub len : length ys ≡ length xs
  pub each : (k : ℕ) (x : X) (y : Y) → slice_get xs k ≡ Some x → slice_get ys k ≡ Some y → R k x y

pub made_none : {X Y : Type 0} (R : ℕ → X → Y → Type 0) → Made R [] []
made_none R = record { len = refl; each = λ k x y at there. absurd cc }

pub made_more : {X Y : Type 0} (R : ℕ → X → Y → Type 0) (xs : List X) (ys : List Y) (x : X) (y : Y) → R (length ys) x y
    → Made R xs ys → Made R (xs ++ x ∷ []) (ys ++ y ∷ [])
made_more R xs ys x y here made = record {
  len = omega (arith, length-append ys (y ∷ []), length-append xs (x ∷ []), made.len);
  each = λ k a b at there. elim (get_more xs x a k at) [
    | inl p ↦ (elim (get_more ys y b k there) [
      | inl q ↦ (made.each k a b p q)
      | inr q ↦ (absurd (let l = slice_get_within xs k a p in omega (arith, l, q.0, made.len)))
    ])
    | inr p ↦ (elim (get_more ys y b k there) [
      | inl q ↦ (absurd (let l = slice_get_within ys k b q in omega (arith, l, p.0, made.len)))
      | inr q ↦ (subst (λ n. R n a b) (sym q.0)
          (subst (λ z. R (length ys) z b) p.1 (subst (λ z. R (length ys) x z) q.1 here)))
    ])
  ];
}

-- a caller that was started for a poster
abbrev pub Started : Callers → ℕ → inbox.Poster → Caller → Type 0
Started bodies k p caller = Serves p.ring p.caller (length (bodies_of bodies k)) caller

some_is : {X : Type 0} {x y : X} → Some x ≡ Some y → x ≡ y
some_is e = cc

pub started_serve : (bodies : Callers) (box : inbox.Inbox) (posters : List inbox.Poster) (callers : List Caller)
    → length posters ≡ length bodies → inbox.AreOf box posters → Made (Started bodies) posters callers
    → AllServe bodies box callers
started_serve bodies box posters callers len are made = record {
  len = made.len ∙ are.count;
  count = sym are.count ∙ len;
  each = λ c ring caller at there.
      let p = get_there posters c (let l = slice_get_within callers c caller there in omega (arith, l, made.len)) in
      let is = are.each c p.0 p.1 in
      let s : Serves p.0.ring p.0.caller (length (bodies_of bodies c)) caller = made.each c p.0 caller p.1 there in
      let ring' : p.0.ring ≡ ring = some_is (sym is.1 ∙ ap (slice_get (inbox.rings_of box)) is.0 ∙ at) in
      subst (λ r. Serves r c (length (bodies_of bodies c)) caller) ring'
      (subst (λ k. Serves p.0.ring k (length (bodies_of bodies c)) caller) is.0 s);
}

-- a poster that a caller has handed back
abbrev pub Ended : ℕ → Caller → inbox.Poster → Type 0
Ended k caller p = (ring : Ring) (c count : ℕ) → Serves ring c count caller → HasAll ring c count p

ended_has : (bodies : Callers) (box : inbox.Inbox) (callers : List Caller) (posters : List inbox.Poster) (k : ℕ)
    (p : inbox.Poster) → AllServe bodies box callers → Made Ended callers posters → slice_get posters k ≡ Some p
    → (ring : Ring) × (slice_get (inbox.rings_of box) k ≡ Some ring) × HasAll ring k (length (bodies_of bodies k)) p
ended_has bodies box callers posters k p all made at =
    let low : k < length callers = let l = slice_get_within posters k p at in omega (arith, l, made.len) in
    let caller = get_there callers k low in
    let ring = get_there (inbox.rings_of box) k (omega (arith, low, all.len)) in (
      ring.0,
      ring.1,
      made.each k caller.0 p caller.1 at ring.0 k (length (bodies_of bodies k))
          (all.each k ring.0 caller.0 ring.1 caller.1),
    )

pub ended_are : (bodies : Callers) (box : inbox.Inbox) (callers : List Caller) (posters : List inbox.Poster)
    → AllServe bodies box callers → Made Ended callers posters → inbox.AreOf box posters
ended_are bodies box callers posters all made = record {
  count = made.len ∙ all.len;
  each = λ k p at.
      let h = ended_has bodies box callers posters k p all made at in
      (h.2.own, ap (slice_get (inbox.rings_of box)) h.2.own ∙ h.1 ∙ ap (λ r. Some r) (sym h.2.end));
}

index_of : {X Y : Type 0} (f : X → Y) (xs : List X) (k : ℕ) (x : X) (d : Y) → slice_get xs k ≡ Some x
    → slice_index_or (map f xs) k d ≡ f x
index_of f [] k x d e = absurd cc
index_of f (y ∷ xs) zero x d e = ap f (some_is e)
index_of f (y ∷ xs) (suc k) x d e = index_of f xs k x d e

posted_in : (bodies : Callers) (box : inbox.Inbox) (callers : List Caller) (posters : List inbox.Poster) (c : ℕ)
    → (c < length posters) ⊎ (length posters ≤ c) → AllServe bodies box callers → Made Ended callers posters
    → inbox.posts_of posters c ≡ posts_of bodies c
posted_in bodies box callers posters c (inl low) all made =
    let p = get_there posters c low in
    index_of inbox.posted_by posters c p.0 [] p.1 ∙ (ended_has bodies box callers posters c p.0 all made p.1).2.posted
posted_in bodies box callers posters c (inr past) all made =
    get_or_past (map inbox.posted_by posters) c [] (omega (arith, past, length-map posters inbox.posted_by))
    ∙ ap (λ (l : List Body). first_posts c (length l))
    (sym (get_or_past bodies c [] (omega (arith, past, made.len, all.len, all.count))))

pub have_posted : (bodies : Callers) (box : inbox.Inbox) (callers : List Caller) (posters : List inbox.Poster)
    → AllServe bodies box callers → Made Ended callers posters → HavePosted bodies posters
have_posted bodies box callers posters all made c = posted_in bodies box callers posters c (grind arith) all made
