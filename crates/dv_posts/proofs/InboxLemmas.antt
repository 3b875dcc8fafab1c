-- What an inbox says after a step on one of its receivers.
use Rattle.std.proofs.Common.{All, arith, ◌≡◌, ◌≢◌, ℕ, zero, suc, ◌+◌, ◌<◌, ◌≤◌, ◌==◌, Bool, true, false, List, [], ◌∷◌}
use Rattle.std.proofs.Common.{◌++◌, ◌∙◌, length, map, slice_index_or, slice_set, slice_get, Some, refl, sym, ap, subst}
use Rattle.std.proofs.Common.{append-nil, append_assoc, length-append}
use mathlib.Core.Logic.{◌⊎◌, inl, inr}
use Rattle.std.proofs.lemmas.Bool.Decides.{nat_tests}
use Rattle.std.proofs.lemmas.List.{length-map, map-append, map-set, set-get_or, get_or-map, get_or-set_same}
use Rattle.std.proofs.lemmas.List.{get_or-set_other}
use Rattle.std.proofs.lemmas.List.Elements.{filter-append}
use Rattle.std.proofs.lemmas.Option.{slice_get_read, slice_get_within}
use Rattle.std.specs.declared.alloc.Global.{Global}
use Rattle.rtrb.specs.Ends.{SameRing}
use Rattle.rtrb.specs.declared.AnyItems.{AnyItems}
use Rattle.rtrb.specs.declared.end.End.{End}
use Rattle.dv_posts.specs.declared.posted.Posted.{Posted}
use Rattle.dv_posts.specs.Posts.{callers_of, AllTaken, AreOf, Inbox, IsFresh, IsNew, IsOf, Learns, Poster, Receiver}
use Rattle.dv_posts.specs.Posts.{Takes, known, known_of, of, post, posted_by, posts_of, rings_of, taken_of}
use Rattle.dv_posts.specs.Receiving.{ArePassed, AreRead, Leaves, TakesAt, inbox_of}
use Rattle.dv_posts.specs.Ring.{ring_of}

-- a list that is made of the receivers, after one of them changed
set_here : {X : Type 0} (f : Receiver → X) (old : List Receiver) (c : ℕ) (s : Receiver) (d : X) → c < length old
    → slice_index_or (map f (slice_set old c s)) c d ≡ f s
set_here f old c s d low =
    ap (λ l. slice_index_or l c d) (map-set f old c s)
    ∙ get_or-set_same (map f old) c (f s) d (omega (arith, low, length-map old f))

set_other : {X : Type 0} (f : Receiver → X) (old : List Receiver) (c k : ℕ) (s : Receiver) (d : X) → k ≢ c
    → slice_index_or (map f (slice_set old c s)) k d ≡ slice_index_or (map f old) k d
set_other f old c k s d apart =
    ap (λ l. slice_index_or l k d) (map-set f old c s) ∙ get_or-set_other (map f old) c k (f s) d apart

set_same : {X : Type 0} (f : Receiver → X) (old : List Receiver) (c : ℕ) (r s : Receiver) → c < length old
    → r ≡ slice_index_or old c r → f s ≡ f r → map f (slice_set old c s) ≡ map f old
set_same f old c r s low is e =
    map-set f old c s ∙ ap (slice_set (map f old) c) (e ∙ ap f is ∙ sym (get_or-map f old c r (f r) low))
    ∙ set-get_or (map f old) c (f r)

at_place : {X : Type 0} (f : Receiver → X) (old : List Receiver) (c : ℕ) (r : Receiver) (d : X) → c < length old
    → r ≡ slice_index_or old c r → slice_index_or (map f old) c d ≡ f r
at_place f old c r d low is = get_or-map f old c r d low ∙ ap f (sym is)

-- what is known after one more was taken
known_more : (old new : Receiver) (index : ℕ) (more : List ℕ) → new.taken ≡ old.taken ++ index ∷ []
    → old.seen ++ more ≡ index ∷ new.seen → known old ++ more ≡ known new
known_more old new index more next seen =
    append_assoc old.taken old.seen more ∙ ap (λ l. old.taken ++ l) seen
    ∙ sym (append_assoc old.taken (index ∷ []) new.seen) ∙ ap (λ l. l ++ new.seen) (sym next)

-- where nothing is seen that wasn't taken
known_at : (receivers : List Receiver) (c : ℕ)
    → ((d : Receiver) → c < length receivers → (slice_index_or receivers c d).seen ≡ [])
    → slice_index_or (map known receivers) c [] ≡ slice_index_or (map (λ r. r.taken) receivers) c []
known_at [] c none = refl
known_at (r ∷ rs) zero none = ap (λ l. r.taken ++ l) (none r (omega arith)) ∙ append-nil r.taken
known_at (r ∷ rs) (suc c) none = known_at rs c (λ d low. none d (omega (arith, low)))

pub all_taken : (inbox : Inbox) → AreRead 0 (callers_of inbox) inbox.receivers → AllTaken inbox
all_taken inbox read c = ap (map (post c)) (known_at inbox.receivers c (λ d low. read c d (omega arith) low))

pub same_taken : (old new : List Receiver) (posted : Posted) → TakesAt old new posted
    → map (λ r. r.ring) new ≡ map (λ r. r.ring) old
same_taken old new posted t =
    ap (map (λ r. r.ring)) t.set ∙ set_same (λ r. r.ring) old posted.caller t.before t.after t.within t.is t.gives.ring

pub takes_at : (old new : Inbox) (posted : Posted) → TakesAt old.receivers new.receivers posted
    → ArePassed old.next posted.caller old.receivers → new.next ≡ posted.caller + 1 → Takes old new posted
takes_at old new posted t passed turn =
    let c = posted.caller in
    let rs = old.receivers in
    let here : known_of new c ≡ map (post c) (known t.after) =
    ap (λ l. map (post c) (slice_index_or (map known l) c [])) t.set
    ∙ ap (map (post c)) (set_here known rs c t.after [] t.within) in
    let there : known_of old c ≡ map (post c) (known t.before) =
    ap (map (post c)) (at_place known rs c t.before [] t.within t.is) in
    let more = t.gives.more.0 in
    record {
      within = t.within;
      passed = λ k before. ap (map (post k)) (known_at rs k (λ d low. passed k d low before));
      turn = turn;
      next = ap (λ l. map (post c) (slice_index_or (map (λ r. r.taken) l) c [])) t.set
          ∙ ap (map (post c)) (set_here (λ r. r.taken) rs c t.after [] t.within ∙ t.gives.next
          ∙ ap (λ l. l ++ posted.index ∷ []) (sym (at_place (λ r. r.taken) rs c t.before [] t.within t.is)))
          ∙ map-append (post c) (slice_index_or (map (λ r. r.taken) rs) c []) (posted.index ∷ []);
      more = (
        map (post c) more,
        ap (λ l. l ++ map (post c) more) there ∙ sym (map-append (post c) (known t.before) more)
            ∙ ap (map (post c)) (known_more t.before t.after posted.index more t.gives.next t.gives.more.1) ∙ sym here,
      );
      others = λ k apart. (
        ap (λ l. map (post k) (slice_index_or (map (λ r. r.taken) l) k [])) t.set ∙ ap (map (post k))
            (set_other (λ r. r.taken) rs c k t.after [] apart),
        ap (λ l. map (post k) (slice_index_or (map known l) k [])) t.set ∙ ap (map (post k))
            (set_other known rs c k t.after [] apart),
      );
    }

pub within_of : (inbox : Inbox) (p : Poster) (n : ℕ) → n ≡ p.caller → IsOf inbox p → n < callers_of inbox
within_of inbox p n at of =
    let l = slice_get_within (rings_of inbox) p.caller p.ring of in
    omega (arith, at, l, length-map inbox.receivers (λ r. r.ring))

pub same_learned : (old : List Receiver) (n : ℕ) (r s : Receiver) → n < length old → r ≡ slice_index_or old n r
    → s.ring ≡ r.ring → map (λ r. r.ring) (slice_set old n s) ≡ map (λ r. r.ring) old
same_learned old n r s low is ring = set_same (λ r. r.ring) old n r s low is ring

pub learns_at : (old : Inbox) (p : Poster) (r s : Receiver) → p.caller < callers_of old
    → r ≡ slice_index_or old.receivers p.caller r → s.taken ≡ r.taken
    → map (post p.caller) (known s) ≡ posted_by p
    → Learns old p (record { receivers = slice_set old.receivers p.caller s; next = old.next })
learns_at old p r s low is taken all = record {
  all = ap (map (post p.caller)) (set_here known old.receivers p.caller s [] low) ∙ all;
  untaken =
      λ k.
      ap (λ l. map (post k) (slice_index_or l k [])) (set_same (λ r. r.taken) old.receivers p.caller r s low is taken);
  others = λ k apart. ap (map (post k)) (set_other known old.receivers p.caller k s [] apart);
  turn = refl;
}

-- one more receiver, and one more poster
at_more : {X : Type 0} (R : X → Type 0) (xs : List X) (x d : X) (k : ℕ) → R (slice_index_or xs k d) → R x
    → R (slice_index_or (xs ++ x ∷ []) k d)
at_more R [] x d zero was is = is
at_more R [] x d (suc k) was is = was
at_more R (y ∷ ys) x d zero was is = was
at_more R (y ∷ ys) x d (suc k) was is = at_more R ys x d k was is

get_more : {X : Type 0} (xs ys : List X) (k : ℕ) (y : X) → slice_get xs k ≡ Some y → slice_get (xs ++ ys) k ≡ Some y
get_more [] ys k y e = grind arith
get_more (x ∷ xs) ys zero y e = e
get_more (x ∷ xs) ys (suc k) y e = get_more xs ys k y e

get_last : {X : Type 0} (xs : List X) (x : X) → slice_get (xs ++ x ∷ []) (length xs) ≡ Some x
get_last [] x = refl
get_last (y ∷ ys) x = get_last ys x

pub some_same : {X : Type 0} (x y : X) → Some x ≡ Some y → x ≡ y
some_same x y e = grind arith

last_or : {X : Type 0} (xs : List X) (x y : X) (k : ℕ) → slice_get (xs ++ x ∷ []) k ≡ Some y
    → (slice_get xs k ≡ Some y) ⊎ ((k ≡ length xs) × (x ≡ y))
last_or [] x y zero e = inr (refl, some_same x y e)
last_or [] x y (suc k) e = grind arith
last_or (z ∷ zs) x y zero e = inl e
last_or (z ∷ zs) x y (suc k) e = last_in (last_or zs x y k e)
  where
    last_in : (slice_get zs k ≡ Some y) ⊎ ((k ≡ length zs) × (x ≡ y))
        → (slice_get (z ∷ zs) (suc k) ≡ Some y) ⊎ ((suc k ≡ length (z ∷ zs)) × (x ≡ y))
    last_in (inl before) = inl before
    last_in (inr last) = inr (ap suc last.0, last.1)

pub pair_ring : (a b : End ℕ Global AnyItems) → SameRing a b → ring_of a ≡ ring_of b
pair_ring a b e = let w = e.0 in let s = e.1 in let n = e.2 in let h = e.3 in cc

pub new_more : (n : ℕ) (inbox : List Receiver) (r : Receiver) → IsNew n (inbox_of inbox) → r.taken ≡ [] → known r ≡ []
    → IsNew (n + 1) (inbox_of (inbox ++ r ∷ []))
new_more n inbox r was taken none = record {
  count = let l = was.count in omega (arith, l, length-append inbox (r ∷ []));
  unknown = λ c. subst (λ l. map (post c) (slice_index_or l c []) ≡ []) (sym (map-append known inbox (r ∷ [])))
      (at_more (λ l. map (post c) l ≡ []) (map known inbox) (known r) [] c (was.unknown c) (ap (map (post c)) none));
  untaken = λ c. subst (λ l. map (post c) (slice_index_or l c []) ≡ []) (sym (map-append (λ r. r.taken) inbox (r ∷ [])))
      (at_more (λ l. map (post c) l ≡ []) (map (λ r. r.taken) inbox) r.taken [] c (was.untaken c)
      (ap (map (post c)) taken));
  turn = refl;
}

pub of_more : (inbox : List Receiver) (posters : List Poster) (r : Receiver) (p : Poster)
    → AreOf (inbox_of inbox) posters → p.caller ≡ length inbox → p.ring ≡ r.ring
    → AreOf (inbox_of (inbox ++ r ∷ [])) (posters ++ p ∷ [])
of_more inbox posters r p was at pair = record {
  count = let l = was.count in omega (
    arith,
    l,
    length-append (map (λ r. r.ring) inbox) (r.ring ∷ []),
    length-append posters (p ∷ []),
    ap length split,
  );
  each = λ k q e. each_in k q (last_or posters p q k e);
}
  where
    split : map (λ r. r.ring) (inbox ++ r ∷ []) ≡ map (λ r. r.ring) inbox ++ r.ring ∷ []
    split = map-append (λ r. r.ring) inbox (r ∷ [])

    each_in : (k : ℕ) (q : Poster) → (slice_get posters k ≡ Some q) ⊎ ((k ≡ length posters) × (p ≡ q))
        → (q.caller ≡ k) × IsOf (inbox_of (inbox ++ r ∷ [])) q
    each_in k q (inl before) = let t = was.each k q before in (
      t.0,
      ap (λ l. slice_get l q.caller) split ∙ get_more (map (λ r. r.ring) inbox) (r.ring ∷ []) q.caller q.ring t.1,
    )
    each_in k q (inr last) = subst (λ q. (q.caller ≡ k) × IsOf (inbox_of (inbox ++ r ∷ [])) q) last.1 (
      let l = was.count in at ∙ omega (arith, l, last.0, length-map inbox (λ r. r.ring)),
      ap (λ l. slice_get l p.caller) split ∙ ap (slice_get (map (λ r. r.ring) inbox ++ r.ring ∷ []))
          (at ∙ sym (length-map inbox (λ r. r.ring))) ∙ get_last (map (λ r. r.ring) inbox) r.ring ∙ ap Some (sym pair),
    )

pub one_fresh : (capacity : ℕ) (p : Poster) → IsFresh capacity p → All (IsFresh capacity) (p ∷ [])
one_fresh capacity p is zero d low = is
one_fresh capacity p is (suc k) d low = absurd (omega (arith, low))

-- the ends at one place are of one ring
pub pair_at : (inbox : Inbox) (posters : List Poster) (i : ℕ) (r : Receiver) (p : Poster) → AreOf inbox posters
    → i < callers_of inbox → r ≡ slice_index_or inbox.receivers i r → p ≡ slice_index_or posters i p
    → (p.caller ≡ i) × (p.ring ≡ r.ring)
pair_at inbox posters i r p are low here there =
    let t = are.each i p (slice_get_read posters (length posters) i p refl (let l = are.count in
    omega (arith, low, l, length-map inbox.receivers (λ r. r.ring))) there) in
    let ring : slice_get (rings_of inbox) i ≡ Some r.ring = slice_get_read (rings_of inbox)
    (length (rings_of inbox)) i r.ring refl (omega (arith, low, length-map inbox.receivers (λ r. r.ring)))
    (sym (at_place (λ r. r.ring) inbox.receivers i r r.ring low here)) in
    (t.0, some_same p.ring r.ring (sym t.1 ∙ ap (slice_get (rings_of inbox)) t.0 ∙ ring))

-- posts of a caller, and of others
pub same_at : (c n : ℕ) → (n == c) ≡ true → n ≡ c
same_at c n e = grind (arith, nat_tests)

pub other_at : (c n : ℕ) → (n == c) ≡ false → c ≢ n
other_at c n e = grind (arith, nat_tests)

of_own : (c : ℕ) (xs : List ℕ) → of c (map (post c) xs) ≡ map (post c) xs
of_own c [] = refl
of_own c (x ∷ xs) =
    let t : (c == c) ≡ true = grind (arith, nat_tests) in let rec = of_own c xs in rw t (ap (λ l. post c x ∷ l) rec)

of_others : (c i : ℕ) (xs : List ℕ) → (i == c) ≡ false → of c (map (post i) xs) ≡ []
of_others c i [] e = refl
of_others c i (x ∷ xs) e = rw e (of_others c i xs e)

of_both : (c : ℕ) (xs ys : List Posted) → of c (xs ++ ys) ≡ of c xs ++ of c ys
of_both c xs ys = filter-append (λ p. p.caller == c) xs ys

-- what was left of one receiver, for its caller and for another
rest_here : (c : ℕ) (taken left : List ℕ) (rest after : List Posted) → of c rest ≡ []
    → after ≡ rest ++ map (post c) left → map (post c) taken ++ of c after ≡ map (post c) (taken ++ left)
rest_here c taken left rest after none e =
    let own : of c after ≡ map (post c) left =
    ap (of c) e ∙ of_both c rest (map (post c) left) ∙ ap (λ l. l ++ of c (map (post c) left)) none ∙ of_own c left in
    ap (λ l. map (post c) taken ++ l) own ∙ sym (map-append (post c) taken left)

rest_other : (c i : ℕ) (left : List ℕ) (rest after : List Posted) → (i == c) ≡ false → after ≡ rest ++ map (post i) left
    → of c after ≡ of c rest
rest_other c i left rest after apart e =
    ap (of c) e ∙ of_both c rest (map (post i) left) ∙ ap (λ l. of c rest ++ l) (of_others c i left apart)
    ∙ append-nil (of c rest)

-- the posts of the callers below i, and none of the others
pub record LeftTaken (inbox : Inbox) (posters : List Poster) (i : ℕ) (rest : List Posted) : Type 0 where
  pub below : (c : ℕ) → c < i → taken_of inbox c ++ of c rest ≡ posts_of posters c
  pub above : (c : ℕ) → i ≤ c → of c rest ≡ []

pub left_taken_more : (inbox : Inbox) (posters : List Poster) (i : ℕ) (r : Receiver) (p : Poster)
    (rest after : List Posted) → AreOf inbox posters → i < callers_of inbox
    → r ≡ slice_index_or inbox.receivers i r → p ≡ slice_index_or posters i p → Leaves r p rest after
    → LeftTaken inbox posters i rest → LeftTaken inbox posters (i + 1) after
left_taken_more inbox posters i r p rest after are low here there leaves was = record {
  below = λ c less. below_in c (i == c) refl less;
  above =
      λ c more. rest_other c i leaves.left rest after (let a : (i == c) ≡ false = grind (arith, nat_tests) in a) moved
      ∙ was.above c (omega (arith, more));
}
  where
    own : p.caller ≡ i
    own = (pair_at inbox posters i r p are low here there).0

    moved : after ≡ rest ++ map (post i) leaves.left
    moved = leaves.moved ∙ ap (λ n. rest ++ map (post n) leaves.left) own

    at_i : taken_of inbox i ++ of i after ≡ posts_of posters i
    at_i = ap (λ l. map (post i) l ++ of i after) (at_place (λ r. r.taken) inbox.receivers i r [] low here)
        ∙ rest_here i r.taken leaves.left rest after (was.above i (omega arith)) moved
        ∙ ap (λ n. map (post n) (r.taken ++ leaves.left)) (sym own) ∙ leaves.all
        ∙ ap posted_by there ∙ sym (get_or-map posted_by posters i p [] (let l = are.count in
        omega (arith, low, l, length-map inbox.receivers (λ r. r.ring))))

    below_in : (c : ℕ) (b : Bool) → (i == c) ≡ b → c < i + 1 → taken_of inbox c ++ of c after ≡ posts_of posters c
    below_in c true e less = subst (λ k. taken_of inbox k ++ of k after ≡ posts_of posters k) (same_at c i e) at_i
    below_in c false e less =
        ap (λ l. taken_of inbox c ++ l) (rest_other c i leaves.left rest after e moved)
        ∙ was.below c (let apart = other_at c i e in omega (arith, less, apart))
