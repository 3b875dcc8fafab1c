-- The sequences of posts are those that hold the posts of each caller in order.
use Rattle.std.proofs.Common.{arith, ◌≡◌, ◌≢◌, ℕ, zero, suc, ◌+◌, ◌-◌, ◌≤◌, ◌==◌, true, false, cond, List, [], ◌∷◌, ◌∙◌}
use Rattle.std.proofs.Common.{length, map, slice_index_or, refl, sym, ap, subst, take, zero-add, add-zero}
use Rattle.std.specs.Prelude.{⊤}
use Rattle.std.proofs.lemmas.Bool.{cases_eq}
use Rattle.std.proofs.lemmas.Bool.Decides.{nat_tests}
use mathlib.Core.Logic.{inl, inr}
use Rattle.dv_posts.specs.Batches.{Batch, Callers, below, bodies_of, first_posts}
use Rattle.dv_posts.specs.Posts.{post, of}
use Rattle.dv_posts.specs.declared.posted.Posted.{Posted}
use Rattle.dv_orders.specs.Orders.{Choice, beside, choices, counts_of, posts_from, sequences, total}
use Rattle.dv_orders.proofs.Members.{In, Distinct, distinct_flat, distinct_map, in_flat, in_map, of_flat, of_map}
use Rattle.dv_orders.proofs.Members.{map_map}

-- all these posts are of the caller
abbrev AllOf : ℕ → Batch → Type 0
AllOf c [] = ⊤
AllOf c (posted ∷ posts) = (posted.caller ≡ c) × AllOf c posts

-- the posts that are left of each caller are its own; the first caller has this number
abbrev pub Own : ℕ → List Batch → Type 0
Own c [] = ⊤
Own c (posts ∷ callers) = AllOf c posts × Own (suc c) callers

-- with the post before them, if it is of the caller
abbrev with_own : Posted → ℕ → Batch → Batch
with_own p c posts = cond (p.caller == c) (p ∷ posts) posts

own_test : (p : Posted) (c : ℕ) → p.caller ≡ c → (p.caller == c) ≡ true
own_test p c e = grind (arith, nat_tests)

other_test : (p : Posted) (c : ℕ) → p.caller ≢ c → (p.caller == c) ≡ false
other_test p c e = grind (arith, nat_tests)

with_it : (p : Posted) (c : ℕ) (posts : Batch) → p.caller ≡ c → with_own p c posts ≡ p ∷ posts
with_it p c posts e = rw (own_test p c e) refl

without_it : (p : Posted) (c : ℕ) (posts : Batch) → p.caller ≢ c → with_own p c posts ≡ posts
without_it p c posts e = rw (other_test p c e) refl

-- a choice takes a post of a caller, and leaves the posts of the others
record Takes (c : ℕ) (before : List Batch) (choice : Choice) : Type 0 where
  each : (k : ℕ) → slice_index_or before k [] ≡ with_own choice.posted (c + k) (slice_index_or choice.left k [])
  above : c ≤ choice.posted.caller
  own : Own c choice.left

next_place : (c k : ℕ) → suc c + k ≡ c + suc k
next_place c k = omega arith

takes_head : (c : ℕ) (p : Posted) (posts : Batch) (callers : List Batch) → Own c ((p ∷ posts) ∷ callers)
    → Takes c ((p ∷ posts) ∷ callers) (record { posted = p; left = posts ∷ callers })
takes_head c p posts callers own = record {
  each = head_each;
  above = let e = own.0.0 in omega arith;
  own = (own.0.1, own.1);
}
  where
    head_each : (k : ℕ)
        → slice_index_or ((p ∷ posts) ∷ callers) k [] ≡ with_own p (c + k) (slice_index_or (posts ∷ callers) k [])
    head_each zero = sym (with_it p (c + 0) posts (own.0.0 ∙ omega arith))
    head_each (suc k) = sym (without_it p (c + suc k) (slice_index_or callers k []) (let e = own.0.0 in omega arith))

takes_beside : (c : ℕ) (posts : Batch) (callers : List Batch) (choice : Choice) → AllOf c posts
    → Takes (suc c) callers choice → Takes c (posts ∷ callers) (beside posts choice)
takes_beside c posts callers choice own takes = record {
  each = beside_each;
  above = let l = takes.above in omega arith;
  own = (own, takes.own);
}
  where
    beside_each : (k : ℕ) → slice_index_or (posts ∷ callers) k []
        ≡ with_own choice.posted (c + k) (slice_index_or (posts ∷ choice.left) k [])
    beside_each zero = sym (without_it choice.posted (c + 0) posts (let l = takes.above in omega arith))
    beside_each (suc k) =
        takes.each k ∙ ap (λ n. with_own choice.posted n (slice_index_or choice.left k [])) (next_place c k)

-- each choice takes a post
choices_take : (c : ℕ) (callers : List Batch) → Own c callers → (choice : Choice) → In choice (choices callers)
    → Takes c callers choice
choices_take c [] own choice h = absurd h
choices_take c ([] ∷ callers) own choice h =
    let r = of_map (beside []) choice (choices callers) h in
    subst (Takes c ([] ∷ callers)) r.2
    (takes_beside c [] callers r.0 own.0 (choices_take (suc c) callers own.1 r.0 r.1))
choices_take c ((p ∷ posts) ∷ callers) own choice (inl e) =
    subst (Takes c ((p ∷ posts) ∷ callers)) e (takes_head c p posts callers own)
choices_take c ((p ∷ posts) ∷ callers) own choice (inr h) =
    let r = of_map (beside (p ∷ posts)) choice (choices callers) h in
    subst (Takes c ((p ∷ posts) ∷ callers)) r.2
    (takes_beside c (p ∷ posts) callers r.0 own.0 (choices_take (suc c) callers own.1 r.0 r.1))

-- one post less is left
pub choices_take_one : (callers : List Batch) (choice : Choice) → In choice (choices callers)
    → total (counts_of callers) ≡ suc (total (counts_of choice.left))
choices_take_one [] choice h = absurd h
choices_take_one ([] ∷ callers) choice h =
    let r = of_map (beside []) choice (choices callers) h in
    let one = choices_take_one callers r.0 r.1 in
    subst (λ (x : Choice). 0 + total (counts_of callers) ≡ suc (total (counts_of x.left))) r.2 (omega arith)
choices_take_one ((p ∷ posts) ∷ callers) choice (inl e) =
    subst (λ (x : Choice). suc (length posts) + total (counts_of callers) ≡ suc (total (counts_of x.left))) e
    (omega arith)
choices_take_one ((p ∷ posts) ∷ callers) choice (inr h) =
    let r = of_map (beside (p ∷ posts)) choice (choices callers) h in
    let one = choices_take_one callers r.0 r.1 in
    subst (λ (x : Choice). suc (length posts) + total (counts_of callers) ≡ suc (total (counts_of x.left))) r.2
    (omega arith)

-- where no post is left, none is left of any caller
none_left : (callers : List Batch) (k : ℕ) → total (counts_of callers) ≡ 0 → slice_index_or callers k [] ≡ []
none_left [] k e = refl
none_left ([] ∷ callers) zero e = refl
none_left ([] ∷ callers) (suc k) e = none_left callers k (omega (arith, e))
none_left ((p ∷ posts) ∷ callers) k e = absurd (omega (arith, e))

-- a sequence holds the posts of each caller, in order
pub sequences_hold : (n : ℕ) (callers : List Batch) → Own 0 callers → total (counts_of callers) ≡ n → (sequence : Batch)
    → In sequence (sequences n callers) → (k : ℕ) → of k sequence ≡ slice_index_or callers k []
sequences_hold zero callers own all sequence (inl e) k =
    subst (λ (s : Batch). of k s ≡ slice_index_or callers k []) e (sym (none_left callers k all))
sequences_hold zero callers own all sequence (inr h) k = absurd h
sequences_hold (suc n) callers own all sequence h k =
    let r = of_flat (λ choice. map (λ s. choice.posted ∷ s) (sequences n choice.left)) sequence (choices callers) h in
    let rest = of_map (λ s. r.0.posted ∷ s) sequence (sequences n r.0.left) r.2 in
    let takes = choices_take 0 callers own r.0 r.1 in
    let one = choices_take_one callers r.0 r.1 in
    let later = sequences_hold n r.0.left takes.own (omega arith) rest.0 rest.1 k in
    subst (λ (s : Batch). of k s ≡ slice_index_or callers k []) rest.2
    (ap (with_own r.0.posted k) later
    ∙ ap (λ c. with_own r.0.posted c (slice_index_or r.0.left k [])) (sym (zero-add k)) ∙ sym (takes.each k))

-- as many posts as are left
pub sequences_hold_all : (n : ℕ) (callers : List Batch) (sequence : Batch) → In sequence (sequences n callers)
    → length sequence ≡ n
sequences_hold_all zero callers sequence (inl e) = sym (ap length e)
sequences_hold_all zero callers sequence (inr h) = absurd h
sequences_hold_all (suc n) callers sequence h =
    let r = of_flat (λ choice. map (λ s. choice.posted ∷ s) (sequences n choice.left)) sequence (choices callers) h in
    let rest = of_map (λ s. r.0.posted ∷ s) sequence (sequences n r.0.left) r.2 in
    sym (ap length rest.2) ∙ ap suc (sequences_hold_all n r.0.left rest.0 rest.1)

in_beside : (posts : Batch) (callers : List Batch) (choice : Choice) → In choice (choices callers)
    → In (beside posts choice) (choices (posts ∷ callers))
in_beside [] callers choice h = in_map (beside []) choice (choices callers) h
in_beside (p ∷ posts) callers choice h = inr (in_map (beside (p ∷ posts)) choice (choices callers) h)

-- a choice that takes this post, and leaves the rest
record Chosen (callers : List Batch) (p : Posted) (rest : ℕ → Batch) (choice : Choice) : Type 0 where
  among : In choice (choices callers)
  takes : choice.posted ≡ p
  leaves : (k : ℕ) → slice_index_or choice.left k [] ≡ rest k

-- where it is of the first of these callers, and where it is of another
take_here : (c : ℕ) (posts : Batch) (callers : List Batch) (p : Posted) (rest : ℕ → Batch)
    → ((k : ℕ) → slice_index_or (posts ∷ callers) k [] ≡ with_own p (c + k) (rest k)) → p.caller ≡ c
    → (choice : Choice) × Chosen (posts ∷ callers) p rest choice
take_here c posts callers p rest each same =
    let here : posts ≡ p ∷ rest 0 = each 0 ∙ with_it p (c + 0) (rest 0) (omega arith) in (
      record { posted = p; left = rest 0 ∷ callers },
      record {
        among = subst (λ (l : Batch). In (record { posted = p; left = rest 0 ∷ callers }) (choices (l ∷ callers)))
            (sym here) (inl refl);
        takes = refl;
        leaves = left;
      },
    )
  where
    left : (k : ℕ) → slice_index_or (rest 0 ∷ callers) k [] ≡ rest k
    left zero = refl
    left (suc k) = each (suc k) ∙ without_it p (c + suc k) (rest (suc k)) (omega arith)

take_later : (c : ℕ) (posts : Batch) (callers : List Batch) (p : Posted) (rest : ℕ → Batch)
    → ((k : ℕ) → slice_index_or (posts ∷ callers) k [] ≡ with_own p (c + k) (rest k)) → p.caller ≢ c → (choice : Choice)
    → Chosen callers p (λ k. rest (suc k)) choice
    → (choice : Choice) × Chosen (posts ∷ callers) p rest choice
take_later c posts callers p rest each other choice chosen = (
  beside posts choice,
  record { among = in_beside posts callers choice chosen.among; takes = chosen.takes; leaves = left },
)
  where
    left : (k : ℕ) → slice_index_or (posts ∷ choice.left) k [] ≡ rest k
    left zero = each 0 ∙ without_it p (c + 0) (rest 0) (omega arith)
    left (suc k) = chosen.leaves k

-- what is the first post of its caller may be taken
may_take : (c : ℕ) (callers : List Batch) (p : Posted) (rest : ℕ → Batch)
    → ((k : ℕ) → slice_index_or callers k [] ≡ with_own p (c + k) (rest k)) → c ≤ p.caller
    → (choice : Choice) × Chosen callers p rest choice
may_take c [] p rest each above =
    let k = p.caller - c in
    let e : [] ≡ p ∷ rest k = each k ∙ with_it p (c + k) (rest k) (omega arith) in
    absurd cc
may_take c (posts ∷ callers) p rest each above = elim (cases_eq p.caller c) [
  | inl same ↦ take_here c posts callers p rest each same
  | inr other ↦ let r = may_take (suc c) callers p (λ k. rest (suc k))
      (λ k. each (suc k) ∙ ap (λ n. with_own p n (rest (suc k))) (sym (next_place c k))) (omega arith) in
      take_later c posts callers p rest each other r.0 r.1
]

-- what holds the posts of each caller in order is a sequence of them
pub in_sequences : (sequence : Batch) (callers : List Batch) → ((k : ℕ) → of k sequence ≡ slice_index_or callers k [])
    → (total (counts_of callers) ≡ length sequence) × In sequence (sequences (length sequence) callers)
in_sequences [] callers each = (none_in callers (λ k. sym (each k)), inl refl)
  where
    none_in : (callers : List Batch) → ((k : ℕ) → slice_index_or callers k [] ≡ []) → total (counts_of callers) ≡ 0
    none_in [] none = refl
    none_in (posts ∷ callers) none =
        let here = ap length (none 0) in let later = none_in callers (λ k. none (suc k)) in omega arith
in_sequences (p ∷ sequence) callers each =
    let r = may_take 0 callers p (λ k. of k sequence)
    (λ k. sym (each k) ∙ ap (λ c. with_own p c (of k sequence)) (sym (zero-add k))) (omega arith) in
    let later = in_sequences sequence r.0.left (λ k. sym (r.1.leaves k)) in
    let one = choices_take_one callers r.0 r.1.among in
    let among : In (p ∷ sequence) (map (λ s. r.0.posted ∷ s) (sequences (length sequence) r.0.left)) =
    subst (λ (q : Posted). In (q ∷ sequence) (map (λ s. r.0.posted ∷ s) (sequences (length sequence) r.0.left)))
    r.1.takes (in_map (λ s. r.0.posted ∷ s) sequence (sequences (length sequence) r.0.left) later.1) in (
      omega (arith, one, later.0),
      in_flat (λ choice. map (λ s. choice.posted ∷ s) (sequences (length sequence) choice.left)) r.0 (p ∷ sequence)
          (choices callers) r.1.among among,
    )

-- the choices take different posts
choices_differ : (c : ℕ) (callers : List Batch) → Own c callers
    → Distinct (map (λ choice. choice.posted) (choices callers))
choices_differ c [] own = tt
choices_differ c ([] ∷ callers) own =
    subst (λ (l : List Posted). Distinct l) (sym (map_map (λ choice. choice.posted) (beside []) (choices callers)))
    (choices_differ (suc c) callers own.1)
choices_differ c ((p ∷ posts) ∷ callers) own = (
  λ i.
      let r = of_map (λ choice. choice.posted) p (map (beside (p ∷ posts)) (choices callers)) i in
      let s = of_map (beside (p ∷ posts)) r.0 (choices callers) r.1 in
      let takes = choices_take (suc c) callers own.1 s.0 s.1 in
      let above = takes.above in
      let at : s.0.posted.caller ≡ p.caller = ap (λ x. x.posted.caller) s.2 ∙ ap (λ q. q.caller) r.2 in
      let e = own.0.0 in
      omega arith,
  subst (λ (l : List Posted). Distinct l)
      (sym (map_map (λ choice. choice.posted) (beside (p ∷ posts)) (choices callers)))
      (choices_differ (suc c) callers own.1),
)

-- no sequence is there twice
pub sequences_differ : (n : ℕ) (callers : List Batch) → Own 0 callers → Distinct (sequences n callers)
sequences_differ zero callers own = (λ h. h, tt)
sequences_differ (suc n) callers own =
    distinct_flat (λ choice. map (λ s. choice.posted ∷ s) (sequences n choice.left)) (λ choice. choice.posted ∷ [])
    (take 1) (choices callers)
    (λ choice i. distinct_map (λ s. choice.posted ∷ s) (sequences n choice.left) (λ a b e. cc)
    (sequences_differ n choice.left (choices_take 0 callers own choice i).own))
    (λ choice s i j. let r = of_map (λ s. choice.posted ∷ s) s (sequences n choice.left) j in sym (ap (take 1) r.2))
    (subst (λ (l : List Batch). Distinct l) (map_map (λ p. p ∷ []) (λ choice. choice.posted) (choices callers))
    (distinct_map (λ p. p ∷ []) (map (λ choice. choice.posted) (choices callers)) (λ a b e. cc)
    (choices_differ 0 callers own)))

-- the posts of callers are their own
all_of : (c : ℕ) (ns : List ℕ) → AllOf c (map (post c) ns)
all_of c [] = tt
all_of c (n ∷ ns) = (refl, all_of c ns)

pub posts_are_own : (c : ℕ) (callers : Callers) → Own c (posts_from c callers)
posts_are_own c [] = tt
posts_are_own c (bodies ∷ callers) = (all_of c (below (length bodies)), posts_are_own (suc c) callers)

pub posts_at : (c : ℕ) (callers : Callers) (k : ℕ)
    → slice_index_or (posts_from c callers) k [] ≡ first_posts (c + k) (length (bodies_of callers k))
posts_at c [] k = refl
posts_at c (bodies ∷ callers) zero = ap (λ n. first_posts n (length bodies)) (sym (add-zero c))
posts_at c (bodies ∷ callers) (suc k) =
    posts_at (suc c) callers k ∙ ap (λ n. first_posts n (length (bodies_of callers k))) (next_place c k)
