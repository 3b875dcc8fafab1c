-- A walk ends at the first that doesn't wait, and has no end exactly where the links come back.
use Rattle.std.proofs.Common.{◌≡◌, ◌⊎◌, inl, inr, ⊎_elim, ℕ, zero, suc, ◌+◌, ◌-◌, ◌<◌, Bool, true, false, eqb, List, []}
use Rattle.std.proofs.Common.{◌∷◌, length, slice_get, Option, None, Some, refl, sym, ap, ◌∙◌, arith, zero-add, suc-add}
use Rattle.std.specs.List.{AllByRecursion, IsDistinct, list_any}
use Rattle.std.proofs.lemmas.Bool.{cases_lt, cases_order, eqb-true}
use Rattle.std.proofs.lemmas.Map.Steps.{length-le_from_distinct_below}
use Rattle.std.proofs.lemmas.Option.{none-some, same_Some, slice_get_within, option_and_then_some}
use Rattle.dv_store.specs.Cancelling.{link, follow, walk, end_of_chain, EndsAt, Circles, ChainsEnd}
use Rattle.dv_store.specs.declared.record.Record.{Record}

-- where a number stands in a list
record Stands (x : ℕ) (xs : List ℕ) : Type 0 where
  place : ℕ
  found : slice_get xs place ≡ Some x

stands_later : (x y : ℕ) (xs : List ℕ) → Stands x xs → Stands x (y ∷ xs)
stands_later x y xs s = record { place = suc s.place; found = s.found }

-- it stands there, or each that does is another
stands_first : (b : Bool) (x y : ℕ) (xs : List ℕ) → eqb x y ≡ b → AllByRecursion (λ z. eqb x z ≡ false) xs ⊎ Stands x xs
    → AllByRecursion (λ z. eqb x z ≡ false) (y ∷ xs) ⊎ Stands x (y ∷ xs)
stands_first true x y xs e rest = inr (record { place = 0; found = ap Some (sym (eqb-true x y e)) })
stands_first false x y xs e rest = ⊎_elim (λ others. inl (e, others)) (λ s. inr (stands_later x y xs s)) rest

stands_or_not : (x : ℕ) (xs : List ℕ) → AllByRecursion (λ y. eqb x y ≡ false) xs ⊎ Stands x xs
stands_or_not x [] = inl tt
stands_or_not x (y ∷ xs) = stands_first _ x y xs refl (stands_or_not x xs)

-- a number that stands in a list twice
record Repeats (xs : List ℕ) : Type 0 where
  number : ℕ
  first : ℕ
  again : ℕ
  later : first < again
  at_first : slice_get xs first ≡ Some number
  at_again : slice_get xs again ≡ Some number

repeats_later : (x : ℕ) (xs : List ℕ) → Repeats xs → Repeats (x ∷ xs)
repeats_later x xs r = record {
  number = r.number;
  first = suc r.first;
  again = suc r.again;
  later = omega (arith, r.later);
  at_first = r.at_first;
  at_again = r.at_again;
}

repeats_now : (x : ℕ) (xs : List ℕ) → Stands x xs → Repeats (x ∷ xs)
repeats_now x xs s =
    record { number = x; first = 0; again = suc s.place; later = omega arith; at_first = refl; at_again = s.found }

-- one does, or each is another
repeats_or_not : (xs : List ℕ) → IsDistinct eqb xs ⊎ Repeats xs
unfolding IsDistinct
repeats_or_not [] = inl tt
repeats_or_not (x ∷ xs) =
    ⊎_elim (λ others. ⊎_elim (λ distinct. inl (others, distinct)) (λ r. inr (repeats_later x xs r)) (repeats_or_not xs))
    (λ s. inr (repeats_now x xs s)) (stands_or_not x xs)

-- one more number below a bound
below_one_more : (b : Bool) (n x q : ℕ) (xs : List ℕ) → eqb q x ≡ b → x < n → (list_any (eqb q) xs ≡ true → q < n)
    → list_any (eqb q) (x ∷ xs) ≡ true → q < n
below_one_more true n x q xs e l below h = omega (arith, eqb-true q x e, l)
below_one_more false n x q xs e l below h = below (rw e at h)

module _ {P K : Type 0} (rs : List (Record P K)) where
  -- a walk that ends has found an end
  ends_on : (id next end : ℕ) → link rs id ≡ Some next → EndsAt rs next end → EndsAt rs id end
  unfolding follow
  ends_on id next end e h = record { links = suc h.links; leads = rw e h.leads; free = h.free }

  walk_found : (k id end : ℕ) (o : Option ℕ) → link rs id ≡ o → walk k id rs ≡ Some end → EndsAt rs id end
  unfolding follow walk
  walk_found zero id end o e h = absurd (none-some end h)
  walk_found (suc k) id end None e h =
      let same : id ≡ end = same_Some id end (rw e at h) in
      record { links = 0; leads = ap Some same; free = rw same at e }
  walk_found (suc k) id end (Some next) e h = ends_on id next end e (walk_found k next end _ refl (rw e at h))

  -- so many links, and then more
  follow_past : (n m id here : ℕ) → follow n id rs ≡ Some here → follow (n + m) id rs ≡ follow m here rs
  unfolding follow
  follow_past zero m id here h =
      let same : id ≡ here = same_Some id here h in
      rw (zero-add, same) refl
  follow_past (suc n) m id here h =
      rw suc-add
      (option_and_then_some (λ x. follow n x rs) (link rs id) here h (λ x e f. rw e (follow_past n m x here f)))

  -- none lead on from an end
  no_link : (n end : ℕ) → link rs end ≡ None → follow (suc n) end rs ≡ None
  unfolding follow
  no_link n end free = rw free refl

  past_end : (n m id end : ℕ) → follow n id rs ≡ Some end → link rs end ≡ None → n < m → follow m id rs ≡ None
  past_end n m id end h free l =
      let more : m ≡ n + suc (m - n - 1) = omega (arith, l) in
      ap (λ k. follow k id rs) more ∙ follow_past n (suc (m - n - 1)) id end h ∙ no_link (m - n - 1) end free

  nothing_past : (n m id end x : ℕ) → follow n id rs ≡ Some end → link rs end ≡ None → follow m id rs ≡ Some x → n < m
      → ⊥
  nothing_past n m id end x h free k l = none-some x (sym (past_end n m id end h free l) ∙ k)

  -- there is one end at most
  ends_once : (id x y : ℕ) → EndsAt rs id x → EndsAt rs id y → x ≡ y
  ends_once id x y h k =
      ⊎_elim (λ same. same_Some x y (sym h.leads ∙ ap (λ n. follow n id rs) same ∙ k.leads))
      (λ other. absurd (⊎_elim (λ l. nothing_past h.links k.links id x y h.leads h.free k.leads l)
      (λ l. nothing_past k.links h.links id y x k.leads k.free h.leads l) other))
      (cases_order h.links k.links)

  -- and none on a cycle: what is left after the second time is left after the first too
  circles_within : (id end : ℕ) (c : Circles rs id) (h : EndsAt rs id end) (left : ℕ) → h.links ≡ c.again + left → ⊥
  circles_within id end c h left same =
      let twice : follow (c.first + left) id rs ≡ Some end = follow_past c.first left id c.at c.leads
      ∙ sym (follow_past c.again left id c.at c.returns) ∙ ap (λ n. follow n id rs) (sym same) ∙ h.leads in
      nothing_past (c.first + left) h.links id end end twice h.free h.leads (omega (arith, same, c.later))

  circles_never_end : (id end : ℕ) → Circles rs id → EndsAt rs id end → ⊥
  circles_never_end id end c h =
      ⊎_elim (λ l. nothing_past h.links c.again id end c.at h.leads h.free c.returns l)
      (λ l. circles_within id end c h (h.links - c.again) (omega (arith, l)))
      (cases_lt h.links c.again)

  -- those that a walk passes
  record Passes (k id : ℕ) : Type 0 where
    trail : List ℕ
    long : length trail ≡ k
    below : (q : ℕ) → list_any (eqb q) trail ≡ true → q < length rs
    visits : (i y : ℕ) → slice_get trail i ≡ Some y → follow i id rs ≡ Some y

  link_within : (id next : ℕ) → link rs id ≡ Some next → id < length rs
  link_within id next e =
      option_and_then_some (λ r. r.waits_for) (slice_get rs id) next e (λ r found w. slice_get_within rs id r found)

  visits_on : (id next : ℕ) (trail : List ℕ) → link rs id ≡ Some next
      → ((i y : ℕ) → slice_get trail i ≡ Some y → follow i next rs ≡ Some y) → (i y : ℕ)
      → slice_get (id ∷ trail) i ≡ Some y → follow i id rs ≡ Some y
  unfolding follow
  visits_on id next trail e visits zero y f = f
  visits_on id next trail e visits (suc i) y f = rw e (visits i y f)

  passes_on : (k id next : ℕ) → link rs id ≡ Some next → Passes k next → Passes (suc k) id
  passes_on k id next e p = record {
    trail = id ∷ p.trail;
    long = ap suc p.long;
    below = λ q. below_one_more _ (length rs) id q p.trail refl (link_within id next e) (p.below q);
    visits = visits_on id next p.trail e p.visits;
  }

  passes : (k id : ℕ) (o : Option ℕ) → link rs id ≡ o → walk k id rs ≡ None → Passes k id
  unfolding walk
  passes zero id o e h =
      record { trail = []; long = refl; below = λ q f. absurd cc; visits = λ i y f. absurd (none-some y f) }
  passes (suc k) id None e h = absurd (none-some id (sym (rw e at h)))
  passes (suc k) id (Some next) e h = passes_on k id next e (passes k next _ refl (rw e at h))

  -- they are more than there are, where it has no end: one of them is passed twice
  none_circles : (id : ℕ) → end_of_chain id rs ≡ None → Circles rs id
  none_circles id h =
      let p = passes (length rs + 1) id _ refl h in
      ⊎_elim
      (λ distinct. absurd (omega (arith, length-le_from_distinct_below p.trail (length rs) distinct p.below, p.long)))
      (λ r. record {
        first = r.first;
        again = r.again;
        later = r.later;
        at = r.number;
        leads = p.visits r.first r.number r.at_first;
        returns = p.visits r.again r.number r.at_again;
      })
      (repeats_or_not p.trail)

  -- an end is the answer, and a cycle has none
  end_answered : (id end : ℕ) (o : Option ℕ) → end_of_chain id rs ≡ o → EndsAt rs id end → o ≡ Some end
  end_answered id end None e h = absurd (circles_never_end id end (none_circles id e) h)
  end_answered id end (Some x) e h = ap Some (ends_once id x end (walk_found (length rs + 1) id x _ refl e) h)

  cycle_answered : (id : ℕ) (o : Option ℕ) → end_of_chain id rs ≡ o → Circles rs id → o ≡ None
  cycle_answered id None e c = refl
  cycle_answered id (Some x) e c = absurd (circles_never_end id x c (walk_found (length rs + 1) id x _ refl e))

-- what a walk answers
pub chains_end : {P K : Type 0} → ChainsEnd P K
chains_end = record {
  ends = λ id end rs. (walk_found rs (length rs + 1) id end _ refl, end_answered rs id end _ refl);
  circles = λ id rs. (none_circles rs id, cycle_answered rs id _ refl);
}
