-- Each step keeps the rule.
use Rattle.std.proofs.Common.{◌≡◌, ◌≢◌, ℕ, zero, suc, ◌+◌, ◌-◌, ◌<◌, List, [], ◌∷◌, ◌++◌, set, sym, refl, ap, ◌∙◌}
use Rattle.std.proofs.Common.{subst, ⊎_elim, arith}
use mathlib.Core.Option.{some, some-ne-none, some-injective}
use lib.ListN.{get_elem?}
use Rattle.crossbeam_deque.specs.Tasks as deque
use Rattle.crossbeam_queue.specs.Fifo as queue
use Rattle.crossbeam_queue.proofs.Lists.{at_set, at_snoc}
use Rattle.dv_pool.specs.declared.rule.Hand.{Hand}
use Rattle.dv_pool.specs.Rules.{all_parts, hand, weigh, total, IdleIsEmpty, Balanced, Settles, FindsEmptied}

module _ {T : Type 0} where
  pub weigh-append : (h : T → ℕ) (xs ys : List T) → weigh h (xs ++ ys) ≡ weigh h xs + weigh h ys
  weigh-append h [] ys = omega arith
  weigh-append h (x ∷ xs) ys = omega (arith, weigh-append h xs ys)

  -- the total after a change of one hand
  total-set : (f : Hand T → ℕ) (hands : List (Hand T)) (port : ℕ) (v w : Hand T) → get_elem? hands port ≡ some v
      → total f (set hands port w) + f v ≡ total f hands + f w
  total-set f [] port v w at = absurd (some-ne-none v (sym at))
  total-set f (x ∷ xs) zero v w at = let e = ap f (some-injective x v at) in omega (arith, e)
  total-set f (x ∷ xs) (suc port) v w at = omega (arith, total-set f xs port v w at)

  total-snoc : (f : Hand T → ℕ) (hands : List (Hand T)) (v : Hand T) → total f (hands ++ v ∷ []) ≡ total f hands + f v
  total-snoc f [] v = omega arith
  total-snoc f (x ∷ xs) v = omega (arith, total-snoc f xs v)

  idle-set : (hands : List (Hand T)) (port : ℕ) (w : Hand T) → (w.parts ≡ 0 → (w.put ≡ []) × (w.taken ≡ []))
      → IdleIsEmpty hands → IdleIsEmpty (set hands port w)
  idle-set hands port w mine old j u e none =
      ⊎_elim
      (λ (x : (j ≡ port) × (w ≡ u)). subst (λ (y : Hand T). y.parts ≡ 0 → (y.put ≡ []) × (y.taken ≡ [])) x.1 mine none)
      (λ (x : (j ≢ port) × (get_elem? hands j ≡ some u)). old j u x.1 none) (at_set hands port j w u e)

  idle-snoc : (hands : List (Hand T)) (w : Hand T) → (w.parts ≡ 0 → (w.put ≡ []) × (w.taken ≡ [])) → IdleIsEmpty hands
      → IdleIsEmpty (hands ++ w ∷ [])
  idle-snoc hands w mine old j u e none =
      ⊎_elim (λ x. old j u x none) (λ (x : w ≡ u).
      subst (λ (y : Hand T). y.parts ≡ 0 → (y.put ≡ []) × (y.taken ≡ [])) x mine none) (at_snoc hands w u j e)

  idle_begins : IdleIsEmpty {T = T} (hand {T = T} all_parts [] [] ∷ [])
  idle_begins zero v e none =
      let p = ap (λ (y : Hand T). y.parts) (some-injective (hand {T = T} all_parts [] []) v e) in
      absurd (omega (arith, p, none))
  idle_begins (suc j) v e none = absurd (some-ne-none v (sym e))

  -- nothing was put, and every part is in one hand
  pub begins : Balanced {T = T} [] (hand {T = T} all_parts [] [] ∷ [])
  begins = (refl, (λ h. refl), idle_begins)

  -- one hand puts or takes
  step : (items items' : List T) (hands : List (Hand T)) (port : ℕ) (v w : Hand T) → 0 < v.parts → w.parts ≡ v.parts
      → ((h : T → ℕ)
      → (weigh h w.put + weigh h v.taken) + weigh h items ≡ (weigh h v.put + weigh h w.taken) + weigh h items')
      → Balanced items hands → get_elem? hands port ≡ some v → Balanced items' (set hands port w)
  step items items' hands port v w some_part same moved b at = (
    (let s = total-set (λ u. u.parts) hands port v w at in let p = b.0 in omega arith),
    (λ h.
        let s = total-set (λ u. weigh h u.put) hands port v w at in
        let t = total-set (λ u. weigh h u.taken) hands port v w at in
        let p = b.1 h in
        let m = moved h in
        omega arith),
    idle-set hands port w (λ none. absurd (omega arith)) b.2,
  )

  -- items join at the back of the deque
  pub deque_puts : (port : ℕ) (v : Hand T) (xs : List T) → 0 < v.parts
      → deque.Pushes Balanced port v xs (λ w. w ≡ hand v.parts (v.put ++ xs) v.taken)
  deque_puts port v xs some_part items hands b at =
      let w : Hand T = hand v.parts (v.put ++ xs) v.taken in (
        w,
        step items (items ++ xs) hands port v w some_part refl
            (λ h. omega (arith, weigh-append h v.put xs, weigh-append h items xs)) b at,
        refl,
      )

  -- items leave the deque
  pub deque_takes : (port : ℕ) (v : Hand T) (most : ℕ) → 0 < v.parts
      → deque.Takes Balanced port v most (λ xs w. w ≡ hand v.parts v.put (v.taken ++ xs))
  deque_takes port v most some_part xs items hands _ _ b at =
      let w : Hand T = hand v.parts v.put (v.taken ++ xs) in (
        w,
        step (xs ++ items) items hands port v w some_part refl
            (λ h. omega (arith, weigh-append h v.taken xs, weigh-append h xs items)) b at,
        refl,
      )

  -- an item joins at the back of the queue
  pub queue_puts : (n port : ℕ) (v : Hand T) (x : T) → 0 < v.parts
      → queue.Pushes Balanced n port v x (λ w. w ≡ hand v.parts (v.put ++ x ∷ []) v.taken)
  queue_puts n port v x some_part items hands room = deque_puts port v (x ∷ []) some_part items hands

  -- an item leaves the queue
  pub queue_takes : (port : ℕ) (v : Hand T) → 0 < v.parts
      → queue.Pops Balanced port v (λ x w. w ≡ hand v.parts v.put (v.taken ++ x ∷ []))
  queue_takes port v some_part x items hands b at =
      let w : Hand T = hand v.parts v.put (v.taken ++ x ∷ []) in (
        w,
        step (x ∷ items) items hands port v w some_part refl (λ h. omega (arith, weigh-append h v.taken (x ∷ []))) b at,
        refl,
      )

  -- a part goes to a new hand
  pub forks : (port : ℕ) (v : Hand T) → 1 < v.parts
      → queue.Forks Balanced port v (hand (v.parts - 1) v.put v.taken) (hand {T = T} 1 [] [])
  forks port v two items hands b at =
      let l : Hand T = hand (v.parts - 1) v.put v.taken in
      let r : Hand T = hand 1 [] [] in
      let vs : List (Hand T) = set hands port l in (
        (let s = total-set (λ u. u.parts) hands port v l at in let t = total-snoc (λ u. u.parts) vs r in let p = b.0 in
            omega arith),
        (λ h.
            let s = total-set (λ u. weigh h u.put) hands port v l at in
            let s' = total-snoc (λ u. weigh h u.put) vs r in
            let t = total-set (λ u. weigh h u.taken) hands port v l at in
            let t' = total-snoc (λ u. weigh h u.taken) vs r in
            let p = b.1 h in
            omega arith),
        idle-snoc vs r (λ none. absurd (omega arith)) (idle-set hands port l (λ none. absurd (omega arith)) b.2),
      )

  -- two hands become one
  pub merges : (port : ℕ) (v : Hand T) (other : ℕ) (u : Hand T) → 0 < v.parts → queue.Merges Balanced port v other u
      (hand (v.parts + u.parts) (v.put ++ u.put) (v.taken ++ u.taken)) (hand {T = T} 0 [] [])
  merges port v other u some_part items hands b at two at' =
      let both : Hand T = hand (v.parts + u.parts) (v.put ++ u.put) (v.taken ++ u.taken) in
      let none : Hand T = hand 0 [] [] in
      let vs : List (Hand T) = set hands port both in (
        (let s = total-set (λ y. y.parts) hands port v both at in
            let t = total-set (λ y. y.parts) vs other u none at' in let p = b.0 in omega arith),
        (λ h.
            let s = total-set (λ y. weigh h y.put) hands port v both at in
            let s' = total-set (λ y. weigh h y.put) vs other u none at' in
            let t = total-set (λ y. weigh h y.taken) hands port v both at in
            let t' = total-set (λ y. weigh h y.taken) vs other u none at' in
            let p = b.1 h in
            omega (arith, weigh-append h v.put u.put, weigh-append h v.taken u.taken)),
        idle-set vs other none (λ _. (refl, refl)) (idle-set hands port both (λ none. absurd (omega arith)) b.2),
      )

  -- where no hand has a part, f of all is nothing
  no_part : (f : Hand T → ℕ) → ((u : Hand T) → u.put ≡ [] → u.taken ≡ [] → f u ≡ 0) → (hands : List (Hand T))
      → total (λ u. u.parts) hands ≡ 0 → IdleIsEmpty hands → total f hands ≡ 0
  no_part f empty [] none idle = refl
  no_part f empty (x ∷ xs) none idle =
      let i = idle 0 x refl (omega (arith, none)) in
      let e = empty x i.0 i.1 in
      let r = no_part f empty xs (omega (arith, none)) (λ j u at. idle (suc j) u at) in
      omega arith

  -- where one hand has all parts, f of it is f of all
  alone : (f : Hand T → ℕ) → ((u : Hand T) → u.put ≡ [] → u.taken ≡ [] → f u ≡ 0)
      → (hands : List (Hand T)) (port : ℕ) (v : Hand T) → get_elem? hands port ≡ some v
      → total (λ u. u.parts) hands ≡ v.parts → IdleIsEmpty hands → total f hands ≡ f v
  alone f empty [] port v at all idle = absurd (some-ne-none v (sym at))
  alone f empty (x ∷ xs) zero v at all idle =
      let is = some-injective x v at in
      let p = ap (λ (y : Hand T). y.parts) is in
      let e = ap f is in
      let r = no_part f empty xs (omega (arith, all, p)) (λ j u k. idle (suc j) u k) in
      omega arith
  alone f empty (x ∷ xs) (suc port) v at all idle =
      let s = total-set (λ u. u.parts) xs port v (hand {T = T} 0 [] []) at in
      let i = idle 0 x refl (omega (arith, all)) in
      let e = empty x i.0 i.1 in
      let r = alone f empty xs port v at (omega (arith, all)) (λ j u k. idle (suc j) u k) in
      omega arith

  -- who has every part learns the whole
  pub learns : (port : ℕ) (v : Hand T) → queue.Learns Balanced port v (Settles v)
  learns port v items hands b at all h =
      let put = alone (λ u. weigh h u.put) (λ u p t. ap (weigh h) p) hands port v at (b.0 ∙ sym all) b.2 in
      let taken = alone (λ u. weigh h u.taken) (λ u p t. ap (weigh h) t) hands port v at (b.0 ∙ sym all) b.2 in
      let p = b.1 h in
      omega arith

  pub finds : (port : ℕ) (v : Hand T) → deque.Finds Balanced port v (FindsEmptied v)
  finds port v hands b at all h = let e = learns port v [] hands b at all h in omega arith
