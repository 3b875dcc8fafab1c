-- A walk along those that are waited for ends at the first that doesn't wait, or comes back.
use Rattle.std.proofs.Common.{◌≡◌, ℕ, zero, suc, ◌+◌, ◌-◌, ◌≤◌, ◌<◌, List, length, Option, None, Some, refl, sym, ap}
use Rattle.std.proofs.Common.{◌∙◌, arith}
use Rattle.std.proofs.lemmas.Option.{option_and_then_some}
use Rattle.dv_store.specs.Cancelling.{link, follow, walk}
use Rattle.dv_store.specs.declared.record.Record.{Record}

-- links lead from one to the other
pub record Leads {P K : Type 0} (rs : List (Record P K)) (from to : ℕ) : Type 0 where
  pub links : ℕ
  pub leads : follow links from rs ≡ Some to

-- none lead from each to itself
pub leads_nowhere : {P K : Type 0} (rs : List (Record P K)) (id : ℕ) → Leads rs id id
unfolding follow
leads_nowhere rs id = record { links = 0; leads = refl }

module _ {P K : Type 0} (rs : List (Record P K)) where
  -- a link more
  follow_on : (n id here next : ℕ) → follow n id rs ≡ Some here → link rs here ≡ Some next
      → follow (suc n) id rs ≡ Some next
  unfolding follow
  follow_on zero id here next h k =
      let same : id ≡ here = cc in
      rw (same, k) refl
  follow_on (suc n) id here next h k =
      option_and_then_some (λ x. follow n x rs) (link rs id) here h (λ x e f. rw e (follow_on n x here next f k))

  pub leads_on : (id here next : ℕ) → Leads rs id here → link rs here ≡ Some next → Leads rs id next
  leads_on id here next l k = record { links = suc l.links; leads = follow_on l.links id here next l.leads k }

  -- no walk ends where the links come back
  circling : (mark here n : ℕ) → follow n mark rs ≡ Some here → link rs here ≡ Some mark → (k j x : ℕ)
      → follow j x rs ≡ Some here → walk k x rs ≡ None
  unfolding follow walk
  circling mark here n h back zero j x e = refl
  circling mark here n h back (suc k) zero x e =
      let same : x ≡ here = cc in
      rw (same, back) (circling mark here n h back k n mark h)
  circling mark here n h back (suc k) (suc j) x e =
      option_and_then_some (λ y. follow j y rs) (link rs x) here e (λ y f g. rw f (circling mark here n h back k j y g))

  pub back_never_ends : (mark here k : ℕ) → Leads rs mark here → link rs here ≡ Some mark → walk k here rs ≡ None
  unfolding follow
  back_never_ends mark here k l back = circling mark here l.links l.leads back k 0 here refl

  -- a walk of so many links at most, and one more
  pub walk_ends : (n here : ℕ) → link rs here ≡ None → walk (suc n) here rs ≡ Some here
  unfolding walk
  walk_ends n here e = rw e refl

  pub walk_on : (n here next : ℕ) → link rs here ≡ Some next → walk (suc n) here rs ≡ walk n next rs
  unfolding walk
  walk_on n here next e = rw e refl

  -- one turn of the walk, of which so many links are passed
  pub ends_here : (links here : ℕ) (found : Option ℕ) → links ≤ length rs → link rs here ≡ None
      → walk (length rs + 1 - links) here rs ≡ found → Some here ≡ found
  ends_here links here found w e h =
      let more : length rs + 1 - links ≡ suc (length rs - links) = omega (arith, w) in
      sym (walk_ends (length rs - links) here e) ∙ ap (λ n. walk n here rs) (sym more) ∙ h

  pub goes_on : (links here next : ℕ) (found : Option ℕ) → links ≤ length rs → link rs here ≡ Some next
      → walk (length rs + 1 - links) here rs ≡ found → walk (length rs + 1 - (links + 1)) next rs ≡ found
  goes_on links here next found w e h =
      let more : length rs + 1 - links ≡ suc (length rs - links) = omega (arith, w) in
      let left : length rs + 1 - (links + 1) ≡ length rs - links = omega (arith, w) in
      ap (λ n. walk n next rs) left ∙ sym (walk_on (length rs - links) here next e)
      ∙ ap (λ n. walk n here rs) (sym more) ∙ h

  pub comes_back : (links mark here next : ℕ) (found : Option ℕ) → Leads rs mark here → link rs here ≡ Some next
      → next ≡ mark → walk (length rs + 1 - links) here rs ≡ found → None ≡ found
  comes_back links mark here next found l e same h =
      sym (back_never_ends mark here (length rs + 1 - links) l (e ∙ ap (λ n. Some n) same)) ∙ h

  pub no_more : (links here : ℕ) (found : Option ℕ) → length rs < links → walk (length rs + 1 - links) here rs ≡ found
      → None ≡ found
  unfolding walk
  no_more links here found w h =
      let none : length rs + 1 - links ≡ 0 = omega (arith, w) in
      ap (λ n. walk n here rs) (sym none) ∙ h
