-- Whom a cancel reaches (Twisted: `Deferred.cancel`).
use Rattle.std.specs.Prelude.{◌≡◌, ◌<◌, ◌↔◌, ◌+◌, ℕ, zero, suc, true, List, length, Option, Some, None, slice_get}
use Rattle.std.specs.Option.{option_and_then, option_map_or}
use Rattle.dv_store.specs.Fire.{with_swallows}
use Rattle.dv_store.specs.Record.{changing}
use Rattle.dv_store.specs.declared.record.Record.{Record}

-- the next firing of a Deferred after its first is swallowed
abbrev pub swallow_next : {P K : Type 0} → ℕ → List (Record P K) → List (Record P K)
swallow_next id rs = changing id (with_swallows true) rs

-- the Deferred that one waits for; one of no record waits for none
abbrev pub link : {P K : Type 0} → List (Record P K) → ℕ → Option ℕ
link rs id = option_and_then (λ r. r.waits_for) (slice_get rs id)

-- the Deferred to which so many links lead
unfoldable pub follow : {P K : Type 0} → ℕ → ℕ → List (Record P K) → Option ℕ
follow zero id rs = Some id
follow (suc n) id rs = option_and_then (λ next. follow n next rs) (link rs id)

-- the first that doesn't wait, where so many links at most lead to it
unfoldable pub walk : {P K : Type 0} → ℕ → ℕ → List (Record P K) → Option ℕ
walk zero id rs = None
walk (suc n) id rs = option_map_or (λ next. walk n next rs) (link rs id) (Some id)

-- the first Deferred on the walk along the links that doesn't wait; None on a cycle. No walk without a cycle passes
-- more Deferreds than there are
abbrev pub end_of_chain : {P K : Type 0} → ℕ → List (Record P K) → Option ℕ
end_of_chain id rs = walk (length rs + 1) id rs

-- links lead from one to the other, which doesn't wait
pub record EndsAt {P K : Type 0} (rs : List (Record P K)) (id end : ℕ) : Type 0 where
  pub links : ℕ
  pub leads : follow links id rs ≡ Some end
  pub free : link rs end ≡ None

-- the walk reaches a Deferred for a second time
pub record Circles {P K : Type 0} (rs : List (Record P K)) (id : ℕ) : Type 0 where
  pub first : ℕ
  pub again : ℕ
  pub later : first < again
  pub at : ℕ
  pub leads : follow first id rs ≡ Some at
  pub returns : follow again id rs ≡ Some at

-- what a walk answers: the first Deferred on it that doesn't wait, and none exactly on a cycle
pub record ChainsEnd (P K : Type 0) : Type 0 where
  pub ends : (id end : ℕ) (rs : List (Record P K)) → (end_of_chain id rs ≡ Some end) ↔ EndsAt rs id end
  pub circles : (id : ℕ) (rs : List (Record P K)) → (end_of_chain id rs ≡ None) ↔ Circles rs id
