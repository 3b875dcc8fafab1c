-- The bytes that a source gave.
use Rattle.std.proofs.Common.{◌≤◌, ℕ, List, ◌++◌, Option, Some, None, length, take, sym, ◌∙◌, ap, arith}
use Rattle.std.proofs.lemmas.List.{append-nil, take_at, take_all}
use Rattle.std.proofs.KnownBytes.{Consumes-trans}
use Rattle.std.specs.Io.KnownBytes.{Consumes, IsAtEnd}
use Rattle.dv_source.specs.Source.{IsFrontOf, ConsumesSome}

-- as many as were asked for
pub front_full : (a b : Option (List ℕ)) (bytes : List ℕ) (most : ℕ) →
    Consumes a b bytes → length bytes ≤ most → most ≤ length bytes → IsFrontOf a most bytes
front_full None b bytes most taken le ge = tt
front_full (Some x) None bytes most taken le ge = absurd taken
front_full (Some x) (Some y) bytes most taken le ge = sym (ap (take most) taken ∙ take_at bytes y most (omega arith))

-- or all that there were
pub front_end : (a b : Option (List ℕ)) (bytes : List ℕ) (most : ℕ) →
    Consumes a b bytes → length bytes ≤ most → IsAtEnd b → IsFrontOf a most bytes
front_end None b bytes most taken le end = tt
front_end (Some x) None bytes most taken le end = absurd taken
front_end (Some x) (Some y) bytes most taken le end =
    sym (ap (take most) (taken ∙ ap (λ (l : List ℕ). bytes ++ l) end ∙ append-nil bytes) ∙ take_all most bytes le)

-- what was read and lost
pub consumes_some : (a b : Option (List ℕ)) (bytes : List ℕ) → Consumes a b bytes → ConsumesSome a b
consumes_some a b bytes taken = (bytes, taken)

-- what was read and lost, where the allocation for the last piece failed
pub consumes_more : (a b c : Option (List ℕ)) (bytes more : List ℕ) →
    Consumes a b bytes → Consumes b c more → ConsumesSome a c
consumes_more a b c bytes more taken next = (bytes ++ more, Consumes-trans a b c bytes more taken next)

-- what the goals of a loop over reads cite
pub ruleset pieces = (front_full, front_end, consumes_some, consumes_more)
