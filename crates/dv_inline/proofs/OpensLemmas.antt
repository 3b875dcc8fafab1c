-- The active failure of tries and finallys, the innermost of which is the last.
use Rattle.std.proofs.Common.{◌≡◌, ℕ, suc, List, [], ◌∷◌, ◌++◌, Option, Some, refl, ap, ◌∙◌, reverse, slice_get, take}
use Rattle.std.proofs.Common.{get_or}
use Rattle.std.proofs.Math.Seq.{take-suc}
use Rattle.std.proofs.lemmas.Option.{get_or_from_slice_get, slice_get_within}
use Rattle.dv_inline.specs.Position.{active, failure_at, inner_or}
use Rattle.dv_inline.specs.declared.open.Open.{Open}
use Rattle.dv_value.proofs.StackLemmas.{last_first}

-- with one more it is the one of that, where it has one
pub inner_last : (opens : List Open) (k : ℕ) (x : Open) → slice_get opens k ≡ Some x
    → active (reverse (take (suc k) opens)) ≡ inner_or (failure_at x.inside) (active (reverse (take k opens)))
inner_last opens k x h =
    ap (λ os. active (reverse os)) (take-suc opens k x (slice_get_within opens k x h))
    ∙ ap (λ y. active (reverse (take k opens ++ (y ∷ [])))) (get_or_from_slice_get opens k x x h)
    ∙ ap active (last_first (take k opens) x)
