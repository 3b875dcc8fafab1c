use Rattle.std.proofs.Common.{◌≡◌, map, drop, bytes_eq}
use Rattle.std.specs.List.{list_any}
use Rattle.dv_forms.proofs.leaf.is_among.Given as goal

abbrev pub invariant-loop-k : goal.invariant-loop-k
invariant-loop-k l =
    list_any (λ k. bytes_eq l.key k) (map (λ k. k.now) (drop l.k-index l.keys))
    ≡ list_any (λ k. bytes_eq l.key k) (map (λ k. k.now) l.keys)
