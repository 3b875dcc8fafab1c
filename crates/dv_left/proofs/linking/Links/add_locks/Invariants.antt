use Rattle.std.proofs.Common.{◌≡◌, drop, map}
use Rattle.dv_left.specs.Hanging.{hung_in_lines}
use Rattle.dv_left.specs.Linking.{with_hung}
use Rattle.dv_left.specs.declared.left.Hang.TheVariants as hang
use Rattle.dv_left.proofs.linking.Links.add_locks.Given as goal

abbrev pub invariant-loop-number : goal.invariant-loop-number
invariant-loop-number l =
    with_hung (hung_in_lines hang.Lock l.number (map (λ x. x.waiting) (drop l.number l.locks))) l.self
    ≡ with_hung (hung_in_lines hang.Lock 0 (map (λ x. x.waiting) l.locks)) l.initial.self
