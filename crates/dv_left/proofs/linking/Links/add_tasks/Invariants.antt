use Rattle.std.proofs.Common.{◌≡◌, drop, map}
use Rattle.dv_left.specs.Hanging.{hung_in_lines}
use Rattle.dv_left.specs.Linking.{with_hung}
use Rattle.dv_left.specs.declared.left.Hang.TheVariants as hang
use Rattle.dv_left.proofs.linking.Links.add_tasks.Given as goal

abbrev pub invariant-loop-number : goal.invariant-loop-number
invariant-loop-number l =
    with_hung (hung_in_lines hang.Task l.number (map (λ x. x.waiting) (drop l.number l.tasks))) l.self
    ≡ with_hung (hung_in_lines hang.Task 0 (map (λ x. x.waiting) l.tasks)) l.initial.self
