use Rattle.std.proofs.Common.{◌≡◌, drop}
use Rattle.dv_left.specs.Hanging.{all_hung}
use Rattle.dv_left.specs.Linking.{with_hung}
use Rattle.dv_left.proofs.linking.Links.hang_all.Given as goal

abbrev pub invariant-loop-id : goal.invariant-loop-id
invariant-loop-id l =
    with_hung (all_hung l.at (drop l.id-index l.ids)) l.self ≡ with_hung (all_hung l.at l.ids) l.initial.self
