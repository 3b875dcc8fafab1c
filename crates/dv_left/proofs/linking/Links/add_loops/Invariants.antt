use Rattle.std.proofs.Common.{◌≡◌, drop}
use Rattle.dv_left.specs.Hanging.{hung_at_loops}
use Rattle.dv_left.specs.Linking.{with_hung}
use Rattle.dv_left.proofs.linking.Links.add_loops.Given as goal

abbrev pub invariant-loop-number : goal.invariant-loop-number
invariant-loop-number l =
    with_hung (hung_at_loops l.number (drop l.number l.loops)) l.self
    ≡ with_hung (hung_at_loops 0 l.loops) l.initial.self
