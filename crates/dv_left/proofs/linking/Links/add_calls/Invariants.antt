use Rattle.std.proofs.Common.{◌≡◌, drop}
use Rattle.dv_left.specs.Hanging.{hung_at_calls}
use Rattle.dv_left.specs.Linking.{with_hung}
use Rattle.dv_left.proofs.linking.Links.add_calls.Given as goal

abbrev pub invariant-loop-call : goal.invariant-loop-call
invariant-loop-call l =
    with_hung (hung_at_calls (drop l.call-index l.calls)) l.self ≡ with_hung (hung_at_calls l.calls) l.initial.self
