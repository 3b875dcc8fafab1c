use Rattle.std.proofs.Common.{◌≡◌, map}
use Rattle.dv_document.specs.View.{members_view, members_left}
use Rattle.dv_forms.specs.Forms.{has_none_but}
use Rattle.dv_forms.proofs.failure.has_none_but.Given as goal

abbrev pub invariant-loop-key : goal.invariant-loop-key
invariant-loop-key l =
    has_none_but (map (λ k. k.now) l.keys) (members_view l.rest)
    ≡ has_none_but (map (λ k. k.now) l.keys) (members_view l.fn.members)

abbrev pub decreases-loop-key : goal.decreases-loop-key
decreases-loop-key l = members_left l.rest
