use Rattle.std.proofs.Common.{◌≡◌, map}
use Rattle.dv_document.specs.View.{members_view, members_left}
use Rattle.dv_forms.specs.Forms.{has_only}
use Rattle.dv_forms.proofs.leaf.has_only.Given as goal

abbrev pub invariant-loop-key : goal.invariant-loop-key
invariant-loop-key l =
    has_only (map (λ k. k.now) l.keys) (members_view l.rest)
    ≡ has_only (map (λ k. k.now) l.keys) (members_view l.fn.members)

abbrev pub decreases-loop-key : goal.decreases-loop-key
decreases-loop-key l = members_left l.rest
