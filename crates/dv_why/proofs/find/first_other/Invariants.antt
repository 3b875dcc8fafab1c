use Rattle.std.proofs.Common.{◌≡◌}
use Rattle.serde_json.specs.View.{members_view}
use Rattle.dv_why.specs.Fits.{first_other}
use Rattle.dv_why.proofs.find.first_other.Given as goal

-- the first of what is left is the first
abbrev pub invariant-loop-key : goal.invariant-loop-key
invariant-loop-key l =
    first_other l.keyed (members_view l.key-iterator) ≡ first_other l.keyed (members_view l.members.entries)
