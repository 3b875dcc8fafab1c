use Rattle.std.proofs.Common.{◌≡◌, [], replicate}
use Rattle.dv_left.proofs.lists.Lists.new.Given as goal

abbrev pub invariant-loop-number : goal.invariant-loop-number
invariant-loop-number g l = l.lists.items ≡ replicate l.number []
