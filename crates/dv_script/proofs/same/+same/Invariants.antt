use Rattle.std.proofs.Common.{◌≡◌, take}
use Rattle.dv_script.proofs.same.+same.Given as goal

abbrev pub invariant-are_same-loop-i : goal.invariant-are_same-loop-i
invariant-are_same-loop-i l = take l.i l.first ≡ take l.i l.second
