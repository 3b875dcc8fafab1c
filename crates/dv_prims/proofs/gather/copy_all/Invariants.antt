use Rattle.std.proofs.Common.{◌≡◌, take}
use Rattle.dv_prims.proofs.gather.copy_all.Given as goal

abbrev pub invariant-loop-value : goal.invariant-loop-value
invariant-loop-value l = l.copies ≡ take l.value-index l.values
