use Rattle.std.proofs.Common.{◌≡◌, take}
use Rattle.dv_objects.proofs.reached.copy_of.Given as goal

abbrev pub invariant-loop-id : goal.invariant-loop-id
invariant-loop-id l = l.copy ≡ take l.id-index l.ids
