use Rattle.std.proofs.Common.{◌≡◌}
use Rattle.dv_prims.proofs.waiting_list.WaitingList.into_items.Given as goal

abbrev pub invariant-loop-number : goal.invariant-loop-number
invariant-loop-number l = l.items ≡ l.yielded
