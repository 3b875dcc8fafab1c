use Rattle.std.proofs.Common.{◌≡◌, ◌≤◌, length, reverse, take}
use Rattle.dv_inline.specs.Position.{active}
use Rattle.dv_inline.proofs.opens.active_in.Given as goal

-- those that are left have the active failure of all
abbrev pub invariant-loop-left : goal.invariant-loop-left
invariant-loop-left l = record {
  within : l.left ≤ length l.fn.opens;
  same : active (reverse (take l.left l.fn.opens)) ≡ active (reverse l.fn.opens);
}

abbrev pub decreases-loop-left : goal.decreases-loop-left
decreases-loop-left l = l.left
