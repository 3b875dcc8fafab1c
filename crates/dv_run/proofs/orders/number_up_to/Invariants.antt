use Rattle.std.proofs.Common.{◌≡◌, drop}
use Rattle.dv_run.specs.Orders.{with_digits}
use Rattle.dv_run.proofs.orders.number_up_to.Given as goal

-- the digits so far are in the number, and those that are left follow it
abbrev pub invariant-loop-byte : goal.invariant-loop-byte
invariant-loop-byte l = with_digits l.most 0 l.bytes ≡ with_digits l.most l.number (drop l.byte-index l.bytes)
