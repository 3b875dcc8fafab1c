use Rattle.std.proofs.Common.{◌≡◌, map}
use Rattle.dv_left.specs.Left.{lock_of}
use Rattle.dv_left.proofs.end.locks_of.Given as goal

abbrev pub invariant-loop-semaphore : goal.invariant-loop-semaphore
invariant-loop-semaphore l = l.locks.items ≡ map lock_of l.yielded
