use Rattle.std.proofs.Common.{◌≡◌, map}
use Rattle.dv_left.specs.Left.{queue_of}
use Rattle.dv_left.proofs.end.queues_of.Given as goal

abbrev pub invariant-loop-queue : goal.invariant-loop-queue
invariant-loop-queue l = l.parts.items ≡ map queue_of l.yielded
