use Rattle.std.proofs.Common.{◌≡◌, take}
use Rattle.dv_survey.proofs.tallies.copy_of.Given as goal

abbrev pub invariant-loop-batch : goal.invariant-loop-batch
invariant-loop-batch l = l.copy ≡ take l.batch-index l.batches
