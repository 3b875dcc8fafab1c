use Rattle.std.proofs.Common.{length}
use Rattle.dv_reader.proofs.passes.+are_apart.Given as goal

abbrev pub decreases-are_apart : goal.decreases-are_apart
decreases-are_apart l = length l.cooperators.now
