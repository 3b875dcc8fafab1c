use Rattle.std.proofs.Common.{rules}
use Rattle.dv_journal.proofs.Taken.{but_less}
use Rattle.dv_journal.proofs.sink.write_all.Goals as goal

pub loop-rest-preserved : goal.loop-rest-preserved
loop-rest-preserved g c =
    (but_less _ _ _ _ c.loop-rest.rest.now c.in_ok-n.n c.loop-rest.invariant.0 c.in_ok-n.ensures.taken, search rules)
