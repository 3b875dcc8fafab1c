use Rattle.std.proofs.Common.{◌≡◌, length}
use Rattle.dv_journal.specs.Sink.{AppendsBut}
use Rattle.dv_journal.proofs.sink.write_all.Given as goal

abbrev pub invariant-loop-rest : goal.invariant-loop-rest
invariant-loop-rest g l =
    AppendsBut (g.W.Sink.taken l.initial.sink) (g.W.Sink.taken l.sink) l.bytes l.rest
    × (g.W.Sink.failures l.sink ≡ g.W.Sink.failures l.initial.sink)

abbrev pub decreases-loop-rest : goal.decreases-loop-rest
decreases-loop-rest g l = length l.rest
