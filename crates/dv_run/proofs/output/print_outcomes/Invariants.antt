use Rattle.std.proofs.Common.{◌≡◌, ◌++◌, drop, string_bytes}
use Rattle.dv_journal.specs.Sink.{AppendsBut}
use Rattle.dv_run.specs.Output.{lines_from, output}
use Rattle.dv_run.proofs.output.print_outcomes.Given as goal

-- what is gathered isn't written yet, and the lines of the outcomes that are left aren't
abbrev pub invariant-loop-number : goal.invariant-loop-number
invariant-loop-number g l =
    AppendsBut
    (g.W.Sink.taken l.initial.sink) (g.W.Sink.taken l.sink) (output l.classes l.outcomes)
    (string_bytes l.gathered ++ lines_from l.classes l.number (drop l.number l.outcomes))
    × (g.W.Sink.failures l.sink ≡ g.W.Sink.failures l.initial.sink)
