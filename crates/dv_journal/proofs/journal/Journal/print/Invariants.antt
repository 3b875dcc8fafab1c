use Rattle.std.proofs.Common.{◌≡◌, ◌++◌, drop, string_bytes}
use Rattle.dv_journal.specs.Sink.{AppendsBut}
use Rattle.dv_journal.specs.Line.{text_of}
use Rattle.dv_journal.proofs.journal.Journal.print.Given as goal

-- what is gathered isn't written yet, and the lines of the entries that are left aren't
abbrev pub invariant-loop-entry : goal.invariant-loop-entry
invariant-loop-entry g l =
    AppendsBut
    (g.W.Sink.taken l.initial.sink) (g.W.Sink.taken l.sink) (text_of l.classes l.self.entries)
    (string_bytes l.gathered ++ text_of l.classes (drop l.entry-index l.self.entries))
    × (g.W.Sink.failures l.sink ≡ g.W.Sink.failures l.initial.sink)
