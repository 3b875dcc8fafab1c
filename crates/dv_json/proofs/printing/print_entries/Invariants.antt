use Rattle.std.proofs.Common.{◌≡◌, ◌≤◌, string_bytes, take}
use Rattle.dv_facts.specs.Events.{event_at, passed_at}
use Rattle.dv_facts.specs.Lines.{IsEntryLine}
use Rattle.dv_json.specs.Gathered.{GathersLines}
use Rattle.dv_json.specs.Text.{EachHasLine}
use Rattle.dv_json.proofs.printing.print_entries.Given as goal

-- the lines so far were gathered, and the sink hasn't failed
abbrev pub invariant-loop-number : goal.invariant-loop-number
invariant-loop-number g l = record {
  lines : GathersLines (EachHasLine (λ number. IsEntryLine l.classes (event_at l.initial.story.marks.now number) number)
      0 (take l.number l.entries)) (g.W.Sink.taken l.initial.sink) (string_bytes l.initial.gathered)
      (g.W.Sink.taken l.sink) (string_bytes l.gathered);
  kept : g.W.Sink.failures l.sink ≡ g.W.Sink.failures l.initial.sink;
  marks : l.story.marks ≡ l.initial.story.marks;
  passed : l.story.passed ≤ passed_at l.initial.story.marks.now l.number;
}
