use Rattle.std.proofs.Common.{◌≡◌, string_bytes}
use Rattle.dv_json.specs.Gathered.{GathersLines}
use Rattle.dv_json.specs.Text.{AreSoMany}
use Rattle.dv_json.proofs.printing.print_left.Given as goal

-- the lines so far were gathered, and the sink hasn't failed
abbrev pub invariant-loop-thing : goal.invariant-loop-thing
invariant-loop-thing g l = record {
  lines : GathersLines (AreSoMany l.thing-index) (g.W.Sink.taken l.initial.sink) (string_bytes l.initial.gathered)
      (g.W.Sink.taken l.sink) (string_bytes l.gathered);
  kept : g.W.Sink.failures l.sink ≡ g.W.Sink.failures l.initial.sink;
}
