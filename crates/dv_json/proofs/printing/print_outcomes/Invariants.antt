use Rattle.std.proofs.Common.{◌≡◌, string_bytes, take}
use Rattle.dv_json.specs.Gathered.{GathersLines}
use Rattle.dv_json.specs.Text.{EachHasLine, IsOutcomeLine}
use Rattle.dv_json.proofs.printing.print_outcomes.Given as goal

-- the lines so far were gathered, and the sink hasn't failed
abbrev pub invariant-loop-number : goal.invariant-loop-number
invariant-loop-number g l = record {
  lines : GathersLines (EachHasLine (IsOutcomeLine l.classes) 0 (take l.number l.outcomes))
      (g.W.Sink.taken l.initial.sink) (string_bytes l.initial.gathered) (g.W.Sink.taken l.sink)
      (string_bytes l.gathered);
  kept : g.W.Sink.failures l.sink ≡ g.W.Sink.failures l.initial.sink;
}
