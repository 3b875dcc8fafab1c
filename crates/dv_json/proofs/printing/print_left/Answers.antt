use Rattle.std.proofs.Common.{arith, length, ◌∙◌}
use Rattle.dv_json.proofs.Cuts.{many_line_cut, many_stopped, on_err}
use Rattle.dv_json.proofs.Lines.{many_next}
use Rattle.dv_json.proofs.printing.print_left.Goals as goal

pub returns-in_err-write-clause-err : goal.returns-in_err-write-clause-err
returns-in_err-write-clause-err g c =
    on_err c.from_residual.result _
    (many_stopped (length c.args.left.now) c.loop-thing.thing-index _ _ _ _ (omega arith) c.loop-thing.invariant.lines)

pub returns-in_err-end_line-clause-err : goal.returns-in_err-end_line-clause-err
returns-in_err-end_line-clause-err g c =
    let added = c.in_ok-write.ensures in
    on_err c.from_residual-in_err-end_line.result _
    (many_line_cut (length c.args.left.now) c.loop-thing.thing-index added.text _ _ _ _ _ _
    (omega arith) c.loop-thing.invariant.lines added.is added.visible c.in_err-end_line.ensures.err)

pub loop-thing-preserved : goal.loop-thing-preserved
loop-thing-preserved g c =
    let kept = c.loop-thing.invariant in
    let added = c.in_ok-write.ensures in
    record {
      lines =
          many_next c.loop-thing.thing-index added.text _ _ _ _ _ _ _ kept.lines added.is added.visible
          c.in_ok-end_line.ensures.ok;
      kept = c.in_ok-end_line.ensures.kept ∙ kept.kept;
    }
