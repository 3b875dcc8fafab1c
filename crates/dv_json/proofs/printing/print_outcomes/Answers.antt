use Rattle.std.proofs.Common.{arith, ◌∙◌}
use Rattle.dv_json.proofs.Cuts.{each_line_cut, each_stopped, on_err}
use Rattle.dv_json.proofs.Lines.{each_next}
use Rattle.dv_json.proofs.Texts.{every_outcome}
use Rattle.dv_json.specs.Text.{IsOutcomeLine}
use Rattle.dv_json.proofs.printing.print_outcomes.Goals as goal

pub returns-in_err-write_outcome-clause-err : goal.returns-in_err-write_outcome-clause-err
returns-in_err-write_outcome-clause-err g c =
    on_err c.from_residual.result _ (each_stopped (IsOutcomeLine c.args.classes.now) (every_outcome c.args.classes.now)
    c.args.outcomes.now c.loop-number.number _ _ _ _ (omega arith) c.loop-number.invariant.lines)

pub returns-in_err-end_line-clause-err : goal.returns-in_err-end_line-clause-err
returns-in_err-end_line-clause-err g c =
    let added = c.in_ok-write_outcome.ensures in
    on_err c.from_residual-in_err-end_line.result _ (each_line_cut (IsOutcomeLine c.args.classes.now) (every_outcome
    c.args.classes.now) c.args.outcomes.now c.loop-number.number c.index-outcomes-number.result added.line _ _ _ _ _ _
    c.loop-number-test.true c.index-outcomes-number.is c.loop-number.invariant.lines added.grew added.is_line
    c.in_err-end_line.ensures.err)

pub loop-number-preserved : goal.loop-number-preserved
loop-number-preserved g c =
    let kept = c.loop-number.invariant in
    let added = c.in_ok-write_outcome.ensures in
    record {
      lines =
          each_next (IsOutcomeLine c.args.classes.now) c.args.outcomes.now c.loop-number.number
          c.index-outcomes-number.result added.line _ _ _ _ _ _ _
          c.loop-number-test.true c.index-outcomes-number.is kept.lines added.grew added.is_line
          c.in_ok-end_line.ensures.ok;
      kept = c.in_ok-end_line.ensures.kept ∙ kept.kept;
    }
