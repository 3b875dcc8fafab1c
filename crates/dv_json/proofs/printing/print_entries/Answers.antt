use Rattle.std.proofs.Common.{◌+◌, arith, ◌∙◌}
use Rattle.dv_facts.proofs.Marks.{passed_more}
use Rattle.dv_facts.specs.Events.{event_at}
use Rattle.dv_facts.specs.Lines.{IsEntryLine}
use Rattle.dv_json.proofs.Cuts.{each_line_cut, each_stopped, on_err}
use Rattle.dv_json.proofs.Lines.{each_next}
use Rattle.dv_json.proofs.Texts.{every_entry}
use Rattle.dv_json.proofs.printing.print_entries.Goals as goal

pub returns-in_err-write_next-clause-err : goal.returns-in_err-write_next-clause-err
returns-in_err-write_next-clause-err g c =
    on_err c.from_residual.result _ (each_stopped (λ number. IsEntryLine c.args.classes.now
    (event_at c.args.story.now.marks.now number) number) (every_entry c.args.classes.now c.args.story.now.marks.now)
    c.args.entries.now c.loop-number.number _ _ _ _ (omega arith) c.loop-number.invariant.lines)

pub returns-in_err-end_line-clause-err : goal.returns-in_err-end_line-clause-err
returns-in_err-end_line-clause-err g c =
    let added = c.in_ok-write_next.ensures.line in
    on_err c.from_residual-in_err-end_line.result _ (each_line_cut (λ number. IsEntryLine c.args.classes.now
    (event_at c.args.story.now.marks.now number) number) (every_entry c.args.classes.now c.args.story.now.marks.now)
    c.args.entries.now c.loop-number.number c.index-entries-number.result added.line _ _ _ _ _ _
    c.loop-number-test.true c.index-entries-number.is c.loop-number.invariant.lines added.grew
    (rw c.loop-number.invariant.marks at added.is_line) c.in_err-end_line.ensures.err)

pub loop-number-preserved : goal.loop-number-preserved
loop-number-preserved g c =
    let kept = c.loop-number.invariant in
    let added = c.in_ok-write_next.ensures.line in
    let passed = rw kept.marks at c.in_ok-write_next.ensures.passed in
    record {
      lines =
          each_next (λ number. IsEntryLine c.args.classes.now (event_at c.args.story.now.marks.now number) number)
          c.args.entries.now c.loop-number.number c.index-entries-number.result added.line _ _ _ _ _ _ _
          c.loop-number-test.true c.index-entries-number.is kept.lines added.grew
          (rw kept.marks at added.is_line) c.in_ok-end_line.ensures.ok;
      kept = c.in_ok-end_line.ensures.kept ∙ kept.kept;
      marks = c.in_ok-write_next.ensures.marks ∙ kept.marks;
      passed = omega (
        arith,
        passed,
        passed_more c.args.story.now.marks.now c.loop-number.number (c.loop-number.number + 1) (omega arith),
      );
    }
