use Rattle.std.proofs.Common.{length}
use Rattle.dv_json.proofs.Cuts.{on_err}
use Rattle.dv_json.proofs.Texts.{after_deferreds, after_entries, after_start, both_gathered, cut_first, cut_rest}
use Rattle.dv_json.proofs.Texts.{cut_second, ends_exist, text_cut, text_written}
use Rattle.dv_json.proofs.printing.print_lines.Goals as goal

pub returns-in_err-print_start-clause-err : goal.returns-in_err-print_start-clause-err
returns-in_err-print_start-clause-err g c =
    on_err c.from_residual.result _ (text_cut c.args.classes.now c.args.run.marks.now c.args.run.batches.now c.args.run.journal.now
    c.args.run.stopped c.args.run.outcomes.now (length c.args.left.now) _ _ _ c.requires.empty
    (cut_first c.in_err-print_start.ensures.err (after_start c.args.classes.now c.args.run.marks.now c.args.run.batches.now
    c.args.run.journal.now c.args.run.stopped c.args.run.outcomes.now (length c.args.left.now))))

pub returns-in_err-print_entries-clause-err : goal.returns-in_err-print_entries-clause-err
returns-in_err-print_entries-clause-err g c =
    on_err c.from_residual-in_err-print_entries.result _ (text_cut c.args.classes.now c.args.run.marks.now c.args.run.batches.now
    c.args.run.journal.now c.args.run.stopped c.args.run.outcomes.now (length c.args.left.now) _ _ _ c.requires.empty
    (cut_second c.in_ok-print_start.ensures.ok
    (cut_first (rw (c.entries-entries.ensures, c.requires.marks) at c.in_err-print_entries.ensures.err)
    (after_entries c.args.classes.now c.args.run.marks.now c.args.run.batches.now c.args.run.journal.now c.args.run.stopped
    c.args.run.outcomes.now (length c.args.left.now)))))

pub returns-in_err-print_outcomes-clause-err : goal.returns-in_err-print_outcomes-clause-err
returns-in_err-print_outcomes-clause-err g c =
    on_err c.from_residual-in_err-print_outcomes.result _ (text_cut c.args.classes.now c.args.run.marks.now c.args.run.batches.now
    c.args.run.journal.now c.args.run.stopped c.args.run.outcomes.now (length c.args.left.now) _ _ _ c.requires.empty
    (cut_second c.in_ok-print_start.ensures.ok
    (cut_second (rw (c.entries-entries.ensures, c.requires.marks) at c.in_ok-print_entries.ensures.ok)
    (cut_first c.in_err-print_outcomes.ensures.err (after_deferreds c.args.classes.now c.args.run.marks.now c.args.run.batches.now
    c.args.run.journal.now c.args.run.stopped c.args.run.outcomes.now (length c.args.left.now))))))

pub returns-in_err-print_left-clause-err : goal.returns-in_err-print_left-clause-err
returns-in_err-print_left-clause-err g c =
    on_err c.from_residual-in_err-print_left.result _ (text_cut c.args.classes.now c.args.run.marks.now c.args.run.batches.now
    c.args.run.journal.now c.args.run.stopped c.args.run.outcomes.now (length c.args.left.now) _ _ _ c.requires.empty
    (cut_second c.in_ok-print_start.ensures.ok
    (cut_second (rw (c.entries-entries.ensures, c.requires.marks) at c.in_ok-print_entries.ensures.ok)
    (cut_second c.in_ok-print_outcomes.ensures.ok
    (cut_first c.in_err-print_left.ensures.err (ends_exist c.args.run.batches.now c.args.run.journal.now c.args.run.stopped))))))

pub returns-in_err-print_end-clause-err : goal.returns-in_err-print_end-clause-err
returns-in_err-print_end-clause-err g c =
    on_err c.from_residual-in_err-print_end.result _ (text_cut c.args.classes.now c.args.run.marks.now c.args.run.batches.now
    c.args.run.journal.now c.args.run.stopped c.args.run.outcomes.now (length c.args.left.now) _ _ _ c.requires.empty
    (cut_second c.in_ok-print_start.ensures.ok
    (cut_second (rw (c.entries-entries.ensures, c.requires.marks) at c.in_ok-print_entries.ensures.ok) (cut_second
    c.in_ok-print_outcomes.ensures.ok (cut_second c.in_ok-print_left.ensures.ok c.in_err-print_end.ensures.err)))))

pub returns-in_err-write_all-clause-err : goal.returns-in_err-write_all-clause-err
returns-in_err-write_all-clause-err g c =
    on_err c.from_residual-in_err-write_all.result _ (text_cut c.args.classes.now c.args.run.marks.now c.args.run.batches.now
    c.args.run.journal.now c.args.run.stopped c.args.run.outcomes.now (length c.args.left.now) _ _ _ c.requires.empty
    (cut_rest (both_gathered c.in_ok-print_start.ensures.ok
    (both_gathered (rw (c.entries-entries.ensures, c.requires.marks) at c.in_ok-print_entries.ensures.ok) (both_gathered
    c.in_ok-print_outcomes.ensures.ok (both_gathered c.in_ok-print_left.ensures.ok c.in_ok-print_end.ensures.ok))))
    (rw c.as_bytes.ensures.value at c.in_err-write_all.ensures.err)))

pub returns-clause-ok : goal.returns-clause-ok
returns-clause-ok g c =
    text_written c.args.classes.now c.args.run.marks.now c.args.run.batches.now c.args.run.journal.now c.args.run.stopped
    c.args.run.outcomes.now (length c.args.left.now) _ _ _ _ _ c.requires.empty
    (both_gathered c.in_ok-print_start.ensures.ok
    (both_gathered (rw (c.entries-entries.ensures, c.requires.marks) at c.in_ok-print_entries.ensures.ok) (both_gathered
    c.in_ok-print_outcomes.ensures.ok (both_gathered c.in_ok-print_left.ensures.ok c.in_ok-print_end.ensures.ok))))
    (rw c.as_bytes.ensures.value at c.in_ok-write_all.ensures.ok)
