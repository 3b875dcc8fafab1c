use Rattle.std.proofs.Common.{refl, string_bytes}
use Rattle.dv_json.proofs.Cuts.{cut_none, on_err, one_cut}
use Rattle.dv_json.proofs.Lines.{one_line}
use Rattle.dv_json.proofs.Texts.{ends_exist}
use Rattle.dv_json.specs.Gathered.{IsEnd}
use Rattle.dv_json.proofs.printing.print_end.Goals as goal

pub returns-in_err-write_end-clause-err : goal.returns-in_err-write_end-clause-err
returns-in_err-write_end-clause-err g c =
    let some = ends_exist c.args.run.batches.now c.args.run.journal.now c.args.run.stopped in
    on_err c.from_residual.result _ (cut_none (IsEnd c.args.run.batches.now c.args.run.journal.now c.args.run.stopped) some.0
    (g.W.Sink.taken c.args.sink.now) (string_bytes c.args.gathered.now) some.1)

pub returns-clause-ok : goal.returns-clause-ok
returns-clause-ok g c =
    let added = c.in_ok-write_end.ensures in
    one_line c.end_line.result (IsEnd c.args.run.batches.now c.args.run.journal.now c.args.run.stopped) added.line _ _ _ _ _
    c.end_line.ensures.ok added.grew (record { line = added.line; only = refl; is_line = added.is_line })

pub returns-clause-err : goal.returns-clause-err
returns-clause-err g c =
    let added = c.in_ok-write_end.ensures in
    one_cut c.end_line.result (IsEnd c.args.run.batches.now c.args.run.journal.now c.args.run.stopped) added.line _ _ _ _
    c.end_line.ensures.err added.grew (record { line = added.line; only = refl; is_line = added.is_line })
