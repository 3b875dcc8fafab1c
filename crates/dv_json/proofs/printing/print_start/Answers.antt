use Rattle.std.proofs.Common.{◌≡◌, ◌∷◌, [], refl, string_bytes}
use Rattle.dv_json.proofs.Cuts.{cut_none, on_err, one_cut}
use Rattle.dv_json.proofs.Lines.{one_line}
use Rattle.dv_json.specs.Text.{start_line}
use Rattle.dv_json.proofs.printing.print_start.Goals as goal

pub returns-in_err-write_text-clause-err : goal.returns-in_err-write_text-clause-err
returns-in_err-write_text-clause-err g c =
    on_err c.from_residual.result _ (cut_none (λ lines. lines ≡ start_line ∷ []) (start_line ∷ [])
    (g.W.Sink.taken c.args.sink.now) (string_bytes c.args.gathered.now) refl)

pub returns-clause-ok : goal.returns-clause-ok
returns-clause-ok g c =
    one_line c.end_line.result
    (λ lines. lines ≡ start_line ∷ []) start_line _ _ _ _ _ c.end_line.ensures.ok c.in_ok-write_text.ensures refl

pub returns-clause-err : goal.returns-clause-err
returns-clause-err g c =
    one_cut c.end_line.result
    (λ lines. lines ≡ start_line ∷ []) start_line _ _ _ _ c.end_line.ensures.err c.in_ok-write_text.ensures refl
