use Rattle.std.proofs.Common.{◌≡◌, false, true, Err, sym, ap, ◌∙◌}
use Rattle.std.proofs.lemmas.Result.{err_from_is_err_and}
use Rattle.dv_document.specs.Fits.{fits}
use Rattle.dv_document.proofs.Reading.{read-invalid, read-fits, read-misfit}
use Rattle.dv_document.proofs.document.read_strictly.Goals as goal

pub returns-in_err-tape-clause-err : goal.returns-in_err-tape-clause-err
returns-in_err-tape-clause-err c e =
    let p = err_from_is_err_and c.from_residual.result c.from_residual.ensures.1 in
    let is : c.from_residual.result ≡ Err p.0 = p.1 in
    let same : p.0 ≡ c.in_err-tape.field-0.0 = p.2 in
    read-invalid c.args.text.now (c.in_err-tape.ensures.invalid (cc))

pub returns-then-not-is_within_limits-clause-err : goal.returns-then-not-is_within_limits-clause-err
returns-then-not-is_within_limits-clause-err c e =
    let tape = c.in_ok-tape.tape in
    let misfit : fits 0 tape ≡ false = ap (fits 0) (sym c.nodes.ensures.tokens) ∙ sym c.if-not-is_within_limits.ensures in
    read-misfit c.args.text.now tape c.in_ok-tape.ensures.ok.1 c.in_ok-tape.ensures.ok.0 misfit

pub returns-clause-ok : goal.returns-clause-ok
returns-clause-ok c =
    let tape = c.in_ok-tape.tape in
    let fit : fits 0 tape ≡ true = ap (fits 0) (sym c.nodes.ensures.tokens) ∙ sym c.if-not-is_within_limits.ensures in
    read-fits c.args.text.now tape c.in_ok-tape.ensures.ok.1 c.in_ok-tape.ensures.ok.0 fit
