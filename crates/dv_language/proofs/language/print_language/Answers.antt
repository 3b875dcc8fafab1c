use Rattle.std.proofs.Common.{rules}
use Rattle.dv_language.proofs.Cut.{line_cut}
use Rattle.dv_language.proofs.language.print_language.Goals as goal

pub returns-in_err-write_all-clause-err : goal.returns-in_err-write_all-clause-err
returns-in_err-write_all-clause-err g c =
    line_cut c.from_residual-in_err-write_all.result _ _ _ _ _ (search rules) c.in_ok-language_json.ensures
    c.in_ok-line.ensures.order (search rules) c.in_err-write_all.ensures.err
