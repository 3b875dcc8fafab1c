use Rattle.std.proofs.Common.{rules}
use Rattle.dv_why.proofs.Cut.{line_cut}
use Rattle.dv_why.proofs.explaining.explain.Goals as goal

pub returns-in_err-write_all-clause-err : goal.returns-in_err-write_all-clause-err
returns-in_err-write_all-clause-err g c =
    line_cut c.from_residual-in_err-write_all.result _ _ _ _ _ _ _ (search rules) c.in_ok-bytes.ensures.front
    (rw c.as_slice.ensures.value at c.in_ok-told.ensures) (search rules) c.in_err-write_all.ensures.err
