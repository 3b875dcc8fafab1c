use Rattle.dv_why.proofs.why.bad_class.Goals as goal

pub returns-in-Wrong : goal.returns-in-Wrong
returns-in-Wrong c =
    let table = rw c.in-Wrong.is at c.in_ok-misfit.ensures in
    record { leads = table.0; wrong = table.1 }
