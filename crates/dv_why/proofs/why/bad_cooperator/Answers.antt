use Rattle.dv_why.proofs.why.bad_cooperator.Goals as goal

pub unknown_cooperator-requires-clause-once : goal.unknown_cooperator-requires-clause-once
unknown_cooperator-requires-clause-once c = c.in_ok-misfit.ensures.none c.in-None.is
