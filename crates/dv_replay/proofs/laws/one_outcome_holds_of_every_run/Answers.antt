use Rattle.dv_replay.proofs.EveryRun.{one_outcome_holds, unmet_is_found}
use Rattle.dv_replay.proofs.laws.one_outcome_holds_of_every_run.Goals as goal

pub returns-clause-same : goal.returns-clause-same
returns-clause-same c = one_outcome_holds

pub returns-clause-unmet : goal.returns-clause-unmet
returns-clause-unmet c = unmet_is_found
