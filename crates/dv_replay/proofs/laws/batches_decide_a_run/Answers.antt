use Rattle.dv_replay.proofs.TwoRuns.{alone_all_is_decided, batches_decide, every_run}
use Rattle.dv_replay.proofs.laws.batches_decide_a_run.Goals as goal

pub returns-clause-same : goal.returns-clause-same
returns-clause-same c = batches_decide

pub returns-clause-alone : goal.returns-clause-alone
returns-clause-alone c = alone_all_is_decided

pub returns-clause-listed : goal.returns-clause-listed
returns-clause-listed c = every_run
