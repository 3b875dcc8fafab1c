use Rattle.dv_laws.proofs.SettledLemmas.{all_has_run, each_side_ends, nobody_waits, waiters_hang}
use Rattle.dv_laws.proofs.laws.all_that_may_run_has_run.Goals as goal

pub returns-clause-ended : goal.returns-clause-ended
returns-clause-ended c = each_side_ends

pub returns-clause-used : goal.returns-clause-used
returns-clause-used c = all_has_run

pub returns-clause-waiters : goal.returns-clause-waiters
returns-clause-waiters c = nobody_waits

pub returns-clause-hanging : goal.returns-clause-hanging
returns-clause-hanging c = waiters_hang
