use Rattle.dv_laws.proofs.OneAtATimeLemmas.{each_pair_once, one_at_a_time}
use Rattle.dv_laws.proofs.ReadyLemmas.{nothing_early}
use Rattle.dv_laws.proofs.laws.callbacks_run_in_turn.Goals as goal

pub returns-clause-once : goal.returns-clause-once
returns-clause-once c = each_pair_once

pub returns-clause-alone : goal.returns-clause-alone
returns-clause-alone c = one_at_a_time

pub returns-clause-ready : goal.returns-clause-ready
returns-clause-ready c = nothing_early
