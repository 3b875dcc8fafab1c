use Rattle.dv_laws.proofs.GrantedLemmas.{nobody_waits_for_a_free_token}
use Rattle.dv_laws.proofs.ServedRuns.{locks_serve_in_order}
use Rattle.dv_laws.proofs.laws.locks_serve_in_order.Goals as goal

pub returns-clause-order : goal.returns-clause-order
returns-clause-order c = locks_serve_in_order

pub returns-clause-full : goal.returns-clause-full
returns-clause-full c = nobody_waits_for_a_free_token
