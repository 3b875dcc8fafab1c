use Rattle.dv_laws.proofs.StoredLemmas.{none_stored_while_any_waits, queues_keep_their_size}
use Rattle.dv_laws.proofs.laws.queues_keep_their_size.Goals as goal

pub returns-clause-size : goal.returns-clause-size
returns-clause-size c = queues_keep_their_size

pub returns-clause-waiters : goal.returns-clause-waiters
returns-clause-waiters c = none_stored_while_any_waits
