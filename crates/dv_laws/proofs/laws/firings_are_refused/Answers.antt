use Rattle.dv_laws.proofs.AgainLemmas.{only_next_swallowed}
use Rattle.dv_laws.proofs.SwallowedLemmas.{only_after_a_cancel}
use Rattle.dv_laws.proofs.laws.firings_are_refused.Goals as goal

pub returns-clause-swallowed : goal.returns-clause-swallowed
returns-clause-swallowed c = only_next_swallowed

pub returns-clause-cancelled : goal.returns-clause-cancelled
returns-clause-cancelled c = only_after_a_cancel
