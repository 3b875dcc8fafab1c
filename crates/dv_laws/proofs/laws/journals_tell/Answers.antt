use Rattle.dv_laws.proofs.OnceLemmas.{fired_once}
use Rattle.dv_laws.proofs.ReadBackLemmas.{journal_tells}
use Rattle.dv_laws.proofs.laws.journals_tell.Goals as goal

pub returns-clause-outcomes : goal.returns-clause-outcomes
returns-clause-outcomes c = journal_tells

pub returns-clause-once : goal.returns-clause-once
returns-clause-once c = fired_once
