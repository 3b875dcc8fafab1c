use Rattle.dv_laws.proofs.TokensLemmas.{all_held_first, tokens_asked_for}
use Rattle.dv_laws.proofs.laws.tokens_are_held.Goals as goal

pub returns-clause-asked : goal.returns-clause-asked
returns-clause-asked c = tokens_asked_for

pub returns-clause-held : goal.returns-clause-held
returns-clause-held c = all_held_first
