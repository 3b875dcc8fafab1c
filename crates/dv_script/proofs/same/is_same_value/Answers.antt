use Rattle.dv_script.proofs.SameLemmas.{same_by}
use Rattle.dv_script.proofs.same.is_same_value.Goals as goal

pub returns-clause-result : goal.returns-clause-result
returns-clause-result c = same_by c.is_same.result c.args.first.now c.args.second.now c.is_same.ensures
