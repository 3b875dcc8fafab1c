use Rattle.dv_survey.proofs.SurveyLemmas.{one_outcome_is_one_set}
use Rattle.dv_survey.proofs.laws.one_outcome_is_one_set_of_lines.Goals as goal

pub returns : goal.returns
returns c = one_outcome_is_one_set
