use Rattle.dv_survey.proofs.SurveyLemmas.{unmet_is_counted}
use Rattle.dv_survey.proofs.laws.unmet_is_counted.Goals as goal

pub returns : goal.returns
returns c = unmet_is_counted
