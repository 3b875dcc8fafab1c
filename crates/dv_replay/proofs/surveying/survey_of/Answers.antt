use Rattle.dv_replay.proofs.SurveyingLemmas.{all_surveyed}
use Rattle.dv_replay.specs.Surveying.{chosen_orders}
use Rattle.dv_replay.proofs.surveying.survey_of.Goals as goal

pub returns-in-Ok-each_chosen : goal.returns-in-Ok-each_chosen
returns-in-Ok-each_chosen g c =
    all_surveyed c.args.format c.args.script.now c.each_chosen.new.visitor.script.now
    (chosen_orders c.args.chosen c.args.script.now) c.new-2.result c.each_chosen.new.visitor.survey
    c.in-Ok-each_chosen.ensures.same c.new-2.ensures c.in-Ok-each_chosen.ensures.ok
