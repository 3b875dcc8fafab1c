use Rattle.serde_json.specs.View.{view}
use Rattle.dv_why.specs.declared.question.Question.TheVariants as question
use Rattle.dv_why.proofs.Known.{found_class}
use Rattle.dv_why.proofs.Suits.{both_ok}
use Rattle.dv_why.proofs.why.unknown_class.Goals as goal

pub returns : goal.returns
returns c =
    let d = view c.args.json.now in
    both_ok c.in_script.result _ _ _ (λ x leads wrong. record {
      leads = leads;
      wrong = found_class (question.Classes c.args.classes) d _ c.requires.table.0 c.requires.table.1 c.requires.refused
          c.requires.shallow wrong;
    }) c.in_script.ensures.leads c.in_script.ensures.wrong
