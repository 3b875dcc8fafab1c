use Rattle.serde_json.specs.View.{view}
use Rattle.dv_why.specs.declared.question.Question.TheVariants as question
use Rattle.dv_why.proofs.Known.{found_cooperator}
use Rattle.dv_why.proofs.Suits.{both_ok}
use Rattle.dv_why.proofs.why.unknown_cooperator.Goals as goal

pub returns : goal.returns
returns c =
    let d = view c.args.json.now in
    both_ok c.in_script.result _ _ _ (λ x leads wrong. record {
      leads = leads;
      wrong = found_cooperator (question.Cooperators c.args.cooperators) d _ c.requires.cooperators c.requires.once
          c.requires.refused c.requires.shallow wrong;
    }) c.in_script.ensures.leads c.in_script.ensures.wrong
