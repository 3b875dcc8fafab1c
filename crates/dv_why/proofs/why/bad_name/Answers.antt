use Rattle.serde_json.specs.View.{view}
use Rattle.dv_why.proofs.Known.{found_name}
use Rattle.dv_why.proofs.Suits.{both_ok}
use Rattle.dv_why.proofs.why.bad_name.Goals as goal

pub returns : goal.returns
returns c =
    let d = view c.args.json.now in
    both_ok c.in_script.result _ _ _ (λ x leads wrong. record {
      leads = leads;
      wrong = found_name d x.0 c.requires.refused c.requires.shallow (rw c.version_of.ensures at wrong);
    }) c.in_script.ensures.leads c.in_script.ensures.wrong
