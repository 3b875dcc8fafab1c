use Rattle.std.proofs.Common.{ap, ◌∙◌}
use Rattle.std.proofs.lemmas.Result.{IfOk-weaker}
use Rattle.serde_json.specs.Find.{pointer}
use Rattle.serde_json.specs.View.{view}
use Rattle.dv_why.specs.Places.{at_place}
use Rattle.dv_why.specs.Pointers.{pointer_text}
use Rattle.dv_why.specs.Why.{TellsOf}
use Rattle.dv_why.proofs.why.of_value.Goals as goal

pub returns : goal.returns
returns c =
    let d = view c.args.json.now in
    let m = c.in_ok-misfit.misfit in
    let explains = c.in_ok-misfit.ensures in
    let steps = c.as_slice.ensures.value in
    let place = c.in_ok-at.ensures.leads d (view m.found.now) (ap (λ s. at_place s d) steps ∙ explains.leads.place) in
    IfOk-weaker c.at_part.result _ (λ told. TellsOf c.args.fault d (view told)) (λ told h. record {
      misfit = m;
      at = c.as_str.result.now;
      expected = c.as_str-2.result.now;
      found = h.0;
      whole = h.2;
      explains = explains;
      text = c.as_str.ensures.value ∙ c.in_ok-at.ensures.text ∙ ap pointer_text steps;
      place = ap (λ t. pointer t d) c.as_str.ensures.value ∙ place;
      shows = h.1;
    }) c.at_part.ensures
