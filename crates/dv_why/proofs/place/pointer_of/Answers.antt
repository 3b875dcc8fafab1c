use Rattle.std.proofs.Common.{◌≡◌, take, ap, subst, ◌∙◌, sym}
use Rattle.std.proofs.lemmas.List.{take_all}
use Rattle.serde_json.specs.Find.{pointer}
use Rattle.dv_why.specs.Pointers.{pointer_text, HaveIndices}
use Rattle.dv_why.proofs.Pointers.{pointer_more, indices_more, pointer_leads}
use Rattle.dv_why.proofs.place.pointer_of.Goals as goal

pub loop-step-preserved : goal.loop-step-preserved
loop-step-preserved c = (
  c.in_ok-write_step.ensures.text ∙ rw c.loop-step.invariant.0 (sym (pointer_more _ _ _ c.loop-step-test.true)),
  indices_more _ _ _ c.loop-step-test.true c.loop-step.invariant.1 c.in_ok-write_step.ensures.index,
)

pub returns-clause-leads : goal.returns-clause-leads
returns-clause-leads c = λ d part is.
    let whole : take c.loop-step.step-index c.args.steps.now ≡ c.args.steps.now =
    take_all _ _ (c.loop-step-test.false) in
    ap (λ t. pointer t d) (c.loop-step.invariant.0 ∙ ap pointer_text whole)
    ∙ pointer_leads c.args.steps.now d part (subst HaveIndices whole c.loop-step.invariant.1) is
