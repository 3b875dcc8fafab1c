use Rattle.std.proofs.Common.{◌≡◌, Some, ap, ◌∙◌, [], rules}
use Rattle.serde_json.specs.Find.{as_str}
use Rattle.serde_json.specs.View.{view}
use Rattle.dv_why.specs.declared.misfit.Step.TheVariants as step
use Rattle.dv_why.specs.Places.{path_of}
use Rattle.dv_why.specs.Wrong.{taken_name, missing_parent}
use Rattle.dv_why.proofs.Under.{at_under}
use Rattle.dv_why.proofs.classes.declare.Goals as goal

pub returns-in_ok-under-in-Err-Taken-clause-wrong : goal.returns-in_ok-under-in-Err-Taken-clause-wrong
returns-in_ok-under-in-Err-Taken-clause-wrong c =
    let under = c.in_ok-under-in-Err-Taken.ensures in
    let here = c.here-misfit.ensures in
    let text : as_str (view c.in-Some-Some.name.now) ≡ Some c.in-Some-Some-2.name_text.now = search rules in
    taken_name c.in-Some-Some-2.name_text.now
    (at_under (step.Item 0) c.here-misfit.result c.in_ok-under-in-Err-Taken.field-0 []
    (record { steps = under.steps; found = under.found }) (ap path_of here.steps))
    (ap (λ f. as_str (view f.now)) (under.found ∙ here.found) ∙ text)
    (rw c.in-Err-Taken.field-0-is at c.in-Err-Taken.ensures.answer)

pub returns-in_ok-under-in-Err-NoParent-clause-wrong : goal.returns-in_ok-under-in-Err-NoParent-clause-wrong
returns-in_ok-under-in-Err-NoParent-clause-wrong c =
    let under = c.in_ok-under-in-Err-NoParent.ensures in
    let here = c.here-misfit-in-Err-NoParent.ensures in
    let text : as_str (view c.in-Some-Some.parent.now) ≡ Some c.in-Some-Some-2.parent_text.now = search rules in
    missing_parent c.in-Some-Some-2.parent_text.now
    (at_under (step.Item 1) c.here-misfit-in-Err-NoParent.result c.in_ok-under-in-Err-NoParent.field-0 []
    (record { steps = under.steps; found = under.found }) (ap path_of here.steps))
    (ap (λ f. as_str (view f.now)) (under.found ∙ here.found) ∙ text)
    (rw c.in-Err-NoParent.field-0-is at c.in-Err-NoParent.ensures.answer).1
