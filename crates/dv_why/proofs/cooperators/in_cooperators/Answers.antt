use Rattle.std.proofs.Common.{Some, arith, rules, refl, None, false, below_more, subst, ◌≡◌, true, take, ap, sym, ◌∙◌}
use Rattle.std.proofs.Common.{[]}
use Rattle.serde_json.specs.Find.{as_array, as_str, at, get_item}
use Rattle.serde_json.specs.Data.{array}
use Rattle.serde_json.specs.View.{view, items_view}
use Rattle.serde_json.proofs.Views.{view-Array}
use Rattle.dv_why.specs.declared.misfit.Step.TheVariants as step
use Rattle.dv_why.specs.Documents.{AreDistinct, or_no_items, name_in}
use Rattle.dv_why.specs.Fits.{is_given}
use Rattle.dv_why.specs.Places.{path_of}
use Rattle.dv_why.proofs.GivenNames.{all_new, given_some, is_new}
use Rattle.dv_why.proofs.Under.{at_under}
use Rattle.dv_why.proofs.cooperators.in_cooperators.Goals as goal
use Rattle.dv_why.proofs.cooperators.in_cooperators.Goals.{in_default-via-in-None-1, in_default-via-in-Some+in-None-1}

pub returns-in-loop-number-clause-wrong : goal.returns-in-loop-number-clause-wrong
returns-in-loop-number-clause-wrong c =
    let vs = c.in-Array.items.items in
    let same : or_no_items (as_array (view c.args.cooperators.now)) ≡ items_view vs =
    ap (λ d. or_no_items (as_array d)) (ap view c.in-Array.is ∙ view-Array c.in-Array.items) in
    let given : is_given (take c.loop-number.number vs) (as_str (view c.in-Some-second_name.name.now)) ≡ true =
    rw c.deref.ensures.value at c.in-Some-second_name.ensures.given in
    let before = given_some vs c.loop-number.number _ given in
    let here = c.here-misfit.ensures in
    let under = c.in_ok-under.ensures in
    let over = c.in_ok-under-2.ensures in
    let name = at_under (step.Item 0) c.here-misfit.result c.in_ok-under.field-0 []
    (record { steps = under.steps; found = under.found }) (ap path_of here.steps) in
    record {
      first = before.first;
      second = c.loop-number.number;
      order = before.order;
      name = before.name;
      place =
          at_under (step.Item c.loop-number.number) c.in_ok-under.field-0 c.in_ok-under-2.field-0 _
          (record { steps = over.steps; found = over.found }) name;
      found = ap (λ f. as_str (view f.now)) (over.found ∙ under.found ∙ here.found) ∙ before.text;
      same = ap (name_in before.first) same ∙ before.same;
    }

pub loop-number-preserved : goal.loop-number-preserved
loop-number-preserved c =
    let vs = c.in-Array.items.items in
    let n = c.loop-number.number in
    let whole : view c.args.cooperators.now ≡ array (items_view vs) = ap view c.in-Array.is ∙ view-Array c.in-Array.items in
    let new : is_given (take n vs) (name_in n (items_view vs)) ≡ false = elim c.in_default.branch [
      | in_default-via-in-None-1 w ↦
          let none : at n (view c.args.cooperators.now) ≡ None = search rules in
          let absent : get_item n (items_view vs) ≡ None = sym (ap (at n) whole) ∙ none in
          rw absent refl
      | in_default-via-in-Some+in-None-1 w ↦
          let there : at n (view c.args.cooperators.now) ≡ Some (view w.in-Some.cooperator.now) = search rules in
          let is : get_item n (items_view vs) ≡ Some (view w.in-Some.cooperator.now) = sym (ap (at n) whole) ∙ there in
          let none : w.second_name.result ≡ None = search rules in
          rw is (rw w.deref.ensures.value at (w.second_name.ensures.none none))
    ] in
    below_more _ _ c.loop-number.invariant (is_new vs n new)

pub returns-clause-none : goal.returns-clause-none
returns-clause-none c = λ none.
    let vs = c.in-Array.items.items in
    let same : or_no_items (as_array (view c.args.cooperators.now)) ≡ items_view vs =
    ap (λ d. or_no_items (as_array d)) (ap view c.in-Array.is ∙ view-Array c.in-Array.items) in
    subst AreDistinct (sym same)
    (all_new vs (λ n less. c.loop-number.invariant n (omega (arith, less, c.len-number-end.ensures))))
