use Rattle.std.proofs.Common.{◌≡◌, Some, None, option_and_then, codes, length, ap, sym, ◌∙◌, add-one, below_more, arith}
use Rattle.std.proofs.Common.{rules}
use Rattle.serde_json.specs.Find.{as_array, at, get}
use Rattle.serde_json.specs.View.{view}
use Rattle.dv_script.specs.declared.limits.TheConstants.{MOST_CLASSES}
use Rattle.dv_why.specs.declared.misfit.Step.TheVariants as step
use Rattle.dv_why.specs.Declaring.{class_after, table_before}
use Rattle.dv_why.specs.Documents.{list_in, or_no_items, version_in}
use Rattle.dv_why.specs.Wrong.{undeclarable}
use Rattle.dv_forms.specs.Table.{first_classes}
use Rattle.dv_why.proofs.Tables.{few_first, table_first, table_next, table_none, items_at}
use Rattle.dv_why.proofs.Under.{undeclarable_under}
use Rattle.dv_why.proofs.classes.make_table.Goals as goal
use Rattle.dv_why.proofs.classes.make_table.Goals.{in-Some+else-loop-number-test, in_default}

pub loop-number-init : goal.loop-number-init
loop-number-init c = record {
  room = omega (arith, few_first c.version_of.result, ap length c.in_ok-classes.ensures);
  table = c.in_ok-classes.ensures ∙ ap first_classes c.version_of.ensures ∙ sym (table_first _ _);
  may = λ k less. absurd (omega (arith, less));
}

pub returns-in-Some-2 : goal.returns-in-Some-2
returns-in-Some-2 c =
    let under = c.in_ok-under.ensures in
    let part = rw c.in-Some-2.is at c.in_ok-part.ensures.wrong in
    let value : get (codes "classes") (view c.args.json.now) ≡ Some (view c.in-Some.declared.now) = search rules in
    let list : list_in (codes "classes") (view c.args.json.now) ≡ or_no_items (as_array (view c.in-Some.declared.now)) =
    ap (λ o. or_no_items (option_and_then as_array o)) value in
    let table = ap (λ ds. table_before (version_in (view c.args.json.now)) ds c.loop-number.number) list in (
      search rules,
      undeclarable c.loop-number.number (undeclarable_under _ _ (step.Key _) c.in-Some-2.part _
          (record { steps = under.steps; found = under.found }) (rw (table, ← c.loop-number.invariant.table) part)),
    )

pub loop-number-preserved : goal.loop-number-preserved
loop-number-preserved c =
    let v = version_in (view c.args.json.now) in
    let d = view c.in-Some.declared.now in
    let ds = or_no_items (as_array d) in
    let n = c.loop-number.number in
    let none : c.in_ok-part.field-0 ≡ None = c.in_default-2.is in
    let may = c.in_ok-part.ensures.may none in
    record {
      room = omega (arith, c.in_ok-part.ensures.grows);
      table =
          rw add-one (c.in_ok-part.ensures.table none ∙ ap (λ t. class_after t (at n d)) c.loop-number.invariant.table
          ∙ ap (class_after (table_before v ds n)) (items_at n d) ∙ sym (table_next v ds n));
      may = below_more _ _ c.loop-number.invariant.may (rw (← items_at n d, ← c.loop-number.invariant.table) may);
    }

pub returns : goal.returns
returns c = elim c.match-get.branch [
  | in-Some+else-loop-number-test w ↦
      let value : get (codes "classes") (view c.args.json.now) ≡ Some (view w.in-Some.declared.now) = search rules in
      let list : list_in (codes "classes") (view c.args.json.now)
      ≡ or_no_items (as_array (view w.in-Some.declared.now)) =
      ap (λ o. or_no_items (option_and_then as_array o)) value in
      let all : w.loop-number.number ≡ MOST_CLASSES = omega arith in (
        w.classes-is ∙ w.loop-number.invariant.table
            ∙ ap (table_before (version_in (view c.args.json.now))
            (or_no_items (as_array (view w.in-Some.declared.now)))) all
            ∙ sym (ap (λ ds. table_before (version_in (view c.args.json.now)) ds MOST_CLASSES) list),
        λ n less. rw list (w.loop-number.invariant.may n (omega (arith, less))),
      )
  | in_default w ↦
      let none : get (codes "classes") (view c.args.json.now) ≡ None = search rules in (
        w.classes-is ∙ c.in_ok-classes.ensures ∙ ap first_classes c.version_of.ensures
            ∙ sym (rw none (table_none (version_in (view c.args.json.now)) MOST_CLASSES)),
        λ n less. rw none tt,
      )
]
