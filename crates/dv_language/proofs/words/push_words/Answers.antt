use Rattle.std.proofs.Common.{◌≡◌, ◌++◌, OnOk, map, refl, subst, sym}
use Rattle.serde_json.specs.View.{view}
use Rattle.dv_forms.specs.declared.want.CallKind.{CallKind}
use Rattle.dv_forms.specs.declared.want.CallKind.TheVariants as call
use Rattle.dv_forms.specs.Words.{own_forms}
use Rattle.dv_language.specs.Words.{form_data, rows_of}
use Rattle.dv_language.proofs.words.push_words.Goals as goal

-- the rows of a place are those of its forms
rows : (c d : CallKind) → c ≡ d → map (form_data c) (own_forms d) ≡ rows_of c
unfolding rows_of
rows c d is = subst (λ x. map (form_data x) (own_forms d) ≡ rows_of x) (sym is) refl

pub returns-in-Event : goal.returns-in-Event
returns-in-Event c =
    subst
    (λ added.
    OnOk c.push_forms.result
    (map view c.push_forms.new.rows.items ≡ map view c.args.rows.now.items ++ added))
    (rows c.args.call call.Event c.in-Event.is) c.push_forms.ensures

pub returns-in-Action : goal.returns-in-Action
returns-in-Action c =
    subst
    (λ added.
    OnOk c.push_forms-in-Action.result
    (map view c.push_forms-in-Action.new.rows.items ≡ map view c.args.rows.now.items ++ added))
    (rows c.args.call call.Action c.in-Action.is) c.push_forms-in-Action.ensures

pub returns-in-Statement : goal.returns-in-Statement
returns-in-Statement c =
    subst
    (λ added.
    OnOk c.push_forms-in-Statement.result
    (map view c.push_forms-in-Statement.new.rows.items ≡ map view c.args.rows.now.items ++ added))
    (rows c.args.call call.Statement c.in-Statement.is) c.push_forms-in-Statement.ensures

pub returns-in-Leaving : goal.returns-in-Leaving
returns-in-Leaving c =
    subst
    (λ added.
    OnOk c.push_forms-in-Leaving.result
    (map view c.push_forms-in-Leaving.new.rows.items ≡ map view c.args.rows.now.items ++ added))
    (rows c.args.call call.Leaving c.in-Leaving.is) c.push_forms-in-Leaving.ensures

pub returns-in-End : goal.returns-in-End
returns-in-End c =
    subst
    (λ added.
    OnOk c.push_forms-in-End.result
    (map view c.push_forms-in-End.new.rows.items ≡ map view c.args.rows.now.items ++ added))
    (rows c.args.call call.End c.in-End.is) c.push_forms-in-End.ensures

pub returns-in-Work : goal.returns-in-Work
returns-in-Work c =
    subst
    (λ added.
    OnOk c.push_forms-in-Work.result
    (map view c.push_forms-in-Work.new.rows.items ≡ map view c.args.rows.now.items ++ added))
    (rows c.args.call call.Work c.in-Work.is) c.push_forms-in-Work.ensures

pub returns-in-Outcome : goal.returns-in-Outcome
returns-in-Outcome c =
    subst
    (λ added.
    OnOk c.push_forms-in-Outcome.result
    (map view c.push_forms-in-Outcome.new.rows.items ≡ map view c.args.rows.now.items ++ added))
    (rows c.args.call call.Outcome c.in-Outcome.is) c.push_forms-in-Outcome.ensures
