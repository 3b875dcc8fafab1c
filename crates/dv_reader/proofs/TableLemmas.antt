-- In the table of a script parents stand before their children.
use Rattle.std.proofs.Common.{ℕ, Bool, true, false, cond, nat_le, List, [], ◌∷◌, length, sym, ap, subst, ◌∙◌}
use Rattle.dv_value.specs.declared.classes.Class.{Class}
use Rattle.dv_value.specs.Builtin.{builtin, later_builtin}
use Rattle.dv_value.specs.Declaring.{with_class}
use Rattle.dv_value.specs.Laws.{ParentsStandBefore}
use Rattle.dv_value.proofs.Paths.{paths_go_up, builtin_ordered, later_ordered, declared_ordered}
use Rattle.dv_forms.specs.declared.declaration.Declaration.{Declaration}
use Rattle.dv_script.specs.declared.script.Script.{Script}
use Rattle.dv_script.specs.declared.limits.TheConstants.{MOST_CLASSES}
use Rattle.dv_forms.specs.declared.versions.TheConstants.{COOPERATORS_SINCE}
use Rattle.dv_forms.specs.Table.{can_declare, first_classes, with_declared, table_after, table_of}
use Rattle.dv_reader.specs.Laws.{ParentsOfScriptsStandBefore, PathsOfScriptsGoUp}

either_ordered : (b : Bool) (table other : List Class) → ParentsStandBefore table → ParentsStandBefore other
    → ParentsStandBefore (cond b table other)
either_ordered true table other h k = h
either_ordered false table other h k = k

with_declared_ordered : (table : List Class) (c : Declaration) → ParentsStandBefore table
    → ParentsStandBefore (with_declared table c)
with_declared_ordered table c h =
    either_ordered (can_declare table c) (with_class table c.name c.parent) table
    (declared_ordered table c.name c.parent h) h

table_after_ordered : (table : List Class) (cs : List Declaration) → ParentsStandBefore table
    → ParentsStandBefore (table_after table cs)
table_after_ordered table [] h = h
table_after_ordered table (c ∷ cs) h = table_after_ordered (with_declared table c) cs (with_declared_ordered table c h)

first_ordered : (version : ℕ) → ParentsStandBefore (first_classes version)
first_ordered version =
    either_ordered (nat_le COOPERATORS_SINCE version) later_builtin builtin later_ordered builtin_ordered

table_of_ordered : (version : ℕ) (cs : List Declaration) → ParentsStandBefore (table_of version cs)
table_of_ordered version cs =
    let first = first_classes version in
    either_ordered (nat_le (length cs) MOST_CLASSES) (table_after first cs) first
    (table_after_ordered first cs (first_ordered version)) (first_ordered version)

pub script_ordered : ParentsOfScriptsStandBefore
script_ordered bytes s h =
    subst ParentsStandBefore (sym h.shape.shape.table ∙ ap (λ (x : Script). x.classes) h.same)
    (table_of_ordered h.draft.version h.draft.declared)

pub script_paths : PathsOfScriptsGoUp
script_paths bytes s h = paths_go_up s.classes (script_ordered bytes s h)
