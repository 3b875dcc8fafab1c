use Rattle.std.proofs.Common.{◌≡◌, ◌+◌, ◌≤◌, ◌&&◌, drop, length}
use Rattle.dv_forms.specs.Table.{table_after, are_declared, first_classes}
use Rattle.dv_forms.proofs.table.table.Given as goal

abbrev pub invariant-loop-declaration : goal.invariant-loop-declaration
invariant-loop-declaration l =
    (table_after l.classes (drop l.declaration-index l.declared) ≡ table_after (first_classes l.version) l.declared)
    × ((l.all && are_declared l.classes (drop l.declaration-index l.declared)) ≡ are_declared (first_classes l.version) l.declared)
    × (length l.classes ≤ 22 + l.declaration-index)
