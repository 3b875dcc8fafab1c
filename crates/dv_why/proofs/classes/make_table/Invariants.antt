use Rattle.std.proofs.Common.{◌≡◌, ℕ, ◌+◌, ◌≤◌, ◌<◌, length}
use Rattle.serde_json.specs.Find.{as_array, get_item}
use Rattle.serde_json.specs.View.{view}
use Rattle.dv_why.specs.Declaring.{MayDeclare, table_before}
use Rattle.dv_why.specs.Documents.{or_no_items, version_in}
use Rattle.dv_why.proofs.classes.make_table.Given as goal

-- the table has the classes before, and each of them may be declared
abbrev pub invariant-loop-number : goal.invariant-loop-number
invariant-loop-number l = record {
  room : length l.classes ≤ 22 + l.number;
  table : l.classes ≡ table_before (version_in (view l.json)) (or_no_items (as_array (view l.declared))) l.number;
  may : (k : ℕ) → k < l.number
      → MayDeclare (table_before (version_in (view l.json)) (or_no_items (as_array (view l.declared))) k)
      (get_item k (or_no_items (as_array (view l.declared))));
}
