-- The lines of the journal, as JSON: those of a table that has the form of every entry.
use Rattle.std.specs.Prelude.{◌≡◌, ℕ, List, map, codes, Some}
use Rattle.serde_json.specs.Data.{Data, string, array, object, member, no_members}
use Rattle.serde_json.specs.View.{items_of}
use Rattle.dv_journal.specs.declared.entry.Entry.{Entry}
use Rattle.dv_journal.specs.declared.form.ObjectKind.{ObjectKind}
use Rattle.dv_journal.specs.declared.form.ObjectKind.TheVariants as of_kind
use Rattle.dv_journal.specs.declared.form.Naming.{Naming}
use Rattle.dv_journal.specs.declared.form.Naming.TheVariants as naming
use Rattle.dv_journal.specs.declared.form.Nesting.{Nesting}
use Rattle.dv_journal.specs.declared.form.Nesting.TheVariants as nesting
use Rattle.dv_journal.specs.declared.form.PartKind.{PartKind}
use Rattle.dv_journal.specs.declared.form.PartKind.TheVariants as part
use Rattle.dv_journal.specs.declared.form.LineForm.{LineForm}
use Rattle.dv_journal.specs.Forms.{form_named, form_of}
use Rattle.dv_language.specs.Wants.{of_type}

-- a kind of objects
abbrev pub kind_name : ObjectKind → List ℕ
kind_name of_kind.Lock = codes "lock"
kind_name of_kind.Queue = codes "queue"
kind_name of_kind.Call = codes "call"
kind_name of_kind.Loop = codes "loop"
kind_name of_kind.Task = codes "task"
kind_name of_kind.Body = codes "body"
kind_name of_kind.Cooperator = codes "cooperator"

-- which object of its name it is
abbrev pub naming_name : Naming → List ℕ
naming_name naming.Made = codes "made"
naming_name naming.Last = codes "last"
naming_name naming.Any = codes "any"

-- what an entry begins or ends
abbrev pub nesting_name : Nesting → List ℕ
nesting_name nesting.Plain = codes "plain"
nesting_name nesting.Begins = codes "begins"
nesting_name nesting.Ends = codes "ends"
nesting_name nesting.Outer = codes "outer"
nesting_name nesting.Due = codes "due"
nesting_name nesting.Turn = codes "turn"
nesting_name nesting.Tick = codes "tick"
nesting_name nesting.Step = codes "step"
nesting_name nesting.NextTick = codes "next tick"
nesting_name nesting.Loop = codes "loop"

-- a part of a line
abbrev pub part_data : PartKind → Data
part_data (part.Object kind which) =
    object (member (codes "of") (string (kind_name kind))
    (member (codes "type") (string (codes "object")) (member (codes "which") (string (naming_name which)) no_members)))
part_data part.Deferred = of_type (codes "deferred")
part_data part.Fired = of_type (codes "fired")
part_data part.NewName = of_type (codes "new name")
part_data part.Name = of_type (codes "name")
part_data part.Job = of_type (codes "job")
part_data part.Number = of_type (codes "number")
part_data part.Bound = of_type (codes "bound")
part_data part.Due = of_type (codes "due")
part_data part.Time = of_type (codes "time")
part_data part.Outcome = of_type (codes "outcome")
part_data part.Value = of_type (codes "value")
part_data part.Failure = of_type (codes "failure")
part_data part.Text = of_type (codes "text")
part_data part.State = of_type (codes "state")
part_data part.Expected = of_type (codes "expected")

-- a line: its word, its parts, and what it begins or ends
abbrev pub line_data : LineForm → Data
line_data form =
    object (member (codes "line") (string form.word.now) (member (codes "nesting") (string (nesting_name form.nesting))
    (member (codes "parts") (array (items_of (map part_data form.parts.now))) no_members)))

-- the lines of a table in which the form of each entry is found by its word
abbrev pub AreLines : Data → Type 0
AreLines lines =
    (forms : List LineForm) × ((entry : Entry) → form_named (form_of entry).word forms ≡ Some (form_of entry))
    × (lines ≡ array (items_of (map line_data forms)))
