-- The forms of lines, as a table that has a row a kind of entry.
use Rattle.std.specs.Prelude.{ℕ, List, Option, map, find, bytes_eq}
use Rattle.dv_journal.specs.Parts.{Part, Deferred, Fired, NewName, Name, Object, Job, Number, Bound, Due, Time, Outcome}
use Rattle.dv_journal.specs.Parts.{Value, Failure, Text, State, Expected, parts_of, wording_of}
use Rattle.dv_journal.specs.declared.form.LineForm.{LineForm}
use Rattle.dv_journal.specs.declared.form.PartKind.{PartKind}
use Rattle.dv_journal.specs.declared.form.PartKind.TheVariants as kind
use Rattle.dv_journal.specs.declared.entry.Entry.{Entry}

-- which kind a part is of
abbrev pub kind_of : Part → PartKind
kind_of (Deferred id) = kind.Deferred
kind_of (Fired id) = kind.Fired
kind_of (NewName name) = kind.NewName
kind_of (Name name) = kind.Name
kind_of (Object k n name) = kind.Object k n
kind_of (Job job) = kind.Job
kind_of (Number number) = kind.Number
kind_of (Bound most) = kind.Bound
kind_of (Due time) = kind.Due
kind_of (Time time) = kind.Time
kind_of (Outcome value) = kind.Outcome
kind_of (Value value) = kind.Value
kind_of (Failure failure) = kind.Failure
kind_of (Text text) = kind.Text
kind_of (State state) = kind.State
kind_of (Expected expected) = kind.Expected

-- the form of a line: its word, and the kinds of its other parts
pub record Form : Type 0 where
  pub word : List ℕ
  pub kinds : List PartKind

abbrev pub form_of : Entry → Form
form_of e = record { word = (wording_of e).word; kinds = map kind_of (parts_of e) }

-- a row of the table of forms
abbrev pub form_in : LineForm → Form
form_in row = record { word = row.word.now; kinds = row.parts.now }

-- what the table says of a word, by the first row that has it
abbrev pub form_named : List ℕ → List LineForm → Option Form
form_named word rows = find (λ form. bytes_eq form.word word) (map form_in rows)
