-- The text of the journal, an entry a line.
use Rattle.std.specs.Prelude.{ℕ, List, ◌++◌, Option, Some, None, codes, flat_map}
use Rattle.std.specs.Fmt.{decimal}
use Rattle.json.specs.Print.{quoted}
use Rattle.dv_value.specs.ValueText.{json, failure_text, outcome}
use Rattle.dv_value.specs.declared.classes.Class.{Class}
use Rattle.dv_journal.specs.declared.entry.Entry.{Entry}
use Rattle.dv_journal.specs.Parts.{Part, Deferred, Fired, NewName, Name, Object, Job, Number, Bound, Due, Time, Outcome}
use Rattle.dv_journal.specs.Parts.{Value, Failure, Text, State, Expected, parts_of, wording_of}
use Rattle.dv_journal.specs.State.{hash, state_text, expected_text}

-- the name, or a dash for a Deferred without one
abbrev pub name_text : Option (List ℕ) → List ℕ
name_text None = codes "-"
name_text (Some name) = name

-- the bound, or none
abbrev pub bound_text : Option ℕ → List ℕ
bound_text None = codes "none"
bound_text (Some most) = decimal most

-- the text of a part
abbrev pub part_text : List Class → Part → List ℕ
part_text table (Deferred id) = hash id
part_text table (Fired id) = hash id
part_text table (NewName name) = name_text name
part_text table (Name name) = name_text name
part_text table (Object kind naming name) = name
part_text table (Job job) = decimal job
part_text table (Number number) = decimal number
part_text table (Bound most) = bound_text most
part_text table (Due time) = decimal time
part_text table (Time time) = decimal time
part_text table (Outcome value) = outcome table value
part_text table (Value value) = json table value
part_text table (Failure failure) = failure_text table failure
part_text table (Text text) = quoted text
part_text table (State state) = state_text table state
part_text table (Expected expected) = expected_text table expected

-- the parts, each after a space
abbrev pub parts_text : List Class → List Part → List ℕ
parts_text table parts = flat_map (λ part. codes " " ++ part_text table part) parts

-- the words of an entry's line
abbrev pub words_of : List Class → Entry → List ℕ
words_of table entry = (wording_of entry).word ++ parts_text table (parts_of entry)

-- they end with a newline
abbrev pub line_of : List Class → Entry → List ℕ
line_of table entry = words_of table entry ++ codes "\n"

-- the lines of the entries, in their order
abbrev pub text_of : List Class → List Entry → List ℕ
text_of table entries = flat_map (line_of table) entries
