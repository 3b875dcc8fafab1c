-- The parts of a line as code has them, which borrow from the entry.
use Rattle.std.specs.Prelude.{List, [], ◌∷◌}
use Rattle.dv_journal.specs.Parts.{Part, Deferred, Fired, NewName, Name, Object, Job, Number, Bound, Due, Time, Outcome}
use Rattle.dv_journal.specs.Parts.{Value, Failure, Text, State, Expected}
use Rattle.dv_journal.specs.declared.part.Part as of_part
use Rattle.dv_journal.specs.declared.part.Part.TheVariants as part
use Rattle.dv_journal.specs.declared.part.Parts as of_parts
use Rattle.dv_journal.specs.declared.part.Parts.TheVariants as parts

-- a part, with what it borrows
abbrev pub part_in : of_part.Part → Part
part_in (part.Deferred id) = Deferred id
part_in (part.Fired id) = Fired id
part_in (part.NewName name) = NewName name.now
part_in (part.Name name) = Name name.now
part_in (part.Object k n name) = Object k n name.now
part_in (part.Job job) = Job job
part_in (part.Number number) = Number number
part_in (part.Bound most) = Bound most
part_in (part.Due time) = Due time
part_in (part.Time time) = Time time
part_in (part.Outcome value) = Outcome value.now
part_in (part.Value value) = Value value.now
part_in (part.Failure failure) = Failure failure.now
part_in (part.Text text) = Text text.now
part_in (part.State state) = State state.now
part_in (part.Expected expected) = Expected expected.now

-- the parts in their order
abbrev pub parts_in : of_parts.Parts → List Part
parts_in parts.Nothing = []
parts_in (parts.One a) = part_in a ∷ []
parts_in (parts.Two a b) = part_in a ∷ part_in b ∷ []
parts_in (parts.Three a b c) = part_in a ∷ part_in b ∷ part_in c ∷ []
