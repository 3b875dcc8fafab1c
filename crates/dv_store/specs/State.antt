-- What the calls of a store change: the records of all Deferreds, and the journal.
use Rattle.std.specs.Prelude.{List}
use Rattle.dv_journal.specs.Telling as telling
use Rattle.dv_store.specs.declared.record.Record.{Record}

-- the records of all Deferreds, and the journal
abbrev pub State : Type 0 → Type 0 → Type 0
State P K = telling.State (List (Record P K))

-- what a call answers, and what it leaves
abbrev pub Told : Type 0 → Type 0 → Type 0 → Type 0
Told A P K = telling.Told A (List (Record P K))
