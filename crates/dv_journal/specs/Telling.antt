-- A call that logs its change: its entry is written first, and where that doesn't fit nothing changes.
use Rattle.std.specs.Prelude.{◌≡◌, ◌≢◌, if◌then◌else◌, Result, Ok, Err}
use Rattle.dv_journal.specs.declared.entry.Entry.{Entry}
use Rattle.dv_journal.specs.declared.error.Stop.{Stop}
use Rattle.dv_journal.specs.declared.error.Stop.TheVariants.{Limit, OutOfMemory}
use Rattle.dv_journal.specs.Journal.{Written, fits, with_entry}

-- what is changed, and the journal
abbrev pub State : Type 0 → Type 0
State S = S × Written

-- what a call answers, and what it leaves
abbrev pub Told : Type 0 → Type 0 → Type 0
Told A S = Result A Stop × State S

-- nothing is written, and nothing changes
abbrev pub untold : {A S : Type 0} → A → State S → Told A S
untold answer s = (Ok answer, s)

-- the entry is written and then the change is made, or the entry doesn't fit and nothing changes
abbrev pub telling : {A S : Type 0} → Entry → A → S → State S → Told A S
telling entry answer changed s = if fits s.1 entry then (Ok answer, (changed, with_entry s.1 entry)) else (Err Limit, s)

-- the entry is written and then the object is made, or the entry doesn't fit and none is made
abbrev pub making : {S : Type 0} → Entry → S → Written → Result S Stop × Written
making entry object j = if fits j entry then (Ok object, with_entry j entry) else (Err Limit, j)

-- a call did what its rule says, or ran out of memory where the rule's entry fits, and nothing changed
abbrev pub UnlessMemory : {A W : Type 0} → Result A Stop → W → W → Result A Stop × W → Type 0
UnlessMemory (Ok answer) before after rule = (Ok answer, after) ≡ rule
UnlessMemory (Err Limit) before after rule = (Err Limit, after) ≡ rule
UnlessMemory (Err OutOfMemory) before after rule = (rule.0 ≢ Err Limit) × (after ≡ before)
