-- How much an entry counts against the journal's limit.
use Rattle.std.specs.Prelude.{ℕ, ◌+◌, List, [], ◌∷◌}
use Rattle.dv_journal.specs.Parts.{Part, parts_of, size_shown}
use Rattle.dv_journal.specs.declared.entry.Entry.{Entry}

-- so much, and what the parts show
abbrev pub weight_with : ℕ → List Part → ℕ
weight_with weight [] = weight
weight_with weight (part ∷ parts) = weight_with (weight + size_shown part) parts

-- one, and the size of what is shown
abbrev pub weight_of : Entry → ℕ
weight_of entry = weight_with 1 (parts_of entry)
