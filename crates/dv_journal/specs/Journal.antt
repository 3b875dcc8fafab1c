-- What a journal holds, and which entries still fit.
use Rattle.std.specs.Prelude.{ℕ, ◌+◌, Bool, nat_le, List, [], ◌∷◌, ◌++◌}
use Rattle.dv_journal.specs.declared.entry.Entry.{Entry}
use Rattle.dv_journal.specs.Entry.{weight_of}

-- the entries written so far, in order, and the most that they may weigh together
pub record Written : Type 0 where
  pub entries : List Entry
  pub limit : ℕ

-- nothing written yet
abbrev pub empty : ℕ → Written
empty limit = record { entries = []; limit = limit }

-- what the entries weigh together
abbrev pub total_weight : List Entry → ℕ
total_weight [] = 0
total_weight (entry ∷ entries) = weight_of entry + total_weight entries

-- whether there is room for so much more weight
abbrev pub has_room : Written → ℕ → Bool
has_room journal weight = nat_le (total_weight journal.entries + weight) journal.limit

-- whether the journal stays within its limit with this entry
abbrev pub fits : Written → Entry → Bool
fits journal entry = has_room journal (weight_of entry)

-- the entry is added at the end
abbrev pub with_entry : Written → Entry → Written
with_entry journal entry = record journal { entries = journal.entries ++ entry ∷ [] }
