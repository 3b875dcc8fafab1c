-- What entries weigh together when one is added.
use Rattle.std.proofs.Common.{◌≡◌, ◌+◌, List, [], ◌∷◌, ◌++◌, arith}
use Rattle.dv_journal.specs.declared.entry.Entry.{Entry}
use Rattle.dv_journal.specs.Entry.{weight_of}
use Rattle.dv_journal.specs.Journal.{total_weight}

-- the entry at the end adds its own weight
pub total_weight_push : (entries : List Entry) (entry : Entry)
    → total_weight (entries ++ entry ∷ []) ≡ total_weight entries + weight_of entry
total_weight_push [] entry = omega arith
total_weight_push (first ∷ entries) entry = omega (arith, total_weight_push entries entry)
