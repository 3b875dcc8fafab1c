-- Each entry weighs something.
use Rattle.std.proofs.Common.{ℕ, ◌+◌, ◌≤◌, List, [], ◌∷◌, arith}
use Rattle.dv_journal.specs.Entry.{weight_of, weight_with}
use Rattle.dv_journal.specs.Parts.{Part, parts_of, size_shown}
use Rattle.dv_journal.specs.declared.entry.Entry.{Entry}

-- parts only add
weighs_more : (weight : ℕ) (parts : List Part) → weight ≤ weight_with weight parts
weighs_more weight [] = omega arith
weighs_more weight (part ∷ parts) = omega (arith, weighs_more (weight + size_shown part) parts)

pub weighs_one : (e : Entry) → 1 ≤ weight_of e
weighs_one e = weighs_more 1 (parts_of e)
