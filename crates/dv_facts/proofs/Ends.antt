-- Lines that end with a newline.
use Rattle.std.proofs.Common.{◌≡◌, ℕ, ◌-◌, List, [], ◌∷◌, ◌++◌, take, length, arith}
use Rattle.std.proofs.lemmas.Grind.{common_steps}

-- what is left of a line without its last byte
pub without_newline : (line words : List ℕ) → line ≡ words ++ 10 ∷ [] → take (length line - 1) line ≡ words
without_newline line words e = rw e (grind (arith, common_steps))
