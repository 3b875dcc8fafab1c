-- The words after the program's name.
use Rattle.std.specs.Prelude.{Bool, ℕ, ◌+◌, ◌*◌, ◌-◌, nat_le, ◌&&◌, if◌then◌else◌, List, [], ◌∷◌, Option, None, Some}
use Rattle.dv_script.specs.declared.limits.TheConstants.{MOST_WORKERS}

-- whether a byte is a decimal digit
abbrev pub is_digit : ℕ → Bool
is_digit byte = nat_le 48 byte && nat_le byte 57

-- a number of one digit or two
abbrev pub number_in : List ℕ → Option ℕ
number_in [] = None
number_in (byte ∷ []) = if is_digit byte then Some (byte - 48) else None
number_in (tens ∷ byte ∷ []) = if is_digit tens && is_digit byte then Some ((tens - 48) * 10 + (byte - 48)) else None
number_in (first ∷ second ∷ third ∷ bytes) = None

-- as many workers, where there may be so many
abbrev pub few_workers : Option ℕ → Option ℕ
few_workers None = None
few_workers (Some n) = if nat_le n MOST_WORKERS then Some n else None

-- no word is no workers, one word is their number, and more words are none
abbrev pub workers_in : List (List ℕ) → Option ℕ
workers_in [] = Some 0
workers_in (word ∷ []) = few_workers (number_in word)
workers_in (first ∷ second ∷ words) = None
