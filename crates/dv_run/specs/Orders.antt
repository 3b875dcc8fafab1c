-- Which orders of posts run.
use Rattle.std.specs.Prelude.{ℕ, ◌+◌, ◌*◌, ◌-◌, nat_eq, nat_le, ◌&&◌, if◌then◌else◌, List, [], ◌∷◌, Option, None, Some}
use Rattle.std.specs.Prelude.{option_and_then, option_map}
use Rattle.dv_run.specs.Workers.{is_digit}
use Rattle.dv_run.specs.declared.orders.Chosen.{Chosen}
use Rattle.dv_run.specs.declared.orders.Chosen.TheVariants.{Every, Sample}
use Rattle.dv_run.specs.declared.orders.TheConstants.{MOST_ORDERS, MOST_SEED}

-- a number with one more digit, where it is no more than this
abbrev pub with_digit : ℕ → ℕ → ℕ → Option ℕ
with_digit most n byte =
    if is_digit byte && nat_le (n * 10 + (byte - 48)) most then Some (n * 10 + (byte - 48)) else None

-- a number with more digits
abbrev pub with_digits : ℕ → ℕ → List ℕ → Option ℕ
with_digits most n [] = Some n
with_digits most n (byte ∷ bytes) = option_and_then (λ m. with_digits most m bytes) (with_digit most n byte)

-- a decimal number that is no more than this
abbrev pub number_up_to : ℕ → List ℕ → Option ℕ
number_up_to most [] = None
number_up_to most (byte ∷ bytes) = with_digits most 0 (byte ∷ bytes)

-- every order, up to as many as a word says
abbrev pub every_in : List ℕ → Option Chosen
every_in word = option_map Every (number_up_to MOST_ORDERS word)

-- a sample of so many from a seed, where there is one of at least one
abbrev pub sample_of : Option ℕ → Option ℕ → Option Chosen
sample_of (Some size) (Some seed) = if nat_eq size 0 then None else Some (Sample size seed)
sample_of (Some size) None = None
sample_of None seed = None

-- a sample of as many as one word says, from the seed that another says
abbrev pub sample_in : List ℕ → List ℕ → Option Chosen
sample_in size seed = sample_of (number_up_to MOST_ORDERS size) (number_up_to MOST_SEED seed)
