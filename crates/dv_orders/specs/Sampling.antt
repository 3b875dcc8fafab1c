-- Drawing numbers for a sample of the orders. The generator is SplitMix64, after Sebastiano Vigna's splitmix64.c.
use Rattle.std.specs.Prelude.{◌≡◌, ◌+◌, ◌*◌, ◌/◌, ◌%◌, ◌^◌, nat_lt, if◌then◌else◌, ℕ, zero, suc, [], ◌∷◌, bit_xor}

-- the state after this one
abbrev pub next_state : ℕ → ℕ
next_state state = (state + 0x9e3779b97f4a7c15) % 2 ^ 64

-- a number with its high bits folded down by so many places
abbrev pub folded : ℕ → ℕ → ℕ
folded number places = bit_xor number (number / 2 ^ places)

-- the number that a state gives
abbrev pub number_of : ℕ → ℕ
number_of state = folded (folded (folded state 30 * 0xbf58476d1ce4e5b9 % 2 ^ 64) 27 * 0x94d049bb133111eb % 2 ^ 64) 31

-- how many of all 2^64 numbers are used to draw one below n: as many as fall into n equal parts
abbrev pub number_used : ℕ → ℕ
number_used n = 2 ^ 64 / n * n

-- the first state from here on whose number is used, or the last of so many after this one
unfoldable pub state_used : ℕ → ℕ → ℕ → ℕ
state_used n zero state = state
state_used n (suc others) state =
    if nat_lt (number_of state) (number_used n) then state else state_used n others (next_state state)

-- the first numbers of a seed, as published with other implementations
abbrev pub FirstNumbersArePublished : Type 0
FirstNumbersArePublished =
    let first = next_state 1234567 in
    let second = next_state first in
    let third = next_state second in
    number_of first ∷ number_of second ∷ number_of third ∷ []
    ≡ 6457827717110365317 ∷ 3203168211198807973 ∷ 9817491932198370423 ∷ []
