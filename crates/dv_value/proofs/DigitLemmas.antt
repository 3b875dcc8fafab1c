-- The last digits of a number in decimal.
use Rattle.std.proofs.Common.{◌≡◌, ◌++◌, ◌+◌, ◌^◌, ◌/◌, ◌%◌, ◌<◌, ◌≤◌, ℕ, List, [], ◌∷◌, append_assoc, arith}
use Rattle.std.specs.Prelude.{IsUtf8}
use Rattle.std.specs.Fmt.{decimal}
use Rattle.std.proofs.lemmas.Fmt.{decimal_digit, decimal_step}
use Rattle.json.proofs.Printed.Utf8.{IsUtf8-are_ascii}

pub two_are_text : (a b : ℕ) → a < 128 → b < 128 → IsUtf8 (a ∷ b ∷ [])
two_are_text a b x y = IsUtf8-are_ascii (a ∷ b ∷ []) (grind arith)

pub three_are_text : (a b c : ℕ) → a < 128 → b < 128 → c < 128 → IsUtf8 (a ∷ b ∷ c ∷ [])
three_are_text a b c x y z = IsUtf8-are_ascii (a ∷ b ∷ c ∷ []) (grind arith)

pub four_are_text : (a b c d : ℕ) → a < 128 → b < 128 → c < 128 → d < 128 → IsUtf8 (a ∷ b ∷ c ∷ d ∷ [])
four_are_text a b c d w x y z = IsUtf8-are_ascii (a ∷ b ∷ c ∷ d ∷ []) (grind arith)

pub only_one : (n : ℕ) → n < 10 → decimal n ≡ (48 + n % 10) ∷ []
only_one n e = grind (arith, decimal_digit n)

pub only_two : (n : ℕ) → 10 ≤ n → n < 100 → decimal n ≡ (48 + n / 10 % 10) ∷ (48 + n % 10) ∷ []
only_two n low high = grind (arith, decimal_step n, decimal_digit (n / 10))

pub only_three : (n : ℕ) → 100 ≤ n → n < 1000
    → decimal n ≡ (48 + n / 100 % 10) ∷ (48 + n / 10 % 10) ∷ (48 + n % 10) ∷ []
only_three n low high = grind (arith, decimal_step n, decimal_step (n / 10), decimal_digit (n / 10 / 10))

pub only_four : (n : ℕ) → 1000 ≤ n → n < 10000
    → decimal n ≡ (48 + n / 1000 % 10) ∷ (48 + n / 100 % 10) ∷ (48 + n / 10 % 10) ∷ (48 + n % 10) ∷ []
only_four n low high =
    grind (arith, decimal_step n, decimal_step (n / 10), decimal_step (n / 10 / 10), decimal_digit (n / 10 / 10 / 10))

pub last_four : (text : List ℕ) (n : ℕ) → 10000 ≤ n → n < 2 ^ 64
    → (text ++ decimal (n / 10000))
    ++ (48 + n / 1000 % 10) ∷ (48 + n / 100 % 10) ∷ (48 + n / 10 % 10) ∷ (48 + n % 10) ∷ []
    ≡ text ++ decimal n
last_four text n low high =
    grind (
      arith,
      append_assoc,
      decimal_step n,
      decimal_step (n / 10),
      decimal_step (n / 10 / 10),
      decimal_step (n / 10 / 10 / 10),
    )
