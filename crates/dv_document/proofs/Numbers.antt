-- The number of a text, by its sign.
use Rattle.std.proofs.Common.{◌≡◌, ℕ, List, drop, get_or, true, false, ◌==◌}
use Rattle.fast_float.specs.Text.{scan}
use Rattle.serde_json.specs.Read.{number_of, number_from}

pub number_of-minus : (s : List ℕ) → (get_or s 0 0 == 45) ≡ true → number_of s ≡ number_from true (scan (drop 1 s))
unfolding number_of
number_of-minus s e = rw e

pub number_of-no_minus : (s : List ℕ) → (get_or s 0 0 == 45) ≡ false → number_of s ≡ number_from false (scan s)
unfolding number_of
number_of-no_minus s e = rw e
