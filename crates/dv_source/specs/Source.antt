-- What a read does to the bytes that a source has left, where it reports them, and to its failures.
use Rattle.std.specs.Prelude.{◌≡◌, ℕ, List, take, ⊤, Option, Some, None, Result, Ok, Err}
use Rattle.std.specs.Io.KnownBytes.{Consumes}
use Rattle.dv_journal.specs.Sink.{one_more}

-- the count of failures after a read: an error counts, and the end of the input doesn't
abbrev pub failures_after_read : {E : Type 0} → ℕ → Result ℕ E → ℕ
failures_after_read count (Err e) = one_more count
failures_after_read count (Ok n) = count

-- the first bytes of what the source had, at most so many
abbrev pub IsFrontOf : Option (List ℕ) → ℕ → List ℕ → Type 0
IsFrontOf None most bytes = ⊤
IsFrontOf (Some all) most bytes = bytes ≡ take most all

-- some bytes were read, from the front of what the source had
abbrev pub ConsumesSome : Option (List ℕ) → Option (List ℕ) → Type 0
ConsumesSome old new = (bytes : List ℕ) × Consumes old new bytes
