-- How much an entry of the journal weighs more for showing a value or a failure.
use Rattle.std.specs.Prelude.{ℕ, ◌+◌, length, sum, Option, None, Some}
use Rattle.dv_value.specs.declared.expected.Expected.{Expected}
use Rattle.dv_value.specs.declared.expected.Expected.TheVariants as expected
use Rattle.dv_value.specs.declared.failure.Failure.{Failure}
use Rattle.dv_value.specs.declared.failure.Failure.TheFolds.{fold-Failure}
use Rattle.dv_value.specs.declared.failure.Failure.TheOpen.{Failure-F}
use Rattle.dv_value.specs.declared.value.Value.{Value, fold-Value}
use Rattle.dv_value.specs.declared.value.Value.TheOpen.{Value-F}

-- nothing for the place of the failure inside
abbrev pub sub_size : Option ℕ → ℕ
sub_size None = 0
sub_size (Some inside) = inside

-- one, the bytes of the message, and the failure inside
abbrev pub failure_size_step : Failure-F ℕ ℕ → ℕ
failure_size_step f = 1 + length f.message + sub_size f.sub

-- how much a failure weighs, with those inside
abbrev pub failure_size : Failure → ℕ
failure_size = fold-Failure ℕ ℕ failure_size_step (λ sub. sub.failure)

-- null, a boolean and an integer are one, a text one and its bytes, a list one and its members
abbrev pub size_step : Value-F ℕ → ℕ
size_step Value-F.Null = 1
size_step (Value-F.Bool b) = 1
size_step (Value-F.Int n) = 1
size_step (Value-F.Text t) = 1 + length t
size_step (Value-F.List vs) = 1 + sum vs
size_step (Value-F.Fault f) = failure_size f

-- how much a value weighs, with those inside
abbrev pub size : Value → ℕ
size = fold-Value ℕ size_step

-- the size of the value that is expected, if one is
abbrev pub expected_size : Expected → ℕ
expected_size expected.Unfired = 0
expected_size expected.Waiting = 0
expected_size (expected.Fired value) = size value
