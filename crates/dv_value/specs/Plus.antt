-- A value plus a number.
use Rattle.std.specs.Prelude.{ℤ, pos, negsuc, ◌+ℤ◌, ◌^◌, Bool, nat_lt, if◌then◌else◌, codes}
use Rattle.dv_value.specs.Builtin.{type_error, overflow_error}
use Rattle.dv_value.specs.Failure.{fault}
use Rattle.dv_value.specs.declared.value.Value.{Value, Int}
use Rattle.dv_value.specs.declared.value.Value.TheOpen.{Value-F}

-- an integer is one of 64 bits
abbrev pub fits : ℤ → Bool
fits (pos n) = nat_lt n (2 ^ 63)
fits (negsuc n) = nat_lt n (2 ^ 63)

-- a sum of 64 bits, or an OverflowError
abbrev pub sum_or_overflow : ℤ → Value
sum_or_overflow n = if fits n then Int n else fault overflow_error (codes "plus")

-- an integer plus n, where the sum is one of 64 bits; nothing else can be added to
abbrev pub plus_to : ℤ → Value-F Value → Value
plus_to n (Value-F.Int m) = sum_or_overflow (m +ℤ n)
plus_to n Value-F.Null = fault type_error (codes "plus")
plus_to n (Value-F.Bool b) = fault type_error (codes "plus")
plus_to n (Value-F.Text t) = fault type_error (codes "plus")
plus_to n (Value-F.List vs) = fault type_error (codes "plus")
plus_to n (Value-F.Fault f) = fault type_error (codes "plus")
