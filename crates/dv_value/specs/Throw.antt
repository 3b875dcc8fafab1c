-- A failure that stands in a value.
use Rattle.std.specs.Prelude.{ℕ, List, [], ◌∷◌, Option, None, Some, slice_get, option_and_then, codes}
use Rattle.dv_value.specs.Builtin.{type_error}
use Rattle.dv_value.specs.Failure.{fault, failure_in}
use Rattle.dv_value.specs.declared.failure.Failure.{Failure}
use Rattle.dv_value.specs.declared.value.Value.{Value, Fault, out-Value}
use Rattle.dv_value.specs.declared.value.Value.TheOpen.{Value-F}

-- the item at a place of a list, if there is one
abbrev pub item_at : ℕ → Value-F Value → Option Value
item_at place Value-F.Null = None
item_at place (Value-F.Bool b) = None
item_at place (Value-F.Int n) = None
item_at place (Value-F.Text t) = None
item_at place (Value-F.List vs) = slice_get vs place
item_at place (Value-F.Fault f) = None

-- the failure at a path, each of whose numbers is a place in a list
abbrev pub failure_at : List ℕ → Value → Option Failure
failure_at [] v = failure_in v
failure_at (place ∷ path) v = option_and_then (failure_at path) (item_at place (out-Value v))

-- the failure that was found, or a TypeError
abbrev pub thrown_or_type_error : Option Failure → Value
thrown_or_type_error (Some f) = Fault f
thrown_or_type_error None = fault type_error (codes "throw")
