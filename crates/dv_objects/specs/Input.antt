-- What a body is performed on, as the value that it is.
use Rattle.dv_value.specs.declared.value.Value.{Value, Null, Bool, Int}
use Rattle.dv_objects.specs.declared.input.Kept.{Kept}
use Rattle.dv_objects.specs.declared.input.Kept.TheVariants as kept

abbrev pub value_kept : Kept → Value
value_kept kept.Null = Null
value_kept (kept.Bool b) = Bool b
value_kept (kept.Int n) = Int n
value_kept (kept.Other value) = value
