-- A value that is made only where it is kept.
use Rattle.dv_value.specs.Failure.{fault}
use Rattle.dv_value.specs.declared.value.Value.{Value}
use Rattle.dv_objects.specs.declared.given.Held.{Held}
use Rattle.dv_objects.specs.declared.given.Held.TheVariants.{Own, Lent, Failed}

-- the value that is held
abbrev pub value_held : Held → Value
value_held (Own value) = value
value_held (Lent value) = value
value_held (Failed class message) = fault class message
