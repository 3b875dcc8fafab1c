-- What becomes of a value that a timer watches (Twisted: `Deferred.addTimeout`).
use Rattle.std.specs.Prelude.{Bool, false, ◌&&◌, if◌then◌else◌, List, []}
use Rattle.std.specs.Option.{option_map_or}
use Rattle.dv_value.specs.Builtin.{cancelled_error, timeout_error}
use Rattle.dv_value.specs.Classes.{descends}
use Rattle.dv_value.specs.Failure.{class_of, failure_in, fault}
use Rattle.dv_value.specs.declared.classes.Class.{Class}
use Rattle.dv_value.specs.declared.value.Value.{Value}

-- whether a value is a failure of CancelledError, or of a class below it
abbrev pub is_cancellation : List Class → Value → Bool
is_cancellation table value =
    option_map_or (λ failure. descends table (class_of failure) cancelled_error) (failure_in value) false

-- TimeoutError in place of a cancellation, where the time is over; else the value itself
abbrev pub timed : List Class → Bool → Value → Value
timed table over value = if over && is_cancellation table value then fault timeout_error [] else value
