-- What performing something resulted in.
use Rattle.std.specs.Prelude.{Option, None, Some}
use Rattle.dv_value.specs.Failure.{failure_in}
use Rattle.dv_value.specs.declared.failure.Failure.{Failure}
use Rattle.dv_objects.specs.declared.performed.Performed.{Performed}
use Rattle.dv_objects.specs.declared.performed.Performed.TheVariants.{Done, Gave, Raised, Awaits}

-- the failure that a body resulted in, raised or returned
abbrev pub failed_with : Performed → Option Failure
failed_with Done = None
failed_with (Gave value) = failure_in value
failed_with (Raised failure) = Some failure
failed_with (Awaits e) = None
