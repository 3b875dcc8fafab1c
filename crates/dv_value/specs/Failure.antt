-- What a failure is of, and which values are failures (Twisted: `Failure.check`, `Failure.trap`).
use Rattle.std.specs.Prelude.{ℕ, Bool, true, false, List, Option, None, Some, Result, Ok, Err}
use Rattle.dv_value.specs.declared.classes.Class.{Class}
use Rattle.dv_value.specs.declared.failure.Failure.{Failure, out-Failure, roll-Failure}
use Rattle.dv_value.specs.declared.value.Value.{Value, Fault, out-Value}
use Rattle.dv_value.specs.declared.value.Value.TheOpen.{Value-F}
use Rattle.dv_value.specs.Classes.{check}

-- a failure of a class, with none inside
abbrev pub plain_failure : ℕ → List ℕ → Failure
plain_failure class message = roll-Failure (record { class = class; message = message; sub = None })

-- such a failure, as a value
abbrev pub fault : ℕ → List ℕ → Value
fault class message = Fault (plain_failure class message)

-- the class of a failure
abbrev pub class_of : Failure → ℕ
class_of f = (out-Failure f).class

-- by the class that was found: that class, or the failure where there is none
abbrev pub trap_by : Option ℕ → Failure → Result ℕ Failure
trap_by (Some class) f = Ok class
trap_by None f = Err f

-- the first of the listed classes that the failure is of, or the failure itself
abbrev pub trap : List Class → Failure → List ℕ → Result ℕ Failure
trap table f listed = trap_by (check table (class_of f) listed) f

-- by the kind of the value: only a failure is one
abbrev pub is_fault_step : Value-F Value → Bool
is_fault_step Value-F.Null = false
is_fault_step (Value-F.Bool b) = false
is_fault_step (Value-F.Int n) = false
is_fault_step (Value-F.Text t) = false
is_fault_step (Value-F.List vs) = false
is_fault_step (Value-F.Fault f) = true

-- a Deferred of this value has failed
abbrev pub is_fault : Value → Bool
is_fault v = is_fault_step (out-Value v)

-- by the kind of the value: a failure is itself, and no other value is one
abbrev pub failure_in_step : Value-F Value → Option Failure
failure_in_step Value-F.Null = None
failure_in_step (Value-F.Bool b) = None
failure_in_step (Value-F.Int n) = None
failure_in_step (Value-F.Text t) = None
failure_in_step (Value-F.List vs) = None
failure_in_step (Value-F.Fault f) = Some f

-- the failure that a value is
abbrev pub failure_in : Value → Option Failure
failure_in v = failure_in_step (out-Value v)
