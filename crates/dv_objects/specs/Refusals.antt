-- What is raised where something is refused.
use Rattle.std.specs.Prelude.{ℕ, List, [], codes}
use Rattle.dv_value.specs.Builtin.{name_error, assertion_error, already_called_error, cancelled_error, type_error}
use Rattle.dv_value.specs.Builtin.{queue_overflow, queue_underflow}
use Rattle.dv_value.specs.Failure.{plain_failure}
use Rattle.dv_value.specs.declared.failure.Failure.{Failure}
use Rattle.dv_value.specs.declared.value.Value.{Value, Fault}
use Rattle.dv_objects.specs.declared.performed.Performed.{Performed}
use Rattle.dv_objects.specs.declared.performed.Performed.TheVariants.{Raised}

-- what a Deferred is fired with that is cancelled
abbrev pub cancelled : Value
cancelled = Fault (plain_failure cancelled_error [])

-- what a second firing of a Deferred raises
abbrev pub refused_firing : Failure
refused_firing = plain_failure already_called_error []

-- what the unpausing of a Deferred raises that isn't paused
abbrev pub refused_unpausing : Failure
refused_unpausing = plain_failure assertion_error (codes "not paused")

-- what the gathering of what isn't the result of a list raises
abbrev pub not_gathered : Failure
not_gathered = plain_failure type_error (codes "gather")

-- what a putting raises where as many values are stored as may be
abbrev pub overflow : Failure
overflow = plain_failure queue_overflow []

-- what an asking raises where as many wait as may
abbrev pub underflow : Failure
underflow = plain_failure queue_underflow []

-- what the release of a token raises where none is held
abbrev pub not_held : Failure
not_held = plain_failure assertion_error (codes "not held")

-- what a name that isn't bound raises
abbrev pub unbound : List ℕ → Performed
unbound name = Raised (plain_failure name_error name)
