-- What a work returns.
use Rattle.std.specs.Prelude.{◌+◌, ◌*◌, ◌/◌, pos}
use Rattle.dv_script.specs.declared.work.Work.{Work}
use Rattle.dv_script.specs.declared.work.Work.TheVariants.{Raise, Sum}
use Rattle.dv_value.specs.declared.value.Value.{Value, Int}
use Rattle.dv_value.specs.Failure.{fault}

-- a value is returned as it is, a raise returns the failure of its class and message with none inside, and a sum the
-- integers from 1 to n, added up
abbrev pub value_of : Work → Value
value_of (Work.Value v) = v
value_of (Raise class message) = fault class message
value_of (Sum n) = Int (pos (n * (n + 1) / 2))
