-- The journal's reason to stop, as one why a step isn't made.
use Rattle.dv_journal.specs.declared.error.Fault.{Fault}
use Rattle.dv_journal.specs.declared.error.Fault.TheVariants as fault
use Rattle.dv_journal.specs.declared.error.Stop.{Stop}
use Rattle.dv_journal.specs.declared.error.Stop.TheVariants as stop

abbrev pub fault_of : {Reason : Type 0} → Stop → Fault Reason
fault_of stop.Limit = fault.Limit
fault_of stop.OutOfMemory = fault.OutOfMemory
