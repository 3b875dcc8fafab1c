-- How a program reports how its run ended: as `dv_run` has it of a report.
use Rattle.std.specs.Prelude.{ℕ, List, [], Result, Ok, Err}
use Rattle.dv_journal.specs.declared.ending.Ending.{Ending}
use Rattle.dv_run.specs.Exit.{fault_status, fault_text, status_of}
use Rattle.dv_run.specs.declared.error.RunFault.{RunFault}

-- by how the run ended, or that of the fault
abbrev pub status : Result Ending RunFault → ℕ
status (Ok ending) = status_of ending
status (Err fault) = fault_status fault

-- what goes to standard error, as a line where it isn't empty
abbrev pub error_text : Result Ending RunFault → List ℕ
error_text (Ok ending) = []
error_text (Err fault) = fault_text fault
