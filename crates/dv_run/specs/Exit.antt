-- How a program reports how its run ended: its exit status, and what it writes to standard error.
use Rattle.std.specs.Prelude.{ℕ, List, [], Result, Ok, Err, codes}
use Rattle.dv_engine.specs.declared.report.Report.{Report}
use Rattle.dv_journal.specs.Ending.{ending_of}
use Rattle.dv_journal.specs.declared.ending.Ending.{Ending}
use Rattle.dv_journal.specs.declared.ending.Ending.TheVariants.{Over, AtLimit, Unmet}
use Rattle.dv_reader.specs.Texts.{refusal_text}
use Rattle.dv_run.specs.declared.error.RunFault.{RunFault}
use Rattle.dv_run.specs.declared.error.RunFault.TheVariants.{ScriptRefused, OutOfMemory, ReadFault, WriteFault}

-- 2 for a script that is refused, 3 if memory ran out, 4 for a reader or a writer that failed
abbrev pub fault_status : RunFault → ℕ
fault_status (ScriptRefused fault) = 2
fault_status OutOfMemory = 3
fault_status ReadFault = 4
fault_status WriteFault = 4

-- 0 where all events were performed, 1 where the run stopped at the limit of its journal, 8 where a Deferred wasn't as
-- the script expects
abbrev pub status_of : Ending → ℕ
status_of Over = 0
status_of AtLimit = 1
status_of Unmet = 8

-- the exit status: by how the run ended, or that of the fault
abbrev pub status : Result Report RunFault → ℕ
status (Ok report) = status_of (ending_of report.stopped report.journal.entries)
status (Err fault) = fault_status fault

-- what each fault is called; a refused script is reported as such, with its reason
abbrev pub fault_text : RunFault → List ℕ
fault_text (ScriptRefused fault) = refusal_text fault
fault_text OutOfMemory = codes "out of memory"
fault_text ReadFault = codes "read failed"
fault_text WriteFault = codes "write failed"

-- what goes to standard error, as a line where it isn't empty
abbrev pub error_text : Result Report RunFault → List ℕ
error_text (Ok report) = []
error_text (Err fault) = fault_text fault
