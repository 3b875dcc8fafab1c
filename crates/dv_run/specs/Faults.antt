-- Which fault of a run stands for which fault of a part.
use Rattle.dv_journal.specs.declared.error.PrintFault.{PrintFault}
use Rattle.dv_journal.specs.declared.error.PrintFault.TheVariants as printing
use Rattle.dv_reader.specs.declared.error.ScriptFault.{ScriptFault}
use Rattle.dv_reader.specs.declared.error.ScriptFault.TheVariants as script
use Rattle.dv_run.specs.declared.error.RunFault.{RunFault}
use Rattle.dv_run.specs.declared.error.RunFault.TheVariants.{ScriptRefused, OutOfMemory, ReadFault, WriteFault}
use Rattle.dv_source.specs.declared.source.ReadError.{ReadError}
use Rattle.dv_source.specs.declared.source.ReadError.TheVariants as reading

-- a reader that failed is a read fault, and out of memory stays that
abbrev pub of_read : ReadError → RunFault
of_read reading.ReadFault = ReadFault
of_read reading.OutOfMemory = OutOfMemory

-- out of memory while a script is read is no refusal of the script
abbrev pub of_script : ScriptFault → RunFault
of_script script.TooLong = ScriptRefused script.TooLong
of_script script.NotJson = ScriptRefused script.NotJson
of_script script.BadVersion = ScriptRefused script.BadVersion
of_script script.BadShape = ScriptRefused script.BadShape
of_script script.TooMany = ScriptRefused script.TooMany
of_script script.BadName = ScriptRefused script.BadName
of_script script.BadClass = ScriptRefused script.BadClass
of_script script.OutOfMemory = OutOfMemory
of_script script.BadPool = ScriptRefused script.BadPool
of_script script.BadBody = ScriptRefused script.BadBody
of_script script.BadCooperator = ScriptRefused script.BadCooperator

-- a writer that failed is a write fault, and out of memory stays that
abbrev pub of_print : PrintFault → RunFault
of_print printing.WriteFault = WriteFault
of_print printing.OutOfMemory = OutOfMemory
