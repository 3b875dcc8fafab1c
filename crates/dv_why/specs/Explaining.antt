-- How a script of a source is explained, and how an explanation ends.
use Rattle.std.specs.Prelude.{ℕ, ◌+◌, ◌++◌, List, [], ◌∷◌, Option, Some, None, Result, Ok, Err, codes}
use Rattle.std.specs.Io.KnownBytes.{Appends, Keeps}
use Rattle.dv_journal.specs.Sink.{AppendsPrefix}
use Rattle.dv_source.specs.Source.{IsFrontOf}
use Rattle.dv_source.specs.declared.source.ReadError.{ReadError}
use Rattle.dv_source.specs.declared.source.ReadError.TheVariants as read
use Rattle.dv_reader.specs.declared.error.ScriptFault.{ScriptFault}
use Rattle.dv_reader.specs.Texts.{refusal_text}
use Rattle.dv_why.specs.declared.explaining.WhyFault.{WhyFault}
use Rattle.dv_why.specs.declared.explaining.WhyFault.TheVariants.{OutOfMemory, ReadFault, WriteFault}
use Rattle.dv_why.specs.Why.{Answers}
use Rattle.dv_forms.specs.declared.limits.TheConstants.{WIDEST_BYTES}

-- the line of the script that the source gives was written, and the answer is the line's
abbrev pub Explains : Option (List ℕ) → Option (List ℕ) → Option (List ℕ) → Option ScriptFault → Type 0
Explains left before after fault =
    (bytes line : List ℕ) × IsFrontOf left (WIDEST_BYTES + 1) bytes × Answers bytes fault line
    × Appends before after (line ++ 10 ∷ [])

-- what was written before each fault: nothing where there is no line, and a prefix of the line if the writer failed
abbrev pub GivesUp : WhyFault → Option (List ℕ) → Option (List ℕ) → Option (List ℕ) → Type 0
GivesUp OutOfMemory left before after = Keeps before after
GivesUp ReadFault left before after = Keeps before after
GivesUp WriteFault left before after =
    (bytes line : List ℕ) × (fault : Option ScriptFault) × IsFrontOf left (WIDEST_BYTES + 1) bytes × Answers bytes fault line
    × AppendsPrefix before after (line ++ 10 ∷ [])

-- the fault of a reader
abbrev pub of_read_error : ReadError → WhyFault
of_read_error read.ReadFault = ReadFault
of_read_error read.OutOfMemory = OutOfMemory

-- 3 when out of memory, 4 for a reader or a writer that failed
abbrev pub fault_status : WhyFault → ℕ
fault_status OutOfMemory = 3
fault_status ReadFault = 4
fault_status WriteFault = 4

-- what each fault is called
abbrev pub fault_text : WhyFault → List ℕ
fault_text OutOfMemory = codes "out of memory"
fault_text ReadFault = codes "read failed"
fault_text WriteFault = codes "write failed"

-- the exit status: 0 where the script is accepted, 2 where it is refused, and otherwise that of the fault
abbrev pub ended_status : Result (Option ScriptFault) WhyFault → ℕ
ended_status (Ok None) = 0
ended_status (Ok (Some refusal)) = 2
ended_status (Err fault) = fault_status fault

-- what goes to standard error, as a line where it isn't empty
abbrev pub ended_text : Result (Option ScriptFault) WhyFault → List ℕ
ended_text (Ok None) = []
ended_text (Ok (Some refusal)) = refusal_text refusal
ended_text (Err fault) = fault_text fault
