-- What a sink over memory holds, what it answers to a piece, and what it holds then.
use Rattle.std.specs.Prelude.{[], List, ℕ, ◌-◌, ◌++◌, ◌==◌, ◌&&◌, min, length, take, nat_lt, if◌then◌else◌, Option}
use Rattle.std.specs.Prelude.{Some, None, Result, Ok, Err}
use Rattle.dv_journal.specs.declared.sink.SinkFault.{SinkFault}
use Rattle.dv_journal.specs.declared.memory_sink.Trouble.{Trouble}
use Rattle.dv_journal.specs.declared.memory_sink.Trouble.TheVariants.{Fails, TakesNothing}
use Rattle.dv_journal.specs.Sink.{failures_after}

-- the bytes that it took, how many more it has room for, how many it takes a call at most,
-- its trouble after so many calls, and how often it has failed
pub record Kept : Type 0 where
  pub bytes : List ℕ
  pub room : ℕ
  pub per_call : ℕ
  pub trouble : Option (ℕ × Trouble)
  pub failures : ℕ

-- a sink with so much room, that takes so many bytes a call and has no trouble ahead
abbrev pub fresh : ℕ → ℕ → Kept
fresh room per_call = record { bytes = []; room = room; per_call = per_call; trouble = None; failures = 0 }

-- the trouble of this call, if it has one
abbrev pub trouble_here : Option (ℕ × Trouble) → Option Trouble
trouble_here None = None
trouble_here (Some due) = if due.0 == 0 then Some due.1 else None

-- the trouble that is left for later calls
abbrev pub trouble_ahead : Option (ℕ × Trouble) → Option (ℕ × Trouble)
trouble_ahead None = None
trouble_ahead (Some due) = if due.0 == 0 then None else Some (due.0 - 1, due.1)

-- full, it fails; else it takes as much of the piece as a call takes and as there is room for
abbrev pub filling_answer : Kept → List ℕ → Result ℕ SinkFault
filling_answer kept piece =
    if (kept.room == 0) && nat_lt 0 (length piece) then Err (record {})
    else Ok (min (min (length piece) kept.per_call) kept.room)

-- what it answers in this trouble, or in none
abbrev pub answer_in : Option Trouble → Kept → List ℕ → Result ℕ SinkFault
answer_in (Some Fails) kept piece = Err (record {})
answer_in (Some TakesNothing) kept piece = Ok 0
answer_in None kept piece = filling_answer kept piece

-- what it answers to a piece
abbrev pub answer_of : Kept → List ℕ → Result ℕ SinkFault
answer_of kept piece = answer_in (trouble_here kept.trouble) kept piece

-- the answer's bytes of the piece are taken
abbrev pub with_taken : Kept → List ℕ → Result ℕ SinkFault → Kept
with_taken kept piece (Err fault) = kept
with_taken kept piece (Ok n) = record kept { bytes = kept.bytes ++ take n piece; room = kept.room - n }

-- what it holds after a call that answered so: the bytes, one call less before its trouble,
-- and the count of failures
abbrev pub after_write : Kept → List ℕ → Result ℕ SinkFault → Kept
after_write kept piece answer =
    let filled = with_taken kept piece answer in
    record filled { trouble = trouble_ahead kept.trouble; failures = failures_after kept.failures piece answer }
