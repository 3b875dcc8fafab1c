-- What a source over bytes has to give, what it answers to a read, and what it has then.
use Rattle.std.specs.Prelude.{List, ℕ, Bool, false, ◌-◌, ◌++◌, ◌==◌, min, length, take, drop, if◌then◌else◌, Option}
use Rattle.std.specs.Prelude.{Some, None, Result, Ok, Err}
use Rattle.dv_source.specs.declared.source.SourceFault.{SourceFault}
use Rattle.dv_source.specs.Source.{failures_after_read}

-- the bytes that it has left, how many it gives a call at most, after how many calls it fails,
-- and how often it has failed
pub record Supply : Type 0 where
  pub left : List ℕ
  pub per_call : ℕ
  pub failure : Option ℕ
  pub failures : ℕ

-- a source of these bytes, that gives so many a call and has no failure ahead
abbrev pub fresh : List ℕ → ℕ → Supply
fresh bytes per_call = record { left = bytes; per_call = per_call; failure = None; failures = 0 }

-- it fails at this call
abbrev pub fails_here : Option ℕ → Bool
fails_here None = false
fails_here (Some calls) = calls == 0

-- the failure that is left for later calls
abbrev pub failure_ahead : Option ℕ → Option ℕ
failure_ahead None = None
failure_ahead (Some calls) = if calls == 0 then None else Some (calls - 1)

-- what it answers to a buffer with so much room: it fails, or gives as much as there is room for,
-- as a call gives, and as is left
abbrev pub answer_of : Supply → ℕ → Result ℕ SourceFault
answer_of supply room =
    if fails_here supply.failure then Err (record {})
    else Ok (min (min room supply.per_call) (length supply.left))

-- the bytes that it answered are gone from its front
abbrev pub without_front : Supply → Result ℕ SourceFault → Supply
without_front supply (Err fault) = supply
without_front supply (Ok n) = record supply { left = drop n supply.left }

-- what it has after a call that answered so: the bytes left, one call less before its failure,
-- and the count of failures
abbrev pub after_read : Supply → Result ℕ SourceFault → Supply
after_read supply answer =
    let given = without_front supply answer in
    record given { failure = failure_ahead supply.failure; failures = failures_after_read supply.failures answer }

-- the buffer after that call: the bytes that it answered, and then what it held
abbrev pub filled : List ℕ → List ℕ → Result ℕ SourceFault → List ℕ
filled left buffer (Err fault) = buffer
filled left buffer (Ok n) = take n left ++ drop n buffer
