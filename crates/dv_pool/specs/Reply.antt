-- What the future of a job's value waits for, and gives.
use Rattle.std.specs.Prelude.{ℕ, List, Option, Some, None, Result, IfOk}
use Rattle.std.specs.declared.alloc.AllocError.{AllocError}
use Rattle.dv_script.specs.declared.work.Work.{Work}
use Rattle.dv_value.specs.declared.value.Value.{Value}
use Rattle.dv_pool.specs.declared.pool.parts.Parts.{Parts}
use Rattle.dv_jobs.specs.Sources.{IsSubmitted, IsValueUnder}
use Rattle.dv_pool.specs.Parts.{jobs_in, IsOrderly, HasPlaced, Keeps}

-- it has its parts, and its number is that of a job
abbrev pub MayPoll : Option Parts → List (Option Work) → ℕ → Type 0
MayPoll None works number = ⊥
MayPoll (Some p) works number = IsOrderly p × HasPlaced works p × IsSubmitted number (jobs_in 0 works)

-- the parts, from which nothing was lost, with the value of the work
abbrev pub MayGive : Option Parts → List (Option Work) → ℕ → Parts × Result Value AllocError → Type 0
MayGive None works number out = ⊥
MayGive (Some p) works number out =
    IsOrderly out.0 × HasPlaced works out.0 × Keeps p out.0 × IfOk out.1 (IsValueUnder number (jobs_in 0 works))
