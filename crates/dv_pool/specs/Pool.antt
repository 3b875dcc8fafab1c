-- A pool: its works, what its owner holds, and its workers.
use Rattle.std.specs.Prelude.{◌≡◌, ℕ, ◌+◌, List, All, length, Option, Some, None}
use Rattle.std.specs.Arc.{arc_value}
use Rattle.std.specs.declared.thread.PromisedHandle.{PromisedHandle}
use Rattle.crossbeam_deque.specs.Handles.{worker_view}
use Rattle.dv_script.specs.declared.work.Work.{Work}
use Rattle.dv_pool.specs.declared.worker.Shared.{Shared}
use Rattle.dv_pool.specs.declared.worker.End.{End}
use Rattle.dv_pool.specs.declared.pool.threads.EndOf.{EndOf}
use Rattle.dv_pool.specs.declared.pool.parts.Parts.{Parts}
use Rattle.dv_pool.specs.declared.pool.crew.Crew.{Crew}
use Rattle.dv_script.specs.declared.work.TheConstants.{MOST_JOBS}
use Rattle.dv_pool.specs.Rules.{all_parts}
use Rattle.dv_pool.specs.Parts.{jobs_in, IsOrderly, HasPlaced, HasSubmitted}

-- each handle promises tokens of this pool
abbrev pub AreOf : Shared → List (PromisedHandle End EndOf) → Type 0
AreOf shared handles = All (λ handle. arc_value handle.promise.0.value ≡ shared) handles

-- the owner has put the jobs of these works, and has every part that no worker has
pub record IsWhole (works : List (Option Work)) (crew : Crew) (p : Parts) : Type 0 where
  pub orderly : IsOrderly p
  pub placed : HasPlaced works p
  pub submitted : HasSubmitted works p
  pub ours : arc_value p.shared ≡ arc_value crew.shared
  pub whole : (worker_view p.jobs).parts + length crew.handles.items ≡ all_parts

-- where the owner's parts are there
abbrev pub IsWholeIfThere : List (Option Work) → Crew → Option Parts → Type 0
IsWholeIfThere works crew None = Unit {0}
IsWholeIfThere works crew (Some p) = IsWhole works crew p

-- a place for each number that a run may have, so many jobs, and workers and parts of one pool
abbrev pub IsSound : List (Option Work) → ℕ → Crew → Option Parts → Type 0
IsSound works count crew parts =
    (length works ≡ MOST_JOBS) × (count ≡ length (jobs_in 0 works)) × AreOf (arc_value crew.shared) crew.handles.items
    × IsWholeIfThere works crew parts
