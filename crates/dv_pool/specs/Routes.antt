-- Several pools: which has the job of which number.
use Rattle.std.specs.Prelude.{◌≡◌, ℕ, ◌+◌, ◌<◌, ◌≤◌, nat_eq, if◌then◌else◌, Bool, List, [], ◌∷◌, length}
use Rattle.std.specs.List.{list_any}
use Rattle.dv_script.specs.declared.work.TheConstants.{MOST_JOBS}
use Rattle.dv_script.specs.declared.work.Work.{Work}
use Rattle.dv_jobs.specs.declared.job.Done.{Done}
use Rattle.dv_jobs.specs.declared.job.Job.{Job}
use Rattle.dv_jobs.specs.Jobs.{numbered}
use Rattle.dv_jobs.specs.Sources.{Source, jobs_of}

-- the jobs of these works that are routed to the pool p, where the first work has the number n
abbrev pub routed : ℕ → ℕ → List ℕ → List Work → List Job
routed p n [] works = []
routed p n (route ∷ routes) [] = []
routed p n (route ∷ routes) (work ∷ works) =
    if nat_eq route p then numbered n work ∷ routed p (n + 1) routes works else routed p (n + 1) routes works

-- each pool, of which the first is p, has just the jobs that are routed to it
abbrev pub HaveRouted : ℕ → List ℕ → List Work → List Source → Type 0
HaveRouted p routes works [] = Unit {0}
HaveRouted p routes works (pool ∷ pools) = (pool.jobs ≡ routed p 0 routes works) × HaveRouted (p + 1) routes works pools

-- each route is lower than n
abbrev pub LeadBelow : ℕ → List ℕ → Type 0
LeadBelow n [] = Unit {0}
LeadBelow n (route ∷ routes) = (route < n) × LeadBelow n routes

-- a route for each work, and the jobs where they are routed to; there is the default pool beside those that are named
pub record AreRouted (named : ℕ) (routes : List ℕ) (works : List Work) (pools : List Source) : Type 0 where
  pub all : length pools ≡ named + 1
  pub few : length works ≤ MOST_JOBS
  pub paired : length routes ≡ length works
  pub known : LeadBelow (length pools) routes
  pub jobs : HaveRouted 0 routes works pools

-- whether one has failed
abbrev pub has_failed : List Source → Bool
has_failed pools = list_any (λ pool. pool.failed) pools

-- each pool, of which the first is p, has done just the jobs that are routed to it, where the first work that is left
-- has the number n
abbrev pub AreDone : ℕ → ℕ → List ℕ → List Work → List (List Done) → Type 0
AreDone p n routes works [] = Unit {0}
AreDone p n routes works (dones ∷ rest) =
    (jobs_of dones ≡ routed p n routes works) × AreDone (p + 1) n routes works rest
