-- The works that were submitted as jobs (Twisted: `deferToThread`, `deferToThreadPool`).
use Rattle.std.specs.Prelude.{ℕ, Bool, nat_le, List, [], ◌∷◌, ◌++◌, length, Option}
use Rattle.dv_script.specs.declared.work.TheConstants.{MOST_JOBS}
use Rattle.dv_script.specs.declared.work.Work.{Work}

-- whether there are as many as a run has at most
abbrev pub is_full : List Work → Bool
is_full works = nat_le MOST_JOBS (length works)

-- the works in order, and beside each the name of its pool, or nothing where that is the default one
pub record Works : Type 0 where
  pub works : List Work
  pub pools : List (Option (List ℕ))

-- nothing was submitted
abbrev pub no_works : Works
no_works = record { works = []; pools = [] }

-- one more was
abbrev pub with_work : Option (List ℕ) → Work → Works → Works
with_work pool work w = record { works = w.works ++ work ∷ []; pools = w.pools ++ pool ∷ [] }
