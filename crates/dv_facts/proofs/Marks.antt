-- Marks that are passed.
use Rattle.std.proofs.Common.{◌≡◌, ℕ, zero, suc, ◌≤◌, ◌<◌, ◌+◌, nat_le, cond, Bool, true, false, List, [], ◌∷◌, length}
use Rattle.std.proofs.Common.{get_or, arith}
use Rattle.std.proofs.lemmas.List.Sums.{prefix_len-le-length}
use Rattle.dv_facts.specs.Events.{passed_at}

-- no mark that is passed is ahead at a later entry
pub passed_more : (marks : List ℕ) (number later : ℕ) → number ≤ later → passed_at marks number ≤ passed_at marks later
passed_more [] number later h = grind arith
passed_more (mark ∷ marks) number later h = grind (arith, passed_more marks number later h)

before_by : (passes : Bool) (place rest : ℕ) → suc place ≤ cond passes (1 + rest) 0 → (place ≤ rest → place ≡ rest)
    → suc place ≡ cond passes (1 + rest) 0
before_by true place rest within more = omega (arith, more (omega arith))
before_by false place rest within more = absurd (omega arith)

-- as many are passed as there are before the first that is ahead
pub passed_before : (marks : List ℕ) (number place : ℕ) → place ≤ passed_at marks number → place < length marks
    → number < get_or marks place 0 → place ≡ passed_at marks number
passed_before [] number place within inside ahead = absurd (omega arith)
passed_before (mark ∷ marks) number zero within inside ahead = grind arith
passed_before (mark ∷ marks) number (suc place) within inside ahead =
    before_by (nat_le mark number) place (passed_at marks number) within
    (λ h. passed_before marks number place h (omega arith) ahead)

next_by : (passes : Bool) (place rest : ℕ) → suc place ≤ cond passes (1 + rest) 0 → (place ≤ rest → place + 1 ≤ rest)
    → suc place + 1 ≤ cond passes (1 + rest) 0
next_by true place rest within more = omega (arith, more (omega arith))
next_by false place rest within more = absurd (omega arith)

-- one more is passed, where it isn't ahead
pub passed_next : (marks : List ℕ) (number place : ℕ) → place ≤ passed_at marks number → place < length marks
    → get_or marks place 0 ≤ number → place + 1 ≤ passed_at marks number
passed_next [] number place within inside behind = absurd (omega arith)
passed_next (mark ∷ marks) number zero within inside behind = grind arith
passed_next (mark ∷ marks) number (suc place) within inside behind =
    next_by (nat_le mark number) place (passed_at marks number) within
    (λ h. passed_next marks number place h (omega arith) behind)

-- all are passed
pub passed_all : (marks : List ℕ) (number place : ℕ) → place ≤ passed_at marks number → length marks ≤ place
    → length marks ≡ passed_at marks number
passed_all marks number place within past = omega (arith, prefix_len-le-length (λ mark. nat_le mark number) marks)

-- what goals on marks cite
pub ruleset marks = (passed_before, passed_next, passed_all)
