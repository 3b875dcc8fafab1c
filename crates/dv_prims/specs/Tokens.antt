-- Locks and semaphores (Twisted: `DeferredSemaphore`, and `DeferredLock`, which is one of one token).
use Rattle.std.specs.Prelude.{◌≡◌, ◌≢◌, ℕ, ◌+◌, ◌-◌, Bool, nat_eq, nat_lt, if◌then◌else◌, List, [], ◌∷◌, ◌++◌, Option}
use Rattle.std.specs.Prelude.{Result, Ok, Err, slice_get}
use Rattle.std.specs.List.{list_any}
use Rattle.std.specs.Set.{remove_key}
use Rattle.dv_journal.specs.Journal.{Written, fits, with_entry}
use Rattle.dv_journal.specs.declared.entry.Entry.TheVariants as entry
use Rattle.dv_journal.specs.declared.error.Stop.{Stop}
use Rattle.dv_journal.specs.Telling.{State, Told, telling, making}
use Rattle.dv_prims.specs.declared.error.NotHeld.{NotHeld}
use Rattle.dv_journal.specs.declared.error.Fault.{Fault}
use Rattle.dv_journal.specs.declared.error.Fault.TheVariants as fault
use Rattle.dv_prims.specs.declared.semaphore.Grant.{Grant}
use Rattle.dv_prims.specs.declared.semaphore.Grant.TheVariants.{Now, Waits}

-- its name, how many tokens it has and how many of them are given, and the waiters for one, in order of asking
pub record Semaphore : Type 0 where
  pub name : List ℕ
  pub tokens : ℕ
  pub given : ℕ
  pub waiting : List ℕ

-- no token is held at first
abbrev pub new_semaphore : List ℕ → ℕ → Semaphore
new_semaphore name tokens = record { name = name; tokens = tokens; given = 0; waiting = [] }

-- a lock is made: a semaphore of one token
abbrev pub make_lock : List ℕ → Written → Result Semaphore Stop × Written
make_lock name j = making (entry.Lock name) (new_semaphore name 1) j

-- a semaphore is made
abbrev pub make_semaphore : List ℕ → ℕ → Written → Result Semaphore Stop × Written
make_semaphore name tokens j = making (entry.Semaphore name tokens) (new_semaphore name tokens) j

-- whether a token is free
abbrev pub has_free : Semaphore → Bool
has_free s = nat_lt s.given s.tokens

-- whether no token is held
abbrev pub is_unheld : Semaphore → Bool
is_unheld s = nat_eq s.given 0

-- the first that waits, where somebody does
abbrev pub first_waiting : Semaphore → Option ℕ
first_waiting s = slice_get s.waiting 0

-- one that asks gets a token if one is free, and waits otherwise
abbrev pub grant_of : Semaphore → Grant
grant_of s = if has_free s then Now else Waits

-- d gets a free token, or waits, last: one that waits already waits once more
abbrev pub asked : ℕ → Semaphore → Semaphore
asked d s = if has_free s then record s { given = s.given + 1 } else record s { waiting = s.waiting ++ d ∷ [] }

-- a token that is released goes to the first waiter, which waits no longer; if there is none it is free
abbrev pub released_to : List ℕ → Semaphore → Semaphore
released_to [] s = record s { given = s.given - 1 }
released_to (first ∷ rest) s = record s { waiting = rest }

-- a token is released
abbrev pub released : Semaphore → Semaphore
released s = released_to s.waiting s

-- whether d waits
abbrev pub is_waiting : ℕ → List ℕ → Bool
is_waiting d waiting = list_any (nat_eq d) waiting

-- those that wait without d; where it waits more than once, without its first place
abbrev pub without : ℕ → List ℕ → List ℕ
without d waiting = remove_key (nat_eq d) waiting

-- d waits no longer, or once less where it waits more than once
abbrev pub forgotten : ℕ → Semaphore → Semaphore
forgotten d s = record s { waiting = without d s.waiting }

-- d asks for a token, and learns whether it has one
abbrev pub acquire : ℕ → State Semaphore → Told Grant Semaphore
acquire d s = telling (entry.Acquire s.0.name d) (grant_of s.0) (asked d s.0) s

-- what a release returns, and what it leaves
abbrev pub Released : Type 0
Released = Result (Option ℕ) (Fault NotHeld) × State Semaphore

-- a token that is held is released, and the waiter that gets it is returned
abbrev pub release_held : State Semaphore → Released
release_held s =
    if fits s.1 (entry.Release s.0.name)
    then (Ok (first_waiting s.0), (released s.0, with_entry s.1 (entry.Release s.0.name))) else (Err fault.Limit, s)

-- a token is released, where one is held
abbrev pub release : State Semaphore → Released
release s = if is_unheld s.0 then (Err (fault.Refused (record {})), s) else release_held s

-- a giving back did what the rule says, or memory was refused where the rule has no other reason to refuse it, and
-- nothing changed
abbrev pub ReleasesUnlessMemory : Result (Option ℕ) (Fault NotHeld) → State Semaphore → State Semaphore → Released
    → Type 0
ReleasesUnlessMemory (Ok answer) before after rule = (Ok answer, after) ≡ rule
ReleasesUnlessMemory (Err (fault.Refused reason)) before after rule = (Err (fault.Refused reason), after) ≡ rule
ReleasesUnlessMemory (Err fault.Limit) before after rule = (Err fault.Limit, after) ≡ rule
ReleasesUnlessMemory (Err fault.OutOfMemory) before after rule =
    ((reason : NotHeld) → rule.0 ≢ Err (fault.Refused reason)) × (rule.0 ≢ Err fault.Limit) × (after ≡ before)
