-- In which order a lock or a semaphore grants its tokens, as its journal logs it (Twisted: `DeferredLock`,
-- `DeferredSemaphore`).
use Rattle.std.specs.Prelude.{ℕ, suc, ◌≡◌, ◌≤◌, ◌<◌, length, Bool, false, if◌then◌else◌, bytes_eq, List, [], ◌∷◌, ◌++◌}
use Rattle.std.specs.Prelude.{Option}
use Rattle.std.specs.Prelude.{None, Some, sum_by}
use Rattle.dv_value.specs.declared.value.Value.{Text}
use Rattle.dv_journal.specs.declared.entry.Entry.{Entry}
use Rattle.dv_journal.specs.declared.entry.Entry.TheVariants as entry
use Rattle.dv_prims.specs.Tokens.{without}
use Rattle.dv_script.specs.declared.script.Script.{Script}
use Rattle.dv_engine.specs.Report.{Reports}
use Rattle.dv_engine.specs.declared.report.Report.{Report}
use Rattle.dv_laws.specs.Served.{Firing, IsTakenOut}
use Rattle.dv_laws.specs.Tokens.{Holding, Unheld, MakesTokens, AsksOf, ReleasesOf, holding_of, asks_by, releases_by}

-- how many locks and semaphores of a name are made, as is logged
abbrev pub lock_made_by : List ℕ → Holding → ℕ
lock_made_by name Unheld = 0
lock_made_by name (MakesTokens lock tokens) = if bytes_eq lock name then 1 else 0
lock_made_by name (AsksOf lock) = 0
lock_made_by name (ReleasesOf lock) = 0

abbrev pub locks_made : List ℕ → List Entry → ℕ
locks_made name entries = sum_by (λ e. lock_made_by name (holding_of e)) entries

-- a lock by what was logged: how many tokens it has, and how many of them are free; who waits for one, from who asked
-- first; and who was granted one by the last entry
pub record Tokens : Type 0 where
  pub all : ℕ
  pub free : ℕ
  pub waiting : List ℕ
  pub granted : Option ℕ

abbrev pub tokens : ℕ → ℕ → List ℕ → Option ℕ → Tokens
tokens all free waiting granted = record { all = all; free = free; waiting = waiting; granted = granted }

-- what the next entry makes of a lock. A Deferred that asks is granted a token that is free, or waits, last. One is
-- released only if one is held, and is granted to the first that waits, or is free. Who is granted one is fired with
-- the name of the lock by the entry after that, or refuses that. One that waits leaves where a cancel fires it. Any
-- other entry leaves the lock as it is
pub data Next (name : List ℕ) (told : List Entry) : Tokens → Entry → Tokens → Type 0 where
  MakesLock : Next name told (tokens 0 0 [] None) (entry.Lock name) (tokens 1 1 [] None)
  MakesSemaphore : (all : ℕ) → Next name told (tokens 0 0 [] None) (entry.Semaphore name all) (tokens all all [] None)
  Grants : (all free d : ℕ)
      → Next name told (tokens all (suc free) [] None) (entry.Acquire name d) (tokens all free [] (Some d))
  Waits : (all : ℕ) (waiting : List ℕ) (d : ℕ)
      → Next name told (tokens all 0 waiting None) (entry.Acquire name d) (tokens all 0 (waiting ++ d ∷ []) None)
  Passes : (all d : ℕ) (rest : List ℕ) → 0 < all
      → Next name told (tokens all 0 (d ∷ rest) None) (entry.Release name) (tokens all 0 rest (Some d))
  Frees : (all free : ℕ) → free < all
      → Next name told (tokens all free [] None) (entry.Release name) (tokens all (suc free) [] None)
  Fires : (all free : ℕ) (waiting : List ℕ) (d : ℕ) (e : Entry) → Firing d (Text name) e
      → Next name told (tokens all free waiting (Some d)) e (tokens all free waiting None)
  Leaves : (all free : ℕ) (waiting : List ℕ) (d : ℕ) (e : Entry) → IsTakenOut d waiting told e
      → Next name told (tokens all free waiting None) e (tokens all free (without d waiting) None)
  Rests : (all free : ℕ) (waiting : List ℕ) (e : Entry) → lock_made_by name (holding_of e) ≡ 0
      → asks_by name (holding_of e) ≡ 0 → releases_by name (holding_of e) ≡ 0
      → ((d : ℕ) → IsTakenOut d waiting told e → ⊥)
      → Next name told (tokens all free waiting None) e (tokens all free waiting None)

-- what all entries make of a lock, which isn't made at first
pub data Leads (name : List ℕ) : List Entry → Tokens → Type 0 where
  Begins : Leads name [] (tokens 0 0 [] None)
  Goes : (told : List Entry) (e : Entry) (before after : Tokens) → Leads name told before
      → Next name told before e after → Leads name (told ++ e ∷ []) after

-- each entry is one that may come next; at the end of a run that hasn't stopped, each that was granted a token was
-- fired
pub record GrantsInOrder (name : List ℕ) (entries : List Entry) (stopped : Bool) : Type 0 where
  pub after : Tokens
  pub leads : Leads name entries after
  pub fired : stopped ≡ false → after.granted ≡ None

-- in a run a lock or a semaphore whose name is given once grants its tokens in the order in which they are asked for,
-- by its report
abbrev pub LocksServeInOrder : Type 0
LocksServeInOrder =
    (script : Script) (report : Report) → Reports script report → (name : List ℕ)
    → locks_made name report.journal.entries ≤ 1 → GrantsInOrder name report.journal.entries report.stopped

-- so at each place no more tokens of a lock are free than it has, and a Deferred waits for one only if none is free
abbrev pub NobodyWaitsForAFreeToken : Type 0
NobodyWaitsForAFreeToken =
    (name : List ℕ) (told : List Entry) (t : Tokens) → Leads name told t
    → (t.free ≤ t.all) × (0 < length t.waiting → t.free ≡ 0)
