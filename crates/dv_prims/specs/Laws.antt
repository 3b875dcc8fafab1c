-- What holds of every lock, semaphore, queue and DeferredList.
use Rattle.std.specs.Prelude.{◌≡◌, ◌≤◌, ◌<◌, ◌⊎◌, ℕ, true, [], length, None, Some}
use Rattle.dv_prims.specs.Tokens.{Semaphore}
use Rattle.dv_prims.specs.Queue.{Queue}
use Rattle.dv_prims.specs.DeferredList.{Gather, due}
use Rattle.dv_value.specs.declared.value.Value.{Value}

-- no more tokens are given than there are, and somebody waits only where all of them are
abbrev pub GivesAllBeforeAnyWaits : Semaphore → Type 0
GivesAllBeforeAnyWaits s = (s.given ≤ s.tokens) × (0 < length s.waiting → s.given ≡ s.tokens)

-- values are stored, or Deferreds wait, or neither
abbrev pub StoresOrIsWaitedFor : Queue → Type 0
StoresOrIsWaitedFor q = (q.stored ≡ []) ⊎ (q.waiting ≡ [])

-- a child that fires a list is the last that does: the list is fired then, and a fired one stays so and fires nothing
pub record FiresOnceAtMost (i : ℕ) (v : Value) (g : Gather) : Type 0 where
  pub ends : (value : Value) → (due i v g).0 ≡ Some value → (due i v g).1.fired ≡ true
  pub over : g.fired ≡ true → (due i v g).0 ≡ None
  pub stays : g.fired ≡ true → (due i v g).1 ≡ g

abbrev pub ListsFireOnceAtMost : Type 0
ListsFireOnceAtMost = (i : ℕ) (v : Value) (g : Gather) → FiresOnceAtMost i v g
