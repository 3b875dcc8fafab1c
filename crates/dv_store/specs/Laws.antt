-- What holds of every Deferred, whatever its pairs are.
use Rattle.std.specs.Prelude.{◌≡◌, ℕ, ◌+◌, ◌<◌, Bool, false, if◌then◌else◌, List, length, sum_by, Result, Ok, Err}
use Rattle.std.specs.Prelude.{slice_get}
use Rattle.std.specs.Option.{option_map_or}
use Rattle.dv_value.specs.declared.value.Value.{Value}
use Rattle.dv_journal.specs.Journal.{fits}
use Rattle.dv_journal.specs.declared.entry.Entry.TheVariants.{Refuse}
use Rattle.dv_journal.specs.declared.error.Stop.{Stop}
use Rattle.dv_store.specs.Fire.{with_swallows, fire}
use Rattle.dv_store.specs.Callbacks.{step}
use Rattle.dv_store.specs.Record.{changing}
use Rattle.dv_store.specs.State.{State}
use Rattle.dv_store.specs.declared.record.Record.{Record}
use Rattle.dv_store.specs.declared.error.AlreadyCalled.{AlreadyCalled}
use Rattle.dv_journal.specs.declared.error.Fault.{Fault}
use Rattle.dv_journal.specs.declared.error.Fault.TheVariants as fault
use Rattle.dv_store.specs.declared.store.Fired.{Fired}
use Rattle.dv_store.specs.declared.store.Fired.TheVariants.{Set, Swallowed}
use Rattle.dv_store.specs.declared.store.Step.{Step}
use Rattle.dv_store.specs.declared.store.Step.TheVariants.{Nothing, Passed, Run, Handed}

-- the refusal of a second firing, or the limit where there is no room to log it
abbrev pub second_answer : {P K : Type 0} → ℕ → State P K → Result Fired (Fault AlreadyCalled)
second_answer id s = if fits s.1 (Refuse id) then Err (fault.Refused (record {})) else Err fault.Limit

-- whether a further firing of a Deferred is swallowed
abbrev pub swallows_next : {P K : Type 0} → ℕ → List (Record P K) → Bool
swallows_next id rs = option_map_or (λ r. r.swallows) (slice_get rs id) false

-- after a firing, a second one is refused unless it is to be swallowed, and no record changes
abbrev pub SecondFiringChangesNothing : Type 0 → Type 0 → Type 0
SecondFiringChangesNothing P K =
    (id : ℕ) (first second : Value) (s : State P K) → id < length s.0 → swallows_next id s.0 ≡ false
    → (fire id first s).0 ≡ Ok Set →
    ((fire id second (fire id first s).1).0 ≡ second_answer id (fire id first s).1)
    × ((fire id second (fire id first s).1).1.0 ≡ (fire id first s).1.0)

-- a firing that is swallowed changes nothing but that the next one isn't swallowed
abbrev pub OneFiringIsSwallowed : Type 0 → Type 0 → Type 0
OneFiringIsSwallowed P K = (id : ℕ) (value : Value) (s : State P K) → (fire id value s).0 ≡ Ok Swallowed →
    ((fire id value s).1.0 ≡ changing id (with_swallows false) s.0) × (swallows_next id (fire id value s).1.0 ≡ false)

-- how many items of all Deferreds aren't used yet
abbrev pub unused_items : {P K : Type 0} → List (Record P K) → ℕ
unused_items rs = sum_by (λ r. length r.items) rs

-- how many items a move has used
abbrev pub used : {P : Type 0} → Step P → ℕ
used Nothing = 0
used Passed = 1
used (Run pair) = 1
used (Handed c) = 1

-- how many items a step has used
abbrev pub items_used : {P : Type 0} → Result (Step P) Stop → ℕ
items_used (Ok move) = used move
items_used (Err stop) = 0

-- a step uses one item at most, and adds none
abbrev pub StepUsesOneItemAtMost : (P K : Type 0) → (P → Bool → Bool) → Type 0
StepUsesOneItemAtMost P K passes_at = (id : ℕ) (s : State P K) →
    unused_items (step passes_at id s).1.0 + items_used (step passes_at id s).0 ≡ unused_items s.0
