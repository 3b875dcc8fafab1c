-- Queues (Twisted: `DeferredQueue`).
use Rattle.std.specs.Prelude.{◌≡◌, ◌≢◌, ℕ, Bool, true, nat_lt, if◌then◌else◌, List, [], ◌∷◌, ◌++◌, length, Option, None}
use Rattle.std.specs.Prelude.{Some, Result, Ok, Err, slice_get}
use Rattle.dv_value.specs.declared.value.Value.{Value}
use Rattle.dv_journal.specs.Journal.{Written, fits, with_entry}
use Rattle.dv_journal.specs.declared.entry.Entry.TheVariants as entry
use Rattle.dv_journal.specs.declared.error.Stop.{Stop}
use Rattle.dv_journal.specs.Telling.{State, Told, telling, making}
use Rattle.dv_prims.specs.Tokens.{without}
use Rattle.dv_prims.specs.declared.error.Overflow.{Overflow}
use Rattle.dv_journal.specs.declared.error.Fault.{Fault}
use Rattle.dv_journal.specs.declared.error.Fault.TheVariants as fault

-- its name, how many values it stores at most and how many wait at most, none where there is no bound; the values that
-- are stored, from the one that was put first; and the waiters for one, in order of asking
pub record Queue : Type 0 where
  pub name : List ℕ
  pub size : Option ℕ
  pub backlog : Option ℕ
  pub stored : List Value
  pub waiting : List ℕ

-- nothing is stored at first, and none waits
abbrev pub new_queue : List ℕ → Option ℕ → Option ℕ → Queue
new_queue name size backlog = record { name = name; size = size; backlog = backlog; stored = []; waiting = [] }

-- a queue is made
abbrev pub make_queue : List ℕ → Option ℕ → Option ℕ → Written → Result Queue Stop × Written
make_queue name size backlog j = making (entry.Queue name size backlog) (new_queue name size backlog) j

-- whether there is room for one more than n
abbrev pub has_room : ℕ → Option ℕ → Bool
has_room n None = true
has_room n (Some most) = nat_lt n most

-- a value may be put where somebody waits for one, and else where there is room for it
abbrev pub may_put_by : List ℕ → Queue → Bool
may_put_by [] q = has_room (length q.stored) q.size
may_put_by (first ∷ rest) q = true

abbrev pub may_put : Queue → Bool
may_put q = may_put_by q.waiting q

-- a value may be asked for where one is stored, and else where fewer wait than may
abbrev pub may_get_by : List Value → Queue → Bool
may_get_by [] q = has_room (length q.waiting) q.backlog
may_get_by (first ∷ rest) q = true

abbrev pub may_get : Queue → Bool
may_get q = may_get_by q.stored q

-- a value goes to the first waiter, which waits no longer; if there is none it is stored, last
abbrev pub put_to : List ℕ → Value → Queue → Queue
put_to [] value q = record q { stored = q.stored ++ value ∷ [] }
put_to (first ∷ rest) value q = record q { waiting = rest }

-- the waiter that gets a value, and the value, if there is a waiter
abbrev pub receiver : List ℕ → Value → Option (ℕ × Value)
receiver [] value = None
receiver (first ∷ rest) value = Some (first, value)

-- d gets the first value that is stored; with none stored it waits, last: one that waits already waits once more
abbrev pub got_from : List Value → ℕ → Queue → Queue
got_from [] d q = record q { waiting = q.waiting ++ d ∷ [] }
got_from (first ∷ rest) d q = record q { stored = rest }

-- d asks for a value, and learns which it has, if it doesn't wait
abbrev pub get : ℕ → State Queue → Told (Option Value) Queue
get d s = telling (entry.Get s.0.name d) (slice_get s.0.stored 0) (got_from s.0.stored d s.0) s

-- d waits no longer, or once less where it waits more than once
abbrev pub withdrawn : ℕ → Queue → Queue
withdrawn d q = record q { waiting = without d q.waiting }

-- what a putting answers, and what it leaves
abbrev pub Put : Type 0
Put = Result (Option (ℕ × Value)) (Fault Overflow) × State Queue

-- a value that may be put is, and the waiter that gets it is returned
abbrev pub put_in : Value → State Queue → Put
put_in value s =
    if fits s.1 (entry.Put s.0.name value)
    then (Ok (receiver s.0.waiting value), (put_to s.0.waiting value s.0, with_entry s.1 (entry.Put s.0.name value)))
    else (Err fault.Limit, s)

-- a value is put, where it may be
abbrev pub put : Value → State Queue → Put
put value s = if may_put s.0 then put_in value s else (Err (fault.Refused (record {})), s)

-- a putting did what the rule says, or memory was refused where the rule has no other reason to refuse it, and nothing
-- changed
abbrev pub PutsUnlessMemory : Result (Option (ℕ × Value)) (Fault Overflow) → State Queue → State Queue → Put → Type 0
PutsUnlessMemory (Ok answer) before after rule = (Ok answer, after) ≡ rule
PutsUnlessMemory (Err (fault.Refused reason)) before after rule = (Err (fault.Refused reason), after) ≡ rule
PutsUnlessMemory (Err fault.Limit) before after rule = (Err fault.Limit, after) ≡ rule
PutsUnlessMemory (Err fault.OutOfMemory) before after rule =
    ((reason : Overflow) → rule.0 ≢ Err (fault.Refused reason)) × (rule.0 ≢ Err fault.Limit) × (after ≡ before)
