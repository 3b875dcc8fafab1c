-- Delayed calls, and the time that they wait for (Twisted: `Clock`, `DelayedCall`).
use Rattle.std.specs.Prelude.{◌≡◌, ◌≢◌, ℕ, ◌+◌, min, max, Bool, true, false, ◌&&◌, nat_eq, nat_lt, if◌then◌else◌, List}
use Rattle.std.specs.Prelude.{[]}
use Rattle.std.specs.Prelude.{◌∷◌, ◌++◌, length, Option, Some, None, Result, Ok, Err, slice_get, slice_set}
use Rattle.std.specs.BTreeMap.{is_at}
use Rattle.std.specs.BTreeSet.{BTreeSet, contains}
use Rattle.std.specs.Option.{option_map_or}
use Rattle.std.specs.Ordering.{nat_cmp, ordering_then, is_gt}
use Rattle.std.specs.declared.cmp.Ordering.{Ordering}
use Rattle.dv_journal.specs.Journal.{fits, with_entry}
use Rattle.dv_journal.specs.declared.entry.Entry.TheVariants as entry
use Rattle.dv_clock.specs.Due.{scheduling, entry_when_due}
use Rattle.dv_clock.specs.LoopingCall.{loop_next}
use Rattle.dv_journal.specs.Telling.{State, Told, untold, telling}
use Rattle.dv_clock.specs.declared.call.Call.{Call}
use Rattle.dv_clock.specs.declared.call.CallState.{CallState}
use Rattle.dv_clock.specs.declared.call.CallState.TheVariants.{Waiting, Called, Cancelled, Dropped}
use Rattle.dv_clock.specs.declared.delay_from.DelayFrom.{DelayFrom}
use Rattle.dv_clock.specs.declared.delay_from.DelayFrom.TheVariants as from
use Rattle.dv_clock.specs.declared.limits.TheConstants.{MOST_DUE}
use Rattle.dv_clock.specs.declared.due.Due.{Due}
use Rattle.dv_clock.specs.declared.due.Due.TheVariants as kind
use Rattle.dv_clock.specs.declared.error.Over.{Over}
use Rattle.dv_clock.specs.declared.error.Over.TheVariants as over
use Rattle.dv_journal.specs.declared.error.Fault.{Fault}
use Rattle.dv_journal.specs.declared.error.Fault.TheVariants as fault

-- the time, and all calls that were scheduled, in order of number
pub record Clock : Type 0 where
  pub time : ℕ
  pub calls : List Call

-- time begins at 0, and nothing is scheduled
abbrev pub new_clock : Clock
new_clock = record { time = 0; calls = [] }

-- a call that waits: the time that it is due at, its number, and what it is
pub record Upcoming : Type 0 where
  pub due : ℕ
  pub number : ℕ
  pub what : Due

-- calls run by the time that they are due at, and then in the order in which they were scheduled
abbrev pub by_due : ℕ × ℕ → ℕ × ℕ → Ordering
by_due a b = ordering_then (nat_cmp a.0 b.0) (nat_cmp a.1 b.1)

-- the one that runs first of two
abbrev pub sooner : Upcoming → Upcoming → Upcoming
sooner a b = if is_gt (by_due (a.due, a.number) (b.due, b.number)) then b else a

-- the same, where there may be none
abbrev pub first_of : Option Upcoming → Option Upcoming → Option Upcoming
first_of None b = b
first_of (Some a) None = Some a
first_of (Some a) (Some b) = Some (sooner a b)

-- the call of a number, where it waits
abbrev pub upcoming_in : ℕ → ℕ → CallState → Option Upcoming
upcoming_in number due (Waiting what) = Some (record { due = due; number = number; what = what })
upcoming_in number due Called = None
upcoming_in number due Cancelled = None
upcoming_in number due Dropped = None

abbrev pub upcoming : ℕ → Call → Option Upcoming
upcoming number call = upcoming_in number call.due call.state

-- the one that runs first of those that wait, from a number on
abbrev pub first_from : ℕ → List Call → Option Upcoming
first_from number [] = None
first_from number (call ∷ calls) = first_of (upcoming number call) (first_from (number + 1) calls)

-- it is due, where its time isn't later than now
abbrev pub due_at : ℕ → Option Upcoming → Option Upcoming
due_at now None = None
due_at now (Some call) = if nat_lt now call.due then None else Some call

-- the call that runs next: the first of all that wait, where it is due
abbrev pub next_call : Clock → Option Upcoming
next_call c = due_at c.time (first_from 0 c.calls)

-- what a call is, where it waits
abbrev pub what_in : CallState → Option Due
what_in (Waiting what) = Some what
what_in Called = None
what_in Cancelled = None
what_in Dropped = None

-- whether it waits
abbrev pub is_waiting : CallState → Bool
is_waiting (Waiting what) = true
is_waiting Called = false
is_waiting Cancelled = false
is_waiting Dropped = false

-- a call waits no longer, since it was called, cancelled or dropped; one that doesn't wait stays as it is
abbrev pub with_end : ℕ → CallState → Call → List Call → List Call
with_end number state call calls =
    if is_waiting call.state then slice_set calls number (record call { state = state }) else calls

abbrev pub ended : ℕ → CallState → Clock → Clock
ended number state c =
    record c { calls = option_map_or (λ call. with_end number state call c.calls) (slice_get c.calls number) c.calls }

-- one call more, which waits
abbrev pub with_call : ℕ → Due → Clock → Clock
with_call due what c = record c { calls = c.calls ++ (record { due = due; state = Waiting what }) ∷ [] }

-- a call is scheduled, due at this time, and its number is returned
abbrev pub scheduled_at : Due → ℕ → State Clock → Told ℕ Clock
scheduled_at what due s = telling (scheduling what due) (length s.0.calls) (with_call due what s.0) s

-- a call is scheduled, due so much later than now
abbrev pub later : Due → ℕ → State Clock → Told ℕ Clock
later what delay s = scheduled_at what (s.0.time + delay) s

-- when the next turn is due of a loop that was started then; a start that isn't past yet counts as now
abbrev pub turn_after : ℕ → ℕ → Clock → ℕ
turn_after start interval c = loop_next (min start c.time) interval c.time

-- the next turn of a loop is scheduled
abbrev pub next_turn : Due → ℕ → ℕ → State Clock → Told ℕ Clock
next_turn what start interval s = scheduled_at what (turn_after start interval s.0) s

-- time goes on
abbrev pub advance_to : ℕ → State Clock → Told Unit Clock
advance_to time s = telling (entry.Advance time) tt (record s.0 { time = time }) s

-- the call that runs next has been called from now on, and what it is, is returned
abbrev pub due_found : Option Upcoming → State Clock → Told (Option Due) Clock
due_found None s = untold None s
due_found (Some call) s = telling (entry_when_due call.what) (Some call.what) (ended call.number Called s.0) s

abbrev pub due : State Clock → Told (Option Due) Clock
due s = due_found (next_call s.0) s

-- what a cancelling or a resetting answers, and what it leaves
abbrev pub Cancelling : Type 0
Cancelling = Result Unit (Fault Over) × State Clock

-- the entry is written and then the call waits no longer, or the entry doesn't fit and nothing changes
abbrev pub uncall : ℕ → List ℕ → State Clock → Cancelling
uncall number name s =
    if fits s.1 (entry.Uncall name)
    then (Ok tt, (ended number Cancelled s.0, with_entry s.1 (entry.Uncall name)))
    else (Err fault.Limit, s)

-- a call of the script that waits is cancelled; what else waits is left alone
abbrev pub cancel_waiting : ℕ → Due → State Clock → Cancelling
cancel_waiting number (kind.Call name key) s = uncall number name s
cancel_waiting number (kind.Turn name key) s = (Ok tt, s)
cancel_waiting number kind.Tick s = (Ok tt, s)
cancel_waiting number (kind.TickIn name key) s = (Ok tt, s)
cancel_waiting number (kind.Delivery job key) s = (Ok tt, s)
cancel_waiting number (kind.Timeout d) s = (Ok tt, s)

-- a call that waits no longer isn't cancelled
abbrev pub cancel_in : ℕ → CallState → State Clock → Cancelling
cancel_in number (Waiting what) s = cancel_waiting number what s
cancel_in number Called s = (Err (fault.Refused over.Called), s)
cancel_in number Cancelled s = (Err (fault.Refused over.Cancelled), s)
cancel_in number Dropped s = (Err (fault.Refused over.Cancelled), s)

-- a call is cancelled; a number of no call changes nothing
abbrev pub cancel_found : ℕ → Option Call → State Clock → Cancelling
cancel_found number None s = (Ok tt, s)
cancel_found number (Some call) s = cancel_in number call.state s

abbrev pub cancel : ℕ → State Clock → Cancelling
cancel number s = cancel_found number (slice_get s.0.calls number) s

-- when a call is due that gets a delay anew: so much later than now, or than it was due before; never before now, and
-- no later than calls may be due
abbrev pub new_due : DelayFrom → ℕ → ℕ → ℕ → ℕ
new_due from.Now delay due now = now + delay
new_due from.Due delay due now = max (min (due + delay) MOST_DUE) now

-- a call that waits is due then from now on, and keeps its number; one that doesn't wait stays as it is
abbrev pub with_due : ℕ → ℕ → Call → List Call → List Call
with_due number due call calls =
    if is_waiting call.state then slice_set calls number (record call { due = due }) else calls

abbrev pub moved : ℕ → ℕ → Clock → Clock
moved number due c =
    record c { calls = option_map_or (λ call. with_due number due call c.calls) (slice_get c.calls number) c.calls }

-- the entry is written and then the call is due at that time, or the entry doesn't fit and nothing changes
abbrev pub move_call : ℕ → List ℕ → ℕ → State Clock → Cancelling
move_call number name due s =
    if fits s.1 (entry.Reset name due)
    then (Ok tt, (moved number due s.0, with_entry s.1 (entry.Reset name due)))
    else (Err fault.Limit, s)

-- a call of the script that waits gets a delay anew; what else waits is left alone
abbrev pub reset_waiting : ℕ → DelayFrom → ℕ → ℕ → Due → State Clock → Cancelling
reset_waiting number from delay due (kind.Call name key) s = move_call number name (new_due from delay due s.0.time) s
reset_waiting number from delay due (kind.Turn name key) s = (Ok tt, s)
reset_waiting number from delay due kind.Tick s = (Ok tt, s)
reset_waiting number from delay due (kind.TickIn name key) s = (Ok tt, s)
reset_waiting number from delay due (kind.Delivery job key) s = (Ok tt, s)
reset_waiting number from delay due (kind.Timeout d) s = (Ok tt, s)

-- a call that waits no longer gets no delay
abbrev pub reset_in : ℕ → DelayFrom → ℕ → ℕ → CallState → State Clock → Cancelling
reset_in number from delay due (Waiting what) s = reset_waiting number from delay due what s
reset_in number from delay due Called s = (Err (fault.Refused over.Called), s)
reset_in number from delay due Cancelled s = (Err (fault.Refused over.Cancelled), s)
reset_in number from delay due Dropped s = (Err (fault.Refused over.Cancelled), s)

-- a call gets a delay anew; a number of no call changes nothing
abbrev pub reset_found : ℕ → DelayFrom → ℕ → Option Call → State Clock → Cancelling
reset_found number from delay None s = (Ok tt, s)
reset_found number from delay (Some call) s = reset_in number from delay call.due call.state s

abbrev pub reset : ℕ → DelayFrom → ℕ → State Clock → Cancelling
reset number from delay s = reset_found number from delay (slice_get s.0.calls number) s

-- a cancelling or a resetting did what the rule says, or ran out of memory where the rule has no other reason to refuse
-- it, and nothing changed
abbrev pub CancelsUnlessMemory : Result Unit (Fault Over) → State Clock → State Clock → Cancelling → Type 0
CancelsUnlessMemory (Ok done) before after rule = (Ok done, after) ≡ rule
CancelsUnlessMemory (Err (fault.Refused reason)) before after rule = (Err (fault.Refused reason), after) ≡ rule
CancelsUnlessMemory (Err fault.Limit) before after rule = (Err fault.Limit, after) ≡ rule
CancelsUnlessMemory (Err fault.OutOfMemory) before after rule =
    ((reason : Over) → rule.0 ≢ Err (fault.Refused reason)) × (rule.0 ≢ Err fault.Limit) × (after ≡ before)

-- what the call of a number is, where it waits
abbrev pub what_of : ℕ → List Call → Option Due
what_of number calls = option_map_or (λ call. what_in call.state) (slice_get calls number) None

-- the time that the call of a number is due at, where it waits
abbrev pub due_in : Call → Option ℕ
due_in call = if is_waiting call.state then Some call.due else None

abbrev pub due_of : ℕ → List Call → Option ℕ
due_of number calls = option_map_or due_in (slice_get calls number) None

-- a number and what is scheduled under it
abbrev pub with_number : ℕ → Due → ℕ × Due
with_number number what = (number, what)

abbrev pub numbered : Upcoming → ℕ × Due
numbered call = (call.number, call.what)

-- whether the call of a number waits
abbrev pub waits : ℕ → List Call → Bool
waits number calls = option_map_or (λ call. is_waiting call.state) (slice_get calls number) false

-- whether a call was called
abbrev pub was_called : CallState → Bool
was_called (Waiting what) = false
was_called Called = true
was_called Cancelled = false
was_called Dropped = false

-- whether the call of a number has run
abbrev pub has_run : ℕ → List Call → Bool
has_run number calls = option_map_or (λ call. was_called call.state) (slice_get calls number) false

-- whether it waits for this time
abbrev pub waits_at : ℕ × ℕ → List Call → Bool
waits_at place calls =
    option_map_or (λ call. nat_eq call.due place.0 && is_waiting call.state) (slice_get calls place.1) false

-- those that wait are found by the times that they are due at and their numbers
abbrev pub IsIndexOf : BTreeSet (ℕ × ℕ) → List Call → Type 0
IsIndexOf index calls = (place : ℕ × ℕ) → contains by_due index place ≡ waits_at place calls

-- a place joins an index
abbrev pub Joins : BTreeSet (ℕ × ℕ) → BTreeSet (ℕ × ℕ) → ℕ × ℕ → Type 0
Joins old new place =
    (other : ℕ × ℕ)
    → contains by_due new other ≡ (if is_at (by_due place) other then true else contains by_due old other)

-- a place leaves an index
abbrev pub Leaves : BTreeSet (ℕ × ℕ) → BTreeSet (ℕ × ℕ) → ℕ × ℕ → Type 0
Leaves old new place =
    (other : ℕ × ℕ)
    → contains by_due new other ≡ (if is_at (by_due place) other then false else contains by_due old other)

-- an index has the places that it had
abbrev pub Keeps : BTreeSet (ℕ × ℕ) → BTreeSet (ℕ × ℕ) → Type 0
Keeps old new = (other : ℕ × ℕ) → contains by_due new other ≡ contains by_due old other
