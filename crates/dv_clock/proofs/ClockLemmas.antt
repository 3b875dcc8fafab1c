-- What the calls of a clock keep, whatever is done with it.
use Rattle.std.proofs.Common.{◌≡◌, ◌≢◌, ℕ, zero, suc, ◌<◌, ◌≤◌, Bool, true, false, if◌then◌else◌, nat_lt, List, [], ◌∷◌}
use Rattle.std.proofs.Common.{◌++◌, length, Option, Some, None, Ok, Err, slice_get, slice_set, refl, sym, ap, ◌∙◌}
use Rattle.std.proofs.Common.{subst, arith, eqb, ⊎_elim}
use Rattle.std.proofs.lemmas.Bool.Decides.{nat_tests, eqb_tells}
use Rattle.std.specs.Option.{option_map_or}
use Rattle.dv_journal.specs.Journal.{fits, with_entry}
use Rattle.dv_journal.specs.declared.entry.Entry.{Entry}
use Rattle.dv_journal.specs.declared.entry.Entry.TheVariants as entry
use Rattle.dv_journal.specs.declared.error.Stop.TheVariants.{Limit}
use Rattle.dv_clock.specs.Clock.{Clock, Upcoming, is_waiting, next_call, first_from, due_at, due, due_found}
use Rattle.dv_clock.specs.Clock.{cancel_found, cancel_in, cancel_waiting, ended, with_end, with_call, Cancelling}
use Rattle.dv_clock.specs.Clock.{moved, new_due, reset_found, reset_in, reset_waiting, with_due}
use Rattle.dv_journal.specs.Telling.{State, Told, telling}
use Rattle.dv_clock.specs.Laws.{RunsBeforeOthers, TheFirstRunsNext, WhatIsDueRuns, Becomes, Same, Schedules, Advances}
use Rattle.dv_clock.specs.Laws.{Runs, Cancels, Resets, Drops, TimeNeverGoesBack, EndedCallsNeverRun, CallsRunOnceAtMost}
use Rattle.dv_clock.specs.declared.call.Call.{Call}
use Rattle.dv_clock.specs.declared.call.CallState.{CallState}
use Rattle.dv_clock.specs.declared.call.CallState.TheVariants.{Waiting, Called, Cancelled, Dropped}
use Rattle.dv_clock.specs.declared.delay_from.DelayFrom.{DelayFrom}
use Rattle.dv_clock.specs.declared.due.Due.{Due}
use Rattle.dv_journal.specs.declared.error.Fault.TheVariants as fault
use Rattle.dv_clock.specs.Due.{scheduling, entry_when_due}
use Rattle.dv_clock.proofs.CallsLemmas.{placed_there, others_stay}
use Rattle.dv_clock.specs.declared.due.Due.TheVariants as kind
use Rattle.dv_clock.proofs.NextLemmas.{Answers, IsFirst, first_is_first}

-- what runs next is the first of all that wait, and is due
first_is_due : (c : Clock) (u : Upcoming) → IsFirst 0 c.calls u → nat_lt c.time u.due ≡ false → RunsBeforeOthers c u
first_is_due c u a k =
    let there : u.number ≡ a.place = omega (arith, a.numbered) in
    record {
      waits = rw there a.found;
      is_due = grind (arith, nat_tests);
      soonest = λ n due what e. (a.first n (record { due = due; state = Waiting what }) e refl).0;
      in_order =
          λ n what e. let g = a.first n (record { due = u.due; state = Waiting what }) e refl in omega (arith, g);
    }

next_by : (c : Clock) (next : Upcoming) (o : Option Upcoming) → Answers 0 c.calls o → due_at c.time o ≡ Some next
    → RunsBeforeOthers c next
next_by c next None a h = absurd cc
next_by c next (Some u) a h = by_time (nat_lt c.time u.due) refl h where
  by_time : (b : Bool) → nat_lt c.time u.due ≡ b → (if b then None else Some u) ≡ Some next → RunsBeforeOthers c next
  by_time true k e = absurd cc
  by_time false k e = let same : u ≡ next = cc in subst (RunsBeforeOthers c) same (first_is_due c u a k)

pub first_runs_next : TheFirstRunsNext
first_runs_next c next h = next_by c next (first_from 0 c.calls) (first_is_first 0 c.calls) h

-- where none runs next, each that waits is due later
none_by : (c : Clock) (o : Option Upcoming) → Answers 0 c.calls o → due_at c.time o ≡ None → (n due : ℕ) (what : Due)
    → slice_get c.calls n ≡ Some (record { due = due; state = Waiting what }) → c.time < due
none_by c None a h n due what e = let k = a n (record { due = due; state = Waiting what }) e in absurd cc
none_by c (Some u) a h n due what e = by_time (nat_lt c.time u.due) refl h where
  by_time : (b : Bool) → nat_lt c.time u.due ≡ b → (if b then None else Some u) ≡ None → c.time < due
  by_time true k e' =
      let late : c.time < u.due = grind (arith, nat_tests) in
      let g = a.first n (record { due = due; state = Waiting what }) e refl in
      omega (arith, late, g)
  by_time false k e' = absurd cc

pub due_runs : WhatIsDueRuns
due_runs c h n due what e = none_by c (first_from 0 c.calls) (first_is_first 0 c.calls) h n due what e

-- what holds of a clock and of what is made of it, holds of what a call that logs leaves
either : (P : Clock → Type 0) {A : Type 0} (entry : Entry) (answer : A) (changed : Clock) (s : State Clock) (b : Bool)
    → P s.0 → P changed
    → P (let t : Told A Clock = if b then (Ok answer, (changed, with_entry s.1 entry)) else (Err Limit, s) in t.1.0)
either P entry answer changed s true h k = k
either P entry answer changed s false h k = h

told : (P : Clock → Type 0) {A : Type 0} (entry : Entry) (answer : A) (changed : Clock) (s : State Clock) → P s.0
    → P changed → P (telling entry answer changed s).1.0
told P entry answer changed s h k = either P entry answer changed s (fits s.1 entry) h k

-- what holds of a clock, and of it whatever waits no longer, holds of the result of a clock that runs or cancels
due_keeps : (P : Clock → Type 0) (s : State Clock) (o : Option Upcoming) → P s.0
    → ((n : ℕ) (state : CallState) → P (ended n state s.0)) → P (due_found o s).1.0
due_keeps P s None h k = h
due_keeps P s (Some next) h k =
    told P (entry_when_due next.what) (Some next.what) (ended next.number Called s.0) s h (k next.number Called)

uncall_keeps : (P : Clock → Type 0) (s : State Clock) (n : ℕ) (name : List ℕ) (b : Bool) → P s.0
    → P (ended n Cancelled s.0) → P (let t : Cancelling =
    if b then (Ok tt, (ended n Cancelled s.0, with_entry s.1 (entry.Uncall name))) else (Err fault.Limit, s) in t.1.0)
uncall_keeps P s n name true h k = k
uncall_keeps P s n name false h k = h

waiting_keeps : (P : Clock → Type 0) (s : State Clock) (n : ℕ) (what : Due) → P s.0 → P (ended n Cancelled s.0)
    → P (cancel_waiting n what s).1.0
waiting_keeps P s n (kind.Call name key) h k = uncall_keeps P s n name (fits s.1 (entry.Uncall name)) h k
waiting_keeps P s n (kind.Turn name key) h k = h
waiting_keeps P s n kind.Tick h k = h
waiting_keeps P s n (kind.TickIn name key) h k = h
waiting_keeps P s n (kind.Delivery job key) h k = h
waiting_keeps P s n (kind.Timeout d) h k = h

state_keeps : (P : Clock → Type 0) (s : State Clock) (n : ℕ) (state : CallState) → P s.0 → P (ended n Cancelled s.0)
    → P (cancel_in n state s).1.0
state_keeps P s n (Waiting what) h k = waiting_keeps P s n what h k
state_keeps P s n Called h k = h
state_keeps P s n Cancelled h k = h
state_keeps P s n Dropped h k = h

cancel_keeps : (P : Clock → Type 0) (s : State Clock) (n : ℕ) (o : Option Call) → P s.0 → P (ended n Cancelled s.0)
    → P (cancel_found n o s).1.0
cancel_keeps P s n None h k = h
cancel_keeps P s n (Some call) h k = state_keeps P s n call.state h k

-- and of it with a call that is due at another time, of a clock that gives a call a delay anew
moving_keeps : (P : Clock → Type 0) (s : State Clock) (n : ℕ) (name : List ℕ) (due : ℕ) (b : Bool) → P s.0
    → P (moved n due s.0) → P (let t : Cancelling =
    if b then (Ok tt, (moved n due s.0, with_entry s.1 (entry.Reset name due))) else (Err fault.Limit, s) in t.1.0)
moving_keeps P s n name due true h k = k
moving_keeps P s n name due false h k = h

waiting_moves : (P : Clock → Type 0) (s : State Clock) (n : ℕ) (from : DelayFrom) (delay due : ℕ) (what : Due) → P s.0
    → ((due : ℕ) → P (moved n due s.0)) → P (reset_waiting n from delay due what s).1.0
waiting_moves P s n from delay due (kind.Call name key) h k =
    let new = new_due from delay due s.0.time in moving_keeps P s n name new (fits s.1 (entry.Reset name new)) h (k new)
waiting_moves P s n from delay due (kind.Turn name key) h k = h
waiting_moves P s n from delay due kind.Tick h k = h
waiting_moves P s n from delay due (kind.TickIn name key) h k = h
waiting_moves P s n from delay due (kind.Delivery job key) h k = h
waiting_moves P s n from delay due (kind.Timeout d) h k = h

state_moves : (P : Clock → Type 0) (s : State Clock) (n : ℕ) (from : DelayFrom) (delay due : ℕ) (state : CallState)
    → P s.0 → ((due : ℕ) → P (moved n due s.0)) → P (reset_in n from delay due state s).1.0
state_moves P s n from delay due (Waiting what) h k = waiting_moves P s n from delay due what h k
state_moves P s n from delay due Called h k = h
state_moves P s n from delay due Cancelled h k = h
state_moves P s n from delay due Dropped h k = h

reset_keeps : (P : Clock → Type 0) (s : State Clock) (n : ℕ) (from : DelayFrom) (delay : ℕ) (o : Option Call) → P s.0
    → ((due : ℕ) → P (moved n due s.0)) → P (reset_found n from delay o s).1.0
reset_keeps P s n from delay None h k = h
reset_keeps P s n from delay (Some call) h k = state_moves P s n from delay call.due call.state h k

-- time goes on
pub time_kept : TimeNeverGoesBack
time_kept c _ Same = omega arith
time_kept c _ (Schedules d j what due b) =
    told (λ (k : Clock). c.time ≤ k.time) (scheduling what due) (length d.calls) (with_call due what d) (d, j)
    (time_kept c d b) (time_kept c d b)
time_kept c _ (Advances d j time h b) =
    let past = time_kept c d b in
    told (λ (k : Clock). c.time ≤ k.time) (entry.Advance time) tt (record d { time = time }) (d, j) past (omega arith)
time_kept c _ (Runs d j b) =
    due_keeps (λ (k : Clock). c.time ≤ k.time) (d, j) (next_call d) (time_kept c d b) (λ n state. time_kept c d b)
time_kept c _ (Cancels d j n b) =
    cancel_keeps (λ (k : Clock). c.time ≤ k.time) (d, j) n (slice_get d.calls n) (time_kept c d b) (time_kept c d b)
time_kept c _ (Resets d j n from delay b) =
    reset_keeps (λ (k : Clock). c.time ≤ k.time) (d, j) n from delay (slice_get d.calls n) (time_kept c d b)
    (λ due. time_kept c d b)
time_kept c _ (Drops d n b) = time_kept c d b

-- a call that stands in a clock
abbrev Stands : ℕ → Call → Clock → Type 0
Stands n call c = slice_get c.calls n ≡ Some call

stands_before : {X : Type 0} (xs : List X) (y : X) (n : ℕ) (x : X) → slice_get xs n ≡ Some x
    → slice_get (xs ++ y ∷ []) n ≡ Some x
stands_before [] y n x h = absurd cc
stands_before (z ∷ zs) y zero x h = h
stands_before (z ∷ zs) y (suc n) x h = stands_before zs y n x h

both : (b : Bool) → b ≡ true → b ≡ false → ⊥
both b h k = absurd cc

-- one that doesn't wait stays when another is ended
stays_beside : (calls : List Call) (n m : ℕ) (call other over : Call) → slice_get calls n ≡ Some call
    → is_waiting call.state ≡ false → slice_get calls m ≡ Some other → is_waiting other.state ≡ true
    → slice_get (slice_set calls m over) n ≡ Some call
stays_beside calls n m call other over h k g w = ⊎_elim
    (λ (t : (eqb n m ≡ true) × (n ≡ m)).
    let same : call ≡ other = (let e : Some call ≡ Some other = sym h ∙ ap (slice_get calls) t.1 ∙ g in cc) in
    absurd (both (is_waiting other.state) w (ap (λ (c : Call). is_waiting c.state) (sym same) ∙ k)))
    (λ (t : (eqb n m ≡ false) × (n ≢ m)). others_stay calls m n over t.1 ∙ h)
    (eqb_tells n m)

stays_by : (calls : List Call) (n m : ℕ) (call other : Call) (state : CallState) (w : Bool)
    → slice_get calls n ≡ Some call → is_waiting call.state ≡ false → slice_get calls m ≡ Some other
    → is_waiting other.state ≡ w
    → slice_get (if w then slice_set calls m (record other { state = state }) else calls) n ≡ Some call
stays_by calls n m call other state true h k g w =
    stays_beside calls n m call other (record other { state = state }) h k g w
stays_by calls n m call other state false h k g w = h

stays_found : (calls : List Call) (n m : ℕ) (call : Call) (state : CallState) (o : Option Call)
    → slice_get calls n ≡ Some call → is_waiting call.state ≡ false → slice_get calls m ≡ o
    → slice_get (option_map_or (λ other. with_end m state other calls) o calls) n ≡ Some call
stays_found calls n m call state None h k g = h
stays_found calls n m call state (Some other) h k g =
    stays_by calls n m call other state (is_waiting other.state) h k g refl

ended_stays : (d : Clock) (n m : ℕ) (call : Call) (state : CallState) → Stands n call d → is_waiting call.state ≡ false
    → Stands n call (ended m state d)
ended_stays d n m call state h k = stays_found d.calls n m call state (slice_get d.calls m) h k refl

-- and when another is due at another time
moves_by : (calls : List Call) (n m : ℕ) (call other : Call) (due : ℕ) (w : Bool) → slice_get calls n ≡ Some call
    → is_waiting call.state ≡ false → slice_get calls m ≡ Some other → is_waiting other.state ≡ w
    → slice_get (if w then slice_set calls m (record other { due = due }) else calls) n ≡ Some call
moves_by calls n m call other due true h k g w =
    stays_beside calls n m call other (record other { due = due }) h k g w
moves_by calls n m call other due false h k g w = h

moves_found : (calls : List Call) (n m : ℕ) (call : Call) (due : ℕ) (o : Option Call)
    → slice_get calls n ≡ Some call → is_waiting call.state ≡ false → slice_get calls m ≡ o
    → slice_get (option_map_or (λ other. with_due m due other calls) o calls) n ≡ Some call
moves_found calls n m call due None h k g = h
moves_found calls n m call due (Some other) h k g =
    moves_by calls n m call other due (is_waiting other.state) h k g refl

moved_stays : (d : Clock) (n m : ℕ) (call : Call) (due : ℕ) → Stands n call d → is_waiting call.state ≡ false
    → Stands n call (moved m due d)
moved_stays d n m call due h k = moves_found d.calls n m call due (slice_get d.calls m) h k refl

-- one that doesn't wait stays, whatever is done
stays : (c d : Clock) (n : ℕ) (call : Call) → Stands n call c → is_waiting call.state ≡ false → Becomes c d
    → Stands n call d
stays c _ n call h k Same = h
stays c _ n call h k (Schedules d j what due b) =
    let before = stays c d n call h k b in
    told (Stands n call) (scheduling what due) (length d.calls) (with_call due what d) (d, j) before
    (stands_before d.calls (record { due = due; state = Waiting what }) n call before)
stays c _ n call h k (Advances d j time g b) =
    let before = stays c d n call h k b in
    told (Stands n call) (entry.Advance time) tt (record d { time = time }) (d, j) before before
stays c _ n call h k (Runs d j b) =
    let before = stays c d n call h k b in
    due_keeps (Stands n call) (d, j) (next_call d) before (λ m state. ended_stays d n m call state before k)
stays c _ n call h k (Cancels d j m b) =
    let before = stays c d n call h k b in
    cancel_keeps (Stands n call) (d, j) m (slice_get d.calls m) before (ended_stays d n m call Cancelled before k)
stays c _ n call h k (Resets d j m from delay b) =
    let before = stays c d n call h k b in
    reset_keeps (Stands n call) (d, j) m from delay (slice_get d.calls m) before
    (λ due. moved_stays d n m call due before k)
stays c _ n call h k (Drops d m b) = ended_stays d n m call Dropped (stays c d n call h k b) k

-- so it never runs
pub ended_never_run : EndedCallsNeverRun
ended_never_run c d n call next h k b r = λ same.
    let there = stays c d n call h k b in
    let waits = (first_runs_next d next r).waits in
    let e : Some call ≡ Some (record { due = next.due; state = Waiting next.what }) =
    sym there ∙ ap (slice_get d.calls) (sym same) ∙ waits in
    let other : call ≡ record { due = next.due; state = Waiting next.what } = cc in
    both (is_waiting call.state) (ap (λ (x : Call). is_waiting x.state) other) k

-- and what runs has been called from then on
pub run_once : CallsRunOnceAtMost
run_once c d j once again h f b r =
    let waits = (first_runs_next c once h).waits in
    let called : Stands once.number (record { due = once.due; state = Called }) (due (c, j)).1.0 =
    rw (h, f, waits) (placed_there c.calls once.number (record { due = once.due; state = Waiting once.what })
    (record { due = once.due; state = Called }) waits) in
    ended_never_run (due (c, j)).1.0 d once.number (record { due = once.due; state = Called }) again called refl b r
