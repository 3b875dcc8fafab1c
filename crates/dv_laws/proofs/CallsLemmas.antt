-- What is scheduled is run once at most, not after it was cancelled and not before its time.
use Rattle.std.proofs.Common.{◌≡◌, ℕ, zero, suc, ◌+◌, ◌≤◌, ◌++◌, min, Bool, true, false, nat_eq, List, [], ◌∷◌, Option}
use Rattle.std.proofs.Common.{None, Some, refl, sym, ap, subst, ◌∙◌, arith, append_assoc, slice_get, slice_set, cond}
use Rattle.std.proofs.Common.{length, sum_by, ◌⊎◌, inl, inr}
use Rattle.std.specs.Option.{option_map_or}
use Rattle.std.proofs.lemmas.List.Sums.{sum_by_push, sum_by-set, fold-append}
use Rattle.std.proofs.lemmas.Option.{none-some, slice_get_within, get_or_from_slice_get}
use Rattle.dv_clock.specs.Clock.{Clock, Upcoming, next_call, with_call, ended, moved, with_end, is_waiting}
use Rattle.dv_clock.specs.Due.{scheduling, entry_when_due}
use Rattle.dv_clock.specs.declared.call.Call.{Call}
use Rattle.dv_clock.specs.declared.call.CallState.{CallState}
use Rattle.dv_clock.specs.declared.call.CallState.TheVariants as call_state
use Rattle.dv_clock.specs.declared.due.Due.{Due}
use Rattle.dv_clock.specs.declared.due.Due.TheVariants as what
use Rattle.dv_clock.specs.declared.limits.TheConstants.{MOST_TICKS}
use Rattle.dv_clock.proofs.ClockLemmas.{first_runs_next}
use Rattle.dv_journal.specs.declared.entry.Entry.{Entry}
use Rattle.dv_journal.specs.declared.entry.Entry.TheVariants as entry
use Rattle.dv_journal.specs.Told.{Timed, Called, Ticking, TickingIn, Delivered, TimedOut}
use Rattle.dv_objects.specs.Objects.{Objects, naming_where}
use Rattle.dv_objects.specs.Refusals.{cancelled}
use Rattle.dv_posts.specs.Batches.{Batch}
use Rattle.dv_loop.specs.Meaning.{Means}
use Rattle.dv_script.specs.declared.script.Script.{Script}
use Rattle.dv_world.specs.World.{World}
use Rattle.dv_laws.specs.Calls.{count_of, scheduled_by, ended_by, schedulings, endings, later_of, run_of, time_after}
use Rattle.dv_laws.specs.Calls.{time_by, IsSetFor, Scheduled, Reset, WasDue, RunsInTime, CallsRunOnceInTime}
use Rattle.dv_laws.specs.Once.{Stands}
use Rattle.dv_laws.specs.Times.{timing_of, Untimed}
use Rattle.dv_laws.proofs.At.{places_on, no_places, entries_on, no_entries}
use Rattle.dv_laws.proofs.Clocks.{IsPlain, Clocks, Leaves, Adds, Runs, Cancels, Moves, Drops, Arranges, Stays, Loses}
use Rattle.dv_laws.proofs.ReadBackLemmas.{get_set}
use Rattle.dv_laws.proofs.Calm.{Regular}
use Rattle.dv_laws.proofs.Still.{Still, calm}
use Rattle.dv_laws.proofs.Settles.{Settles, means_keeps, reported}

-- what a call is of these
abbrev pub timed_of : Due → Option Timed
timed_of (what.Call name key) = Some (Called name)
timed_of (what.Turn name key) = None
timed_of what.Tick = Some Ticking
timed_of (what.TickIn name k) = Some (TickingIn name)
timed_of (what.Delivery job key) = Some (Delivered job)
timed_of (what.Timeout d) = Some (TimedOut d)

scheduling_is : (due_for : Due) (due : ℕ) → scheduled_by (scheduling due_for due) ≡ timed_of due_for
scheduling_is (what.Call name key) due = refl
scheduling_is (what.Turn name key) due = refl
scheduling_is what.Tick due = refl
scheduling_is (what.TickIn name k) due = refl
scheduling_is (what.Delivery job key) due = refl
scheduling_is (what.Timeout d) due = refl

pub scheduling_ends : (due_for : Due) (due : ℕ) → ended_by (scheduling due_for due) ≡ None
scheduling_ends (what.Call name key) due = refl
scheduling_ends (what.Turn name key) due = refl
scheduling_ends what.Tick due = refl
scheduling_ends (what.TickIn name k) due = refl
scheduling_ends (what.Delivery job key) due = refl
scheduling_ends (what.Timeout d) due = refl

scheduling_time : (time : ℕ) (due_for : Due) (due : ℕ) → time_after time (timing_of (scheduling due_for due)) ≡ time
scheduling_time time (what.Call name key) due = refl
scheduling_time time (what.Turn name key) due = refl
scheduling_time time what.Tick due = refl
scheduling_time time (what.TickIn name k) due = refl
scheduling_time time (what.Delivery job key) due = refl
scheduling_time time (what.Timeout d) due = refl

coming_schedules : (due_for : Due) → scheduled_by (entry_when_due due_for) ≡ None
coming_schedules (what.Call name key) = refl
coming_schedules (what.Turn name key) = refl
coming_schedules what.Tick = refl
coming_schedules (what.TickIn name k) = refl
coming_schedules (what.Delivery job key) = refl
coming_schedules (what.Timeout d) = refl

pub coming_is : (due_for : Due) → ended_by (entry_when_due due_for) ≡ timed_of due_for
coming_is (what.Call name key) = refl
coming_is (what.Turn name key) = refl
coming_is what.Tick = refl
coming_is (what.TickIn name k) = refl
coming_is (what.Delivery job key) = refl
coming_is (what.Timeout d) = refl

coming_time : (due_for : Due) → timing_of (entry_when_due due_for) ≡ Untimed
coming_time (what.Call name key) = refl
coming_time (what.Turn name key) = refl
coming_time what.Tick = refl
coming_time (what.TickIn name k) = refl
coming_time (what.Delivery job key) = refl
coming_time (what.Timeout d) = refl

pub run_ends : (t : Timed) → ended_by (run_of t) ≡ Some t
run_ends (Called name) = refl
run_ends Ticking = refl
run_ends (TickingIn name) = refl
run_ends (Delivered job) = refl
run_ends (TimedOut d) = refl

pub not_uncalled : (name : List ℕ) (t : Timed) (P : Type 0) → entry.Uncall name ≡ run_of t → P
not_uncalled name (Called other) P q = absurd cc
not_uncalled name Ticking P q = absurd cc
not_uncalled name (TickingIn other) P q = absurd cc
not_uncalled name (Delivered job) P q = absurd cc
not_uncalled name (TimedOut d) P q = absurd cc

pub not_reset : (name : List ℕ) (due : ℕ) (t : Timed) (P : Type 0) → entry.Reset name due ≡ run_of t → P
not_reset name due (Called other) P q = absurd cc
not_reset name due Ticking P q = absurd cc
not_reset name due (TickingIn other) P q = absurd cc
not_reset name due (Delivered job) P q = absurd cc
not_reset name due (TimedOut d) P q = absurd cc

-- what was logged about it when it was scheduled
pub later_is : (due_for : Due) (due : ℕ) (t : Timed) → timed_of due_for ≡ Some t
    → scheduling due_for due ≡ later_of t due
later_is (what.Call name key) due t q = let same : Called name ≡ t = cc in ap (λ x. later_of x due) same
later_is (what.Turn name key) due t q = absurd (none-some t q)
later_is what.Tick due t q = let same : Ticking ≡ t = cc in ap (λ x. later_of x due) same
later_is (what.TickIn name k) due t q = let same : TickingIn name ≡ t = cc in ap (λ x. later_of x due) same
later_is (what.Delivery job key) due t q = let same : Delivered job ≡ t = cc in ap (λ x. later_of x due) same
later_is (what.Timeout d) due t q = let same : TimedOut d ≡ t = cc in ap (λ x. later_of x due) same

-- how many calls of it wait
abbrev waiting_in : Timed → CallState → ℕ
waiting_in t (call_state.Waiting due_for) = count_of t (timed_of due_for)
waiting_in t call_state.Called = 0
waiting_in t call_state.Cancelled = 0
waiting_in t call_state.Dropped = 0

abbrev waiting : Timed → List Call → ℕ
waiting t calls = sum_by (λ call. waiting_in t call.state) calls

-- the name of a delayed call
abbrev pub name_of : Due → Option (List ℕ)
name_of (what.Call name key) = Some name
name_of (what.Turn name key) = None
name_of what.Tick = None
name_of (what.TickIn name k) = None
name_of (what.Delivery job key) = None
name_of (what.Timeout d) = None

pub named_is : (due_for : Due) (name : List ℕ) (t : Timed) → name_of due_for ≡ Some name → timed_of due_for ≡ Some t
    → t ≡ Called name
named_is (what.Call own key) name t p q = cc
named_is (what.Turn own key) name t p q = absurd (none-some name p)
named_is what.Tick name t p q = absurd (none-some name p)
named_is (what.TickIn own k) name t p q = absurd (none-some name p)
named_is (what.Delivery job key) name t p q = absurd (none-some name p)
named_is (what.Timeout d) name t p q = absurd (none-some name p)

-- the time that a call is due at was logged: when it was scheduled, or when it was given this time anew
abbrev pub IsTold : Due → ℕ → List Entry → Type 0
IsTold due_for due entries =
    Stands (scheduling due_for due) entries
    ⊎ ((name : List ℕ) × (name_of due_for ≡ Some name) × Stands (entry.Reset name due) entries)

-- it was of each call that waits
pub record AllTold (calls : List Call) (entries : List Entry) : Type 0 where
  pub each : (n due : ℕ) (due_for : Due)
      → slice_get calls n ≡ Some (record { due = due; state = call_state.Waiting due_for })
      → IsTold due_for due entries

-- what was scheduled waits, has run, was cancelled or was dropped; and the time is the one that was logged
pub record Timely (t : Timed) (c : Clock) (entries : List Entry) : Type 0 where
  pub counted : waiting t c.calls + endings t entries ≤ schedulings t entries
  pub time : time_by entries ≡ c.time
  pub told : AllTold c.calls entries
  pub law : RunsInTime t entries

-- if it was so before, it is so after
record Keeps (t : Timed) (w u : World) : Type 0 where
  loops : Regular w.objects.loops → Regular u.objects.loops
  goes_on : Regular w.objects.loops → Timely t w.objects.clock w.journal.entries
      → Timely t u.objects.clock u.journal.entries

pub stands_on : (e x : Entry) (entries : List Entry) → Stands e entries → Stands e (entries ++ x ∷ [])
stands_on e x entries s = record {
  before = s.before;
  later = s.later ++ x ∷ [];
  among = ap (λ l. l ++ x ∷ []) s.among ∙ append_assoc s.before (e ∷ s.later) (x ∷ []);
}

pub stands_last : (e : Entry) (entries : List Entry) → Stands e (entries ++ e ∷ [])
stands_last e entries = record { before = entries; later = []; among = refl }

is_told_on : (due_for : Due) (due : ℕ) (x : Entry) (entries : List Entry) → IsTold due_for due entries
    → IsTold due_for due (entries ++ x ∷ [])
is_told_on due_for due x entries (inl s) = inl (stands_on (scheduling due_for due) x entries s)
is_told_on due_for due x entries (inr p) = inr (p.0, p.1, stands_on (entry.Reset p.0 due) x entries p.2)

told_on : (x : Entry) (calls : List Call) (entries : List Entry) → AllTold calls entries
    → AllTold calls (entries ++ x ∷ [])
told_on x calls entries k =
    record { each = λ n due due_for h. is_told_on due_for due x entries (k.each n due due_for h) }

-- of a call that is added
pub pushed_by : (e : Entry) (n : ℕ) (call : Call) (calls : List Call) (P : ℕ → Due → Type 0)
    → ((k due : ℕ) (due_for : Due) → slice_get calls k ≡ Some (record { due = due; state = call_state.Waiting due_for })
    → P due due_for)
    → ((due : ℕ) (due_for : Due) → call ≡ record { due = due; state = call_state.Waiting due_for } → P due due_for)
    → (due : ℕ) (due_for : Due)
    → slice_get (calls ++ call ∷ []) n ≡ Some (record { due = due; state = call_state.Waiting due_for }) → P due due_for
pushed_by e zero call [] P h k due due_for q = k due due_for cc
pushed_by e (suc n) call [] P h k due due_for q = absurd cc
pushed_by e zero call (c ∷ calls) P h k due due_for q = h 0 due due_for q
pushed_by e (suc n) call (c ∷ calls) P h k due due_for q =
    pushed_by e n call calls P (λ j due2 for2 r. h (suc j) due2 for2 r) k due due_for q

-- of calls of which one has ended: as before, or that call waited
ended_by_state : (P : List Call → Type 0) (calls : List Call) (number : ℕ) (state : CallState) (call : Call) (b : Bool)
    → slice_get calls number ≡ Some call → P calls
    → (slice_get calls number ≡ Some call → P (slice_set calls number (record call { state = state })))
    → P (cond b (slice_set calls number (record call { state = state })) calls)
ended_by_state P calls number state call true g h k = k g
ended_by_state P calls number state call false g h k = h

pub ended_found : (P : List Call → Type 0) (calls : List Call) (number : ℕ) (state : CallState) (o : Option Call)
    → slice_get calls number ≡ o → P calls
    → ((call : Call) → slice_get calls number ≡ Some call → P (slice_set calls number (record call { state = state })))
    → P (option_map_or (λ call. with_end number state call calls) o calls)
ended_found P calls number state None g h k = h
ended_found P calls number state (Some call) g h k =
    ended_by_state P calls number state call (is_waiting call.state) g h (k call)

-- a call that has ended doesn't wait
pub set_waits : (b : Bool) (call : Call) (o : Option Call) (due : ℕ) (due_for : Due) (P : Type 0)
    → ((d : ℕ) (f : Due) → call ≡ record { due = d; state = call_state.Waiting f } → ⊥)
    → (o ≡ Some (record { due = due; state = call_state.Waiting due_for }) → P)
    → cond b (Some call) o ≡ Some (record { due = due; state = call_state.Waiting due_for }) → P
set_waits true call o due due_for P n h q = absurd (n due due_for cc)
set_waits false call o due due_for P n h q = h q

abbrev pub call_in : ℕ → CallState → Call
call_in due state = record { due = due; state = state }

abbrev pub NeverWaits : CallState → Type 0
NeverWaits state = (at d : ℕ) (f : Due) → call_in at state ≡ call_in d (call_state.Waiting f) → ⊥

ended_told : (c : Clock) (number : ℕ) (state : CallState) (entries : List Entry) → NeverWaits state
    → AllTold c.calls entries → AllTold (ended number state c).calls entries
ended_told c number state entries never k =
    ended_found (λ calls. AllTold calls entries) c.calls number state (slice_get c.calls number) refl k
    (λ call g. record {
      each =
          λ n due due_for h. set_waits (nat_eq number n) (record call { state = state })
          (slice_get c.calls n) due due_for _ (never call.due) (k.each n due due_for)
          (sym (get_set c.calls number n call (record call { state = state }) g) ∙ h);
    })

-- a call less that waits
set_counts : (t : Timed) (calls : List Call) (number : ℕ) (call new : Call) → slice_get calls number ≡ Some call
    → waiting t (slice_set calls number new) + waiting_in t call.state ≡ waiting t calls + waiting_in t new.state
set_counts t calls number call new h =
    omega (
      arith,
      sum_by-set (λ x. waiting_in t x.state) calls number new call (slice_get_within calls number call h),
      ap (λ (x : Call). waiting_in t x.state) (get_or_from_slice_get calls number call call h),
    )

fewer : (t : Timed) (c : Clock) (number : ℕ) (state : CallState) → waiting_in t state ≡ 0
    → waiting t (ended number state c).calls ≤ waiting t c.calls
fewer t c number state z =
    ended_found (λ calls. waiting t calls ≤ waiting t c.calls) c.calls number state (slice_get c.calls number) refl
    (omega arith) (λ call g. omega (arith, set_counts t c.calls number call (record call { state = state }) g, z))

one_less : (t : Timed) (c : Clock) (number due : ℕ) (due_for : Due) (state : CallState) → waiting_in t state ≡ 0
    → slice_get c.calls number ≡ Some (record { due = due; state = call_state.Waiting due_for })
    → waiting t (ended number state c).calls + count_of t (timed_of due_for) ≤ waiting t c.calls
one_less t c number due due_for state z h = rw h (omega (
  arith,
  set_counts t c.calls number (record { due = due; state = call_state.Waiting due_for })
      (record { due = due; state = state }) h,
  z,
))

-- one more entry
counts : (t : Timed) (e : Entry) (entries : List Entry) (before after : ℕ)
    → before + endings t entries ≤ schedulings t entries
    → after + count_of t (ended_by e) ≤ before + count_of t (scheduled_by e)
    → after + endings t (entries ++ e ∷ []) ≤ schedulings t (entries ++ e ∷ [])
counts t e entries before after h k = omega (
  arith,
  h,
  k,
  sum_by_push (λ x. count_of t (ended_by x)) entries e,
  sum_by_push (λ x. count_of t (scheduled_by x)) entries e,
)

time_on : (e : Entry) (entries : List Entry) → time_by (entries ++ e ∷ []) ≡ time_after (time_by entries) (timing_of e)
time_on e entries = fold-append (λ time x. time_after time (timing_of x)) 0 entries (e ∷ [])

tells : (t : Timed) (e : Entry) (c d : Clock) (entries : List Entry)
    → waiting t d.calls + count_of t (ended_by e) ≤ waiting t c.calls + count_of t (scheduled_by e)
    → time_after c.time (timing_of e) ≡ d.time → AllTold d.calls (entries ++ e ∷ []) → (e ≡ run_of t → WasDue t entries)
    → Timely t c entries → Timely t d (entries ++ e ∷ [])
tells t e c d entries more time told due k =
    let counted = counts t e entries (waiting t c.calls) (waiting t d.calls) k.counted more in
    record {
      counted = counted;
      time = time_on e entries ∙ ap (λ x. time_after x (timing_of e)) k.time ∙ time;
      told = told;
      law = record {
        once = places_on (λ told. endings t told ≤ schedulings t told) e entries k.law.once (omega (arith, counted));
        due = entries_on (λ told x. x ≡ run_of t → WasDue t told) e entries k.law.due due;
      };
    }

pub plain_tells : (t : Timed) (e : Entry) (c d : Clock) (entries : List Entry) → IsPlain e
    → waiting t d.calls ≤ waiting t c.calls → c.time ≡ d.time → AllTold d.calls (entries ++ e ∷ []) → Timely t c entries
    → Timely t d (entries ++ e ∷ [])
plain_tells t e c d entries p less time told k =
    let none : count_of t (ended_by e) ≡ 0 = ap (count_of t) p.2 in
    tells t e c d entries (omega (arith, none, less)) (ap (time_after c.time) p.0 ∙ time) told
    (λ q. absurd (none-some t (sym p.2 ∙ ap ended_by q ∙ run_ends t))) k

-- what an entry aside logs about the clock
adds_tell : (t : Timed) (c : Clock) (due_for : Due) (due : ℕ) (entries : List Entry) → Timely t c entries
    → Timely t (with_call due due_for c) (entries ++ scheduling due_for due ∷ [])
adds_tell t c due_for due entries k =
    let e = scheduling due_for due in
    let new = call_in due (call_state.Waiting due_for) in
    tells t e c (with_call due due_for c) entries
    (omega (
      arith,
      sum_by_push (λ (call : Call). waiting_in t call.state) c.calls new,
      ap (count_of t) (scheduling_is due_for due),
      ap (count_of t) (scheduling_ends due_for due),
    ))
    (scheduling_time c.time due_for due)
    (record {
      each = λ n at for h.
          pushed_by e n new c.calls (λ d f. IsTold f d (entries ++ e ∷ []))
          (λ j d f g. is_told_on f d e entries (k.told.each j d f g))
          (λ d f q. let same : scheduling due_for due ≡ scheduling f d = same_scheduling due_for f due d q in inl (subst
          (λ x. Stands x (entries ++ e ∷ [])) same (stands_last e entries))) at for h;
    })
    (λ q. absurd (none-some t (sym (scheduling_ends due_for due) ∙ ap ended_by q ∙ run_ends t)))
    k
  where
    same_scheduling : (f g : Due) (a b : ℕ) → call_in a (call_state.Waiting f) ≡ call_in b (call_state.Waiting g)
        → scheduling f a ≡ scheduling g b
    same_scheduling f g a b q =
        let dues : a ≡ b = ap (λ (c : Call). c.due) q in
        let states : call_state.Waiting f ≡ call_state.Waiting g = ap (λ (c : Call). c.state) q in
        let sames : f ≡ g = cc in
        ap (λ x. scheduling f x) dues ∙ ap (λ x. scheduling x b) sames

pub called_ended : NeverWaits call_state.Called
called_ended at d f q = let state : call_state.Called ≡ call_state.Waiting f = ap (λ (c : Call). c.state) q in absurd cc

pub cancelled_ended : NeverWaits call_state.Cancelled
cancelled_ended at d f q =
    let state : call_state.Cancelled ≡ call_state.Waiting f = ap (λ (c : Call). c.state) q in absurd cc

pub dropped_ended : NeverWaits call_state.Dropped
dropped_ended at d f q =
    let state : call_state.Dropped ≡ call_state.Waiting f = ap (λ (c : Call). c.state) q in absurd cc

set_for : (t : Timed) (due_for : Due) (due : ℕ) (entries : List Entry) → timed_of due_for ≡ Some t
    → IsTold due_for due entries → IsSetFor t due entries
set_for t due_for due entries q (inl s) = Scheduled (subst (λ x. Stands x entries) (later_is due_for due t q) s)
set_for t due_for due entries q (inr p) = Reset p.0 (named_is due_for p.0 t p.1 q) p.2

was_due : (t : Timed) (c : Clock) (call : Upcoming) (entries : List Entry) → next_call c ≡ Some call
    → Timely t c entries → entry_when_due call.what ≡ run_of t → WasDue t entries
was_due t c call entries n k q =
    let first = first_runs_next c call n in
    let same : timed_of call.what ≡ Some t = sym (coming_is call.what) ∙ ap ended_by q ∙ run_ends t in
    record {
      due = call.due;
      scheduled = set_for t call.what call.due entries same (k.told.each call.number call.due call.what first.waits);
      by_now = omega (arith, first.is_due, k.time);
    }

runs_tell : (t : Timed) (c : Clock) (call : Upcoming) (entries : List Entry) → next_call c ≡ Some call
    → Timely t c entries → Timely t (ended call.number call_state.Called c) (entries ++ entry_when_due call.what ∷ [])
runs_tell t c call entries n k =
    let e = entry_when_due call.what in
    let first = first_runs_next c call n in
    tells t e c (ended call.number call_state.Called c) entries
    (omega (
      arith,
      one_less t c call.number call.due call.what call_state.Called refl first.waits,
      ap (count_of t) (coming_is call.what),
      ap (count_of t) (coming_schedules call.what),
    ))
    (ap (time_after c.time) (coming_time call.what))
    (told_on e (ended call.number call_state.Called c).calls entries
    (ended_told c call.number call_state.Called entries called_ended k.told))
    (was_due t c call entries n k) k

cancels_tell : (t : Timed) (c : Clock) (number due : ℕ) (name : List ℕ) (key : ℕ) (entries : List Entry)
    → slice_get c.calls number ≡ Some (call_in due (call_state.Waiting (what.Call name key))) → Timely t c entries
    → Timely t (ended number call_state.Cancelled c) (entries ++ entry.Uncall name ∷ [])
cancels_tell t c number due name key entries g k =
    tells t (entry.Uncall name) c (ended number call_state.Cancelled c) entries
    (omega (arith, one_less t c number due (what.Call name key) call_state.Cancelled refl g)) refl
    (told_on (entry.Uncall name) (ended number call_state.Cancelled c).calls entries
    (ended_told c number call_state.Cancelled entries cancelled_ended k.told))
    (λ q. not_uncalled name t _ q) k

-- of calls of which one is due at another time: it is that one, or as before
moved_waits : (b : Bool) (new : Call) (o : Option Call) (at : ℕ) (f : Due) (P : Type 0)
    → (new ≡ call_in at (call_state.Waiting f) → P) → (o ≡ Some (call_in at (call_state.Waiting f)) → P)
    → cond b (Some new) o ≡ Some (call_in at (call_state.Waiting f)) → P
moved_waits true new o at f P h k q = h cc
moved_waits false new o at f P h k q = k q

pub moved_is : (c : Clock) (number before due : ℕ) (f : Due)
    → slice_get c.calls number ≡ Some (call_in before (call_state.Waiting f))
    → (moved number due c).calls ≡ slice_set c.calls number (call_in due (call_state.Waiting f))
moved_is c number before due f h = rw h refl

pub moved_by : (c : Clock) (number before due n at : ℕ) (f g : Due) (P : Type 0)
    → slice_get c.calls number ≡ Some (call_in before (call_state.Waiting f))
    → (due ≡ at → f ≡ g → P) → (slice_get c.calls n ≡ Some (call_in at (call_state.Waiting g)) → P)
    → slice_get (moved number due c).calls n ≡ Some (call_in at (call_state.Waiting g)) → P
moved_by c number before due n at f g P h own other q =
    let new = call_in due (call_state.Waiting f) in
    moved_waits (nat_eq number n) new (slice_get c.calls n) at g P
    (λ same.
    let states : call_state.Waiting f ≡ call_state.Waiting g = ap (λ (x : Call). x.state) same in
    let what_for : f ≡ g = cc in
    own (ap (λ (x : Call). x.due) same) what_for) other
    (sym (get_set c.calls number n (call_in before (call_state.Waiting f)) new h)
    ∙ ap (λ calls. slice_get calls n) (sym (moved_is c number before due f h)) ∙ q)

moves_tell : (t : Timed) (c : Clock) (number before due : ℕ) (name : List ℕ) (key : ℕ) (entries : List Entry)
    → slice_get c.calls number ≡ Some (call_in before (call_state.Waiting (what.Call name key))) → Timely t c entries
    → Timely t (moved number due c) (entries ++ entry.Reset name due ∷ [])
moves_tell t c number before due name key entries g k =
    let f = what.Call name key in
    let e = entry.Reset name due in
    tells t e c (moved number due c) entries
    (omega (
      arith,
      ap (waiting t) (moved_is c number before due f g),
      set_counts t c.calls number (call_in before (call_state.Waiting f)) (call_in due (call_state.Waiting f)) g,
    )) refl
    (record {
      each = λ n at h q.
          moved_by c number before due n at f h (IsTold h at (entries ++ e ∷ [])) g
          (λ same what_for. inr (
            name,
            ap name_of (sym what_for),
            subst (λ d. Stands (entry.Reset name d) (entries ++ e ∷ [])) same (stands_last e entries),
          )) (λ p. is_told_on h at e entries (k.told.each n at h p)) q;
    })
    (λ q. not_reset name due t _ q) k

of_entry : (t : Timed) (e x : Entry) (d : Clock) (entries : List Entry) → e ≡ x → Timely t d (entries ++ x ∷ [])
    → Timely t d (entries ++ e ∷ [])
of_entry t e x d entries q k = subst (λ y. Timely t d (entries ++ y ∷ [])) (sym q) k

pub clocks_tell : (t : Timed) (e : Entry) (c d : Clock) (entries : List Entry) → Clocks e c d → Timely t c entries
    → Timely t d (entries ++ e ∷ [])
clocks_tell t e c d entries (Leaves p) k =
    plain_tells t e c c entries p (omega arith) refl (told_on e c.calls entries k.told) k
clocks_tell t e c d entries (Adds due_for due q h) k = of_entry t e _ _ entries q (adds_tell t c due_for due entries k)
clocks_tell t e c d entries (Runs call n q) k = of_entry t e _ _ entries q (runs_tell t c call entries n k)
clocks_tell t e c d entries (Cancels number due name key g q) k =
    of_entry t e _ _ entries q (cancels_tell t c number due name key entries g k)
clocks_tell t e c d entries (Moves number before due name key g q h) k =
    of_entry t e _ _ entries q (moves_tell t c number before due name key entries g k)
clocks_tell t e c d entries (Drops number p) k =
    plain_tells t e c (ended number call_state.Dropped c) entries p (fewer t c number call_state.Dropped refl) refl
    (told_on e (ended number call_state.Dropped c).calls entries
    (ended_told c number call_state.Dropped entries dropped_ended k.told)) k

pub arranged : (t : Timed) (c d : Clock) (entries : List Entry) → Arranges c d → Timely t c entries → Timely t d entries
arranged t c d entries Stays k = k
arranged t c d entries (Loses number) k = record {
  counted = omega (arith, k.counted, fewer t c number call_state.Dropped refl);
  time = k.time;
  told = ended_told c number call_state.Dropped entries dropped_ended k.told;
  law = k.law;
}

-- an entry of a Deferred
plain : (t : Timed) (e : Entry) (w u : World) → IsPlain e → u.objects.clock ≡ w.objects.clock
    → u.journal.entries ≡ w.journal.entries ++ e ∷ [] → u.objects.loops ≡ w.objects.loops → Keeps t w u
plain t e w u p s q l = record {
  loops = λ r. rw l r;
  goes_on = λ r k. rw (s, q) (clocks_tell t e w.objects.clock w.objects.clock w.journal.entries (Leaves p) k);
}

pub named_same : (name : Option (List ℕ)) (d : ℕ) (objects : Objects)
    → (naming_where name d objects).clock ≡ objects.clock
named_same None d objects = refl
named_same (Some name) d objects = refl

pub named_loops : (name : Option (List ℕ)) (d : ℕ) (objects : Objects)
    → (naming_where name d objects).loops ≡ objects.loops
named_loops None d objects = refl
named_loops (Some name) d objects = refl

-- each entry logs it
still : (t : Timed) → Still (Keeps t)
still t = record {
  stays = λ w. record { loops = λ r. r; goes_on = λ r k. k };
  joins =
      λ u v w p q. record { loops = λ r. q.loops (p.loops r); goes_on = λ r k. q.goes_on (p.loops r) (p.goes_on r k) };
  stops = λ w. record { loops = λ r. r; goes_on = λ r k. k };
  news =
      λ name canceller w x. plain t (entry.New (length w.records) name) w _ (refl, refl, refl)
      (named_same name _ w.objects) refl (named_loops name _ w.objects);
  asides = λ e change w a c l b x. record { loops = l; goes_on = λ r k. clocks_tell t e _ _ w.journal.entries (c r) k };
  arranges = λ change w s l b. record { loops = l; goes_on = λ r k. arranged t _ _ w.journal.entries s k };
  submits = λ d pool work w x. plain t (entry.Job (length w.works) d) w _ (refl, refl, refl) refl refl refl;
  refuses = λ d r w x h p q. plain t (entry.Refuse d) w _ (refl, refl, refl) refl refl refl;
  swallows = λ d r w x h p. plain t (entry.Swallow d) w _ (refl, refl, refl) refl refl refl;
  cancels = λ d w x. plain t (entry.Cancel d) w _ (refl, refl, refl) refl refl refl;
  sets_swallows = λ d r w x h f c. plain t (entry.Fire d cancelled) w _ (refl, refl, refl) refl refl refl;
  fires = λ d value r w x h f. plain t (entry.Fire d value) w _ (refl, refl, refl) refl refl refl;
  adds = λ d pair r w x h. plain t (entry.Add d) w _ (refl, refl, refl) refl refl refl;
  pauses = λ d r w x h. plain t (entry.Pause d) w _ (refl, refl, refl) refl refl refl;
  unpauses = λ d r w x h p. plain t (entry.Unpause d) w _ (refl, refl, refl) refl refl refl;
}

pub advanced : (t : Timed) (c : Clock) (time : ℕ) (entries : List Entry) → Timely t c entries
    → Timely t (record c { time = time }) (entries ++ entry.Advance time ∷ [])
advanced t c time entries k =
    tells t (entry.Advance time) c (record c { time = time }) entries (omega arith) refl
    (told_on (entry.Advance time) c.calls entries k.told) (λ q. absurd (none-some t (ap ended_by q ∙ run_ends t))) k

settles : (t : Timed) → Settles (Keeps t)
settles t = record {
  calm = calm _ (still t);
  drops = λ d r pair rest w h e a s. record { loops = λ z. z; goes_on = λ z k. k };
  runs = λ d r pair rest w x h e a s. plain t (entry.Run d) w _ (refl, refl, refl) refl refl refl;
  hands = λ d c r rest w x h e a s. plain t (entry.Hand d c r.value) w _ (refl, refl, refl) refl refl refl;
  sets = λ d value r w x h p s. plain t (entry.Set d value) w _ (refl, refl, refl) refl refl refl;
  waits = λ d e r given w x h i p q s. plain t (entry.Wait d e) w _ (refl, refl, refl) refl refl refl;
  takes = λ d e r given w x h i p q s. plain t (entry.Take d e given.value) w _ (refl, refl, refl) refl refl refl;
  advances = λ ticks w x s. record {
    loops = λ r. r;
    goes_on = λ r k. advanced t w.objects.clock (min (w.objects.clock.time + ticks) MOST_TICKS) w.journal.entries k;
  };
}

world_in_time : (t : Timed) (script : Script) (batches : List Batch) (w : World) → Means script batches w
    → RunsInTime t w.journal.entries
world_in_time t script batches w m =
    ((means_keeps (Keeps t) (settles t) script batches w m).goes_on (record { each = λ l x h. absurd (none-some x h) })
    (record {
      counted = omega arith;
      time = refl;
      told = record { each = λ n due due_for h. absurd (none-some _ h) };
      law = record {
        once = no_places (λ told. endings t told ≤ schedulings t told) (omega arith);
        due = no_entries (λ told x. x ≡ run_of t → WasDue t told);
      };
    })).law

-- and so its report logs it
pub first_timely : (t : Timed) (c : Clock) → c.calls ≡ [] → c.time ≡ 0 → Timely t c []
first_timely t c e z = record {
  counted = rw e (omega arith);
  time = sym z;
  told = record { each = λ n due due_for h. absurd (none-some _ (ap (λ calls. slice_get calls n) (sym e) ∙ h)) };
  law = record {
    once = no_places (λ told. endings t told ≤ schedulings t told) (omega arith);
    due = no_entries (λ told x. x ≡ run_of t → WasDue t told);
  };
}

pub calls_in_time : CallsRunOnceInTime
calls_in_time script report r t = reported (RunsInTime t) (world_in_time t) script report r
