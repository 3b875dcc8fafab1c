-- Calls run in the order of the times that they are due at.
use Rattle.std.proofs.Common.{◌≡◌, ℕ, zero, suc, ◌+◌, ◌≤◌, ◌<◌, ◌++◌, min, Bool, true, false, nat_eq, List, [], ◌∷◌}
use Rattle.std.proofs.Common.{Option, None, Some, refl, sym, ap, subst, ◌∙◌, arith, append_assoc, slice_get, slice_set}
use Rattle.std.proofs.Common.{cond, length, inl, inr}
use Rattle.std.proofs.lemmas.Option.{none-some, slice_get_within}
use Rattle.dv_clock.specs.Clock.{Clock, Upcoming, next_call, with_call, ended, moved}
use Rattle.dv_clock.specs.Due.{scheduling, entry_when_due}
use Rattle.dv_clock.specs.declared.call.Call.{Call}
use Rattle.dv_clock.specs.declared.call.CallState.{CallState}
use Rattle.dv_clock.specs.declared.call.CallState.TheVariants as call_state
use Rattle.dv_clock.specs.declared.due.Due.{Due}
use Rattle.dv_clock.specs.declared.due.Due.TheVariants as what
use Rattle.dv_clock.specs.declared.limits.TheConstants.{MOST_TICKS}
use Rattle.dv_clock.proofs.ClockLemmas.{first_runs_next}
use Rattle.dv_journal.specs.declared.entry.Entry.{Entry}
use Rattle.dv_journal.specs.declared.entry.Entry.TheVariants as entry
use Rattle.dv_journal.specs.Told.{Timed, Called, Ticking, TickingIn, Delivered, TimedOut}
use Rattle.dv_objects.specs.Refusals.{cancelled}
use Rattle.dv_posts.specs.Batches.{Batch}
use Rattle.dv_loop.specs.Meaning.{Means}
use Rattle.dv_script.specs.declared.script.Script.{Script}
use Rattle.dv_world.specs.World.{World}
use Rattle.dv_laws.specs.Calls.{is_same, count_of, scheduled_by, ended_by, schedulings, later_of, run_of, ScheduledOnce}
use Rattle.dv_laws.specs.Calls.{HasRun, Precedes, IsFirst, RunsInOrder, CallsRunInOrder}
use Rattle.dv_laws.specs.Once.{Stands}
use Rattle.dv_laws.proofs.At.{entries_on, no_entries}
use Rattle.dv_laws.proofs.Clocks.{IsPlain, Clocks, Leaves, Adds, Runs, Cancels, Moves, Drops, Arranges, Stays, Loses}
use Rattle.dv_laws.proofs.ReadBackLemmas.{get_set}
use Rattle.dv_laws.proofs.Calm.{Regular}
use Rattle.dv_laws.proofs.Still.{Still, calm}
use Rattle.dv_laws.proofs.Settles.{Settles, means_keeps, reported}
use Rattle.std.proofs.lemmas.List.Sums.{sum_by-cons}
use Rattle.std.proofs.lemmas.Bool.Decides.{nat_tests}
use Rattle.std.proofs.lemmas.Slice.Eq.{bytes_eq-Decides}
use Rattle.dv_laws.proofs.At.{split_last}
use Rattle.dv_laws.proofs.CallsLemmas.{timed_of, coming_is, run_ends, later_is, call_in, NeverWaits, called_ended}
use Rattle.dv_laws.proofs.CallsLemmas.{cancelled_ended, dropped_ended, clocks_tell, arranged, advanced, pushed_by}
use Rattle.dv_laws.proofs.CallsLemmas.{set_waits, ended_found, not_uncalled, scheduling_ends, named_same, named_loops}
use Rattle.dv_laws.proofs.CallsLemmas.{Timely, AllTold, IsTold, first_timely, name_of, named_is, not_reset, moved_by}
use Rattle.dv_laws.proofs.CallsLemmas.{stands_on, stands_last}

-- what was logged once was logged with one time
is_itself : (t : Timed) → is_same t t ≡ true
is_itself (Called name) = (bytes_eq-Decides name name).1 refl
is_itself Ticking = refl
is_itself (TickingIn name) = (bytes_eq-Decides name name).1 refl
is_itself (Delivered job) = grind (arith, nat_tests)
is_itself (TimedOut d) = grind (arith, nat_tests)

later_counts : (t : Timed) (due : ℕ) → count_of t (scheduled_by (later_of t due)) ≡ 1
later_counts (Called name) due = ap {B = ℕ} (λ b. cond b 1 0) (is_itself (Called name))
later_counts Ticking due = refl
later_counts (TickingIn name) due = ap {B = ℕ} (λ b. cond b 1 0) (is_itself (TickingIn name))
later_counts (Delivered job) due = ap {B = ℕ} (λ b. cond b 1 0) (is_itself (Delivered job))
later_counts (TimedOut d) due = ap {B = ℕ} (λ b. cond b 1 0) (is_itself (TimedOut d))

later_due : (t : Timed) (a b : ℕ) → later_of t a ≡ later_of t b → a ≡ b
later_due (Called name) a b q = cc
later_due Ticking a b q = cc
later_due (TickingIn name) a b q = cc
later_due (Delivered job) a b q = cc
later_due (TimedOut d) a b q = cc

-- an entry that stands among some is the first, or stands among the others
stands_cases : (x e : Entry) (entries before later : List Entry) (Q : Type 0) → e ∷ entries ≡ before ++ x ∷ later
    → (x ≡ e → Q) → (Stands x entries → Q) → Q
stands_cases x e entries [] later Q q h k = h cc
stands_cases x e entries (b ∷ bs) later Q q h k = k (record { before = bs; later = later; among = cc })

stands_nowhere : (x : Entry) (before later : List Entry) (Q : Type 0) → [] ≡ before ++ x ∷ later → Q
stands_nowhere x [] later Q q = absurd cc
stands_nowhere x (b ∷ bs) later Q q = absurd cc

abbrev counts_of : Timed → Entry → ℕ
counts_of t e = count_of t (scheduled_by e)

counted_once : (t : Timed) (due : ℕ) (entries : List Entry) → Stands (later_of t due) entries
    → 1 ≤ schedulings t entries
counted_once t due [] s = stands_nowhere (later_of t due) s.before s.later _ s.among
counted_once t due (e ∷ entries) s =
    stands_cases (later_of t due) e entries s.before s.later _ s.among
    (λ q. omega (arith, sum_by-cons (counts_of t) e entries, ap (counts_of t) q, later_counts t due))
    (λ z. omega (arith, sum_by-cons (counts_of t) e entries, counted_once t due entries z))

one_due : (t : Timed) (a b : ℕ) (entries : List Entry) → schedulings t entries ≤ 1 → Stands (later_of t a) entries
    → Stands (later_of t b) entries → a ≡ b
one_due t a b [] n s r = stands_nowhere (later_of t a) s.before s.later _ s.among
one_due t a b (e ∷ entries) n s r =
    let all = sum_by-cons (counts_of t) e entries in
    stands_cases (later_of t a) e entries s.before s.later (a ≡ b) s.among
    (λ p. stands_cases (later_of t b) e entries r.before r.later (a ≡ b) r.among (λ q. later_due t a b (p ∙ sym q))
    (λ z. absurd (omega (arith, n, all, ap (counts_of t) p, later_counts t a, counted_once t b entries z))))
    (λ y. stands_cases (later_of t b) e entries r.before r.later (a ≡ b) r.among
    (λ q. absurd (omega (arith, n, all, ap (counts_of t) q, later_counts t b, counted_once t a entries y)))
    (λ z. one_due t a b entries (omega (arith, n, all)) y z))

-- what was logged once was never given a time anew
reset_counts : (name : List ℕ) (due : ℕ) → count_of (Called name) (scheduled_by (entry.Reset name due)) ≡ 1
reset_counts name due = ap {B = ℕ} (λ b. cond b 1 0) (is_itself (Called name))

counted_anew : (name : List ℕ) (due : ℕ) (entries : List Entry) → Stands (entry.Reset name due) entries
    → 1 ≤ schedulings (Called name) entries
counted_anew name due [] s = stands_nowhere (entry.Reset name due) s.before s.later _ s.among
counted_anew name due (e ∷ entries) s =
    stands_cases (entry.Reset name due) e entries s.before s.later _ s.among
    (λ q. omega (
      arith,
      sum_by-cons (counts_of (Called name)) e entries,
      ap (counts_of (Called name)) q,
      reset_counts name due,
    ))
    (λ z. omega (arith, sum_by-cons (counts_of (Called name)) e entries, counted_anew name due entries z))

differ : (name : List ℕ) (due other : ℕ) → entry.LaterCall name due ≡ entry.Reset name other → ⊥
differ name due other q = absurd cc

not_both : (name : List ℕ) (due other : ℕ) (entries : List Entry) → schedulings (Called name) entries ≤ 1
    → Stands (entry.LaterCall name due) entries → Stands (entry.Reset name other) entries → ⊥
not_both name due other [] n s r = stands_nowhere (entry.LaterCall name due) s.before s.later _ s.among
not_both name due other (e ∷ entries) n s r =
    let t = Called name in
    let all = sum_by-cons (counts_of t) e entries in
    stands_cases (entry.LaterCall name due) e entries s.before s.later _ s.among
    (λ p. stands_cases (entry.Reset name other) e entries r.before r.later _ r.among
    (λ q. differ name due other (p ∙ sym q))
    (λ z. omega (arith, n, all, ap (counts_of t) p, later_counts t due, counted_anew name other entries z)))
    (λ y. stands_cases (entry.Reset name other) e entries r.before r.later _ r.among
    (λ q. omega (arith, n, all, ap (counts_of t) q, reset_counts name other, counted_once t due entries y))
    (λ z. not_both name due other entries (omega (arith, n, all)) y z))

-- no delayed call of this name was given a time anew
abbrev IsUnmoved : Due → List Entry → Type 0
IsUnmoved f entries = (name : List ℕ) (due : ℕ) → name_of f ≡ Some name → Stands (entry.Reset name due) entries → ⊥

once_unmoved : (t : Timed) (f : Due) (due : ℕ) (entries : List Entry) → timed_of f ≡ Some t
    → ScheduledOnce t due entries → IsUnmoved f entries
once_unmoved t f due entries q s = λ name other p r.
    let same = named_is f name t p q in
    not_both name due other entries
    (subst (λ x. schedulings x entries ≤ 1) same (omega (arith, s.once)))
    (subst (λ x. Stands (later_of x due) entries) same s.scheduled) r

unmoved_before : (f : Due) (e : Entry) (entries : List Entry) → IsUnmoved f (entries ++ e ∷ []) → IsUnmoved f entries
unmoved_before f e entries u = λ name due q s. u name due q (stands_on (entry.Reset name due) e entries s)

moved_not : (name : List ℕ) (key due : ℕ) (f : Due) (entries : List Entry) → what.Call name key ≡ f
    → IsUnmoved f (entries ++ entry.Reset name due ∷ []) → ⊥
moved_not name key due f entries same u =
    u name due (ap name_of (sym same)) (stands_last (entry.Reset name due) entries)

-- its time was logged when it was scheduled
scheduled_so : (f : Due) (due : ℕ) (entries : List Entry) → IsTold f due entries → IsUnmoved f entries
    → Stands (scheduling f due) entries
scheduled_so f due entries (inl s) u = s
scheduled_so f due entries (inr p) u = absurd (u p.0 due p.1 p.2)

-- nothing that waits is due before this, nor is this later than now
record NotLater (due : ℕ) (c : Clock) : Type 0 where
  passed : due ≤ c.time
  waits : (n other : ℕ) (due_for : Due) → slice_get c.calls n ≡ Some (call_in other (call_state.Waiting due_for))
      → due ≤ other

added_later : (due other : ℕ) (due_for : Due) (c : Clock) → c.time ≤ other → NotLater due c
    → NotLater due (with_call other due_for c)
added_later due other due_for c h k = record {
  passed = k.passed;
  waits = λ n at for q.
      pushed_by (scheduling due_for other) n (call_in other (call_state.Waiting due_for)) c.calls (λ d f. due ≤ d)
      k.waits (λ d f p. let same : other ≡ d = ap (λ (x : Call). x.due) p in omega (arith, h, k.passed, same)) at for q;
}

abbrev AllLater : ℕ → List Call → Type 0
AllLater due calls =
    (n other : ℕ) (due_for : Due) → slice_get calls n ≡ Some (call_in other (call_state.Waiting due_for)) → due ≤ other

ended_later : (due : ℕ) (c : Clock) (number : ℕ) (state : CallState) → NeverWaits state → AllLater due c.calls
    → AllLater due (ended number state c).calls
ended_later due c number state never k =
    ended_found (AllLater due) c.calls number state (slice_get c.calls number) refl k
    (λ call g n other due_for h.
    set_waits (nat_eq number n) (record call { state = state }) (slice_get c.calls n) other due_for _ (never call.due)
    (k n other due_for) (sym (get_set c.calls number n call (record call { state = state }) g) ∙ h))

ends_later : (due : ℕ) (c : Clock) (number : ℕ) (state : CallState) → NeverWaits state → NotLater due c
    → NotLater due (ended number state c)
ends_later due c number state never k =
    record { passed = k.passed; waits = ended_later due c number state never k.waits }

moves_later : (x : ℕ) (c : Clock) (number before due : ℕ) (f : Due)
    → slice_get c.calls number ≡ Some (call_in before (call_state.Waiting f)) → c.time ≤ due → NotLater x c
    → NotLater x (moved number due c)
moves_later x c number before due f g h k = record {
  passed = k.passed;
  waits = λ n at for q.
      moved_by c number before due n at f for (x ≤ at) g (λ same what_for. omega (arith, h, k.passed, same))
      (k.waits n at for) q;
}

-- the next call isn't later than what waits
next_later : (c : Clock) (call : Upcoming) → next_call c ≡ Some call → NotLater call.due c
next_later c call n = let first = first_runs_next c call n in record { passed = first.is_due; waits = first.soonest }

-- an entry that stands before another still does with one more, and each that stands does before the last
precedes_on : (x y e : Entry) (entries : List Entry) → Precedes x y entries → Precedes x y (entries ++ e ∷ [])
precedes_on x y e entries p = record {
  before = p.before;
  between = p.between;
  later = p.later ++ e ∷ [];
  among =
      ap (λ l. l ++ e ∷ []) p.among ∙ append_assoc p.before (x ∷ (p.between ++ y ∷ p.later)) (e ∷ [])
      ∙ ap (λ l. p.before ++ x ∷ l) (append_assoc p.between (y ∷ p.later) (e ∷ []));
}

precedes_last : (x e : Entry) (entries : List Entry) → Stands x entries → Precedes x e (entries ++ e ∷ [])
precedes_last x e entries s = record {
  before = s.before;
  between = s.later;
  later = [];
  among = ap (λ l. l ++ e ∷ []) s.among ∙ append_assoc s.before (x ∷ s.later) (e ∷ []);
}

-- calls that wait were logged in the order of their numbers, but for those that were given a time anew
abbrev InOrder : List Call → List Entry → Type 0
InOrder calls entries =
    (n m a b : ℕ) (f g : Due) → n < m → slice_get calls n ≡ Some (call_in a (call_state.Waiting f))
    → slice_get calls m ≡ Some (call_in b (call_state.Waiting g)) → IsUnmoved f entries → IsUnmoved g entries
    → Precedes (scheduling f a) (scheduling g b) entries

pushed_at : (n : ℕ) (new x : Call) (calls : List Call) (Q : Type 0) → (slice_get calls n ≡ Some x → Q)
    → (n ≡ length calls → new ≡ x → Q) → slice_get (calls ++ new ∷ []) n ≡ Some x → Q
pushed_at zero new x [] Q h k q = k refl cc
pushed_at (suc n) new x [] Q h k q = absurd cc
pushed_at zero new x (c ∷ calls) Q h k q = h q
pushed_at (suc n) new x (c ∷ calls) Q h k q = pushed_at n new x calls Q h (λ e r. k (omega (arith, e)) r) q

scheduled_same : (f g : Due) (a b : ℕ) → call_in a (call_state.Waiting f) ≡ call_in b (call_state.Waiting g)
    → scheduling f a ≡ scheduling g b
scheduled_same f g a b q =
    let dues : a ≡ b = ap (λ (c : Call). c.due) q in
    let states : call_state.Waiting f ≡ call_state.Waiting g = ap (λ (c : Call). c.state) q in
    let sames : f ≡ g = cc in
    ap (λ x. scheduling f x) dues ∙ ap (λ x. scheduling x b) sames

order_on : (e : Entry) (calls : List Call) (entries : List Entry) → InOrder calls entries
    → InOrder calls (entries ++ e ∷ [])
order_on e calls entries k =
    λ n m a b f g l h i u v. precedes_on (scheduling f a) (scheduling g b) e entries
    (k n m a b f g l h i (unmoved_before f e entries u) (unmoved_before g e entries v))

order_added : (due_for : Due) (due : ℕ) (calls : List Call) (entries : List Entry) → AllTold calls entries
    → InOrder calls entries
    → InOrder (calls ++ call_in due (call_state.Waiting due_for) ∷ []) (entries ++ scheduling due_for due ∷ [])
order_added due_for due calls entries told k = λ n m a b f g l h i u v.
    let new = call_in due (call_state.Waiting due_for) in
    let e = scheduling due_for due in
    pushed_at n new (call_in a (call_state.Waiting f)) calls
    (Precedes (scheduling f a) (scheduling g b) (entries ++ e ∷ []))
    (λ p. pushed_at m new (call_in b (call_state.Waiting g)) calls
    (Precedes (scheduling f a) (scheduling g b) (entries ++ e ∷ []))
    (λ q. precedes_on (scheduling f a) (scheduling g b) e entries
    (k n m a b f g l p q (unmoved_before f e entries u) (unmoved_before g e entries v)))
    (λ r s. subst (λ y. Precedes (scheduling f a) y (entries ++ e ∷ [])) (scheduled_same due_for g due b s)
    (precedes_last (scheduling f a) e entries
    (scheduled_so f a entries (told.each n a f p) (unmoved_before f e entries u)))) i)
    (λ r s. pushed_at m new (call_in b (call_state.Waiting g)) calls
    (Precedes (scheduling f a) (scheduling g b) (entries ++ e ∷ []))
    (λ q. absurd (omega (arith, l, r, slice_get_within calls m (call_in b (call_state.Waiting g)) q)))
    (λ x y. absurd (omega (arith, l, r, x))) i)
    h

order_ended : (c : Clock) (number : ℕ) (state : CallState) (entries : List Entry) → NeverWaits state
    → InOrder c.calls entries → InOrder (ended number state c).calls entries
order_ended c number state entries never k =
    ended_found (λ calls. InOrder calls entries) c.calls number state (slice_get c.calls number) refl k
    (λ call g n m a b f h l p q u v.
    let new = record call { state = state } in
    set_waits (nat_eq number n) new (slice_get c.calls n) a f (Precedes (scheduling f a) (scheduling h b) entries)
    (never call.due)
    (λ p2.
    set_waits (nat_eq number m) new (slice_get c.calls m) b h (Precedes (scheduling f a) (scheduling h b) entries)
    (never call.due) (λ q2. k n m a b f h l p2 q2 u v) (sym (get_set c.calls number m call new g) ∙ q))
    (sym (get_set c.calls number n call new g) ∙ p))

order_moved : (c : Clock) (number before due : ℕ) (name : List ℕ) (key : ℕ) (entries : List Entry)
    → slice_get c.calls number ≡ Some (call_in before (call_state.Waiting (what.Call name key)))
    → InOrder c.calls entries → InOrder (moved number due c).calls (entries ++ entry.Reset name due ∷ [])
order_moved c number before due name key entries g k = λ n m a b f h l p q u v.
    let e = entry.Reset name due in
    moved_by c number before due n a (what.Call name key) f
    (Precedes (scheduling f a) (scheduling h b) (entries ++ e ∷ [])) g
    (λ same what_for. absurd (moved_not name key due f entries what_for u))
    (λ p2. moved_by c number before due m b (what.Call name key) h
    (Precedes (scheduling f a) (scheduling h b) (entries ++ e ∷ [])) g
    (λ same what_for. absurd (moved_not name key due h entries what_for v))
    (λ q2. precedes_on (scheduling f a) (scheduling h b) e entries
    (k n m a b f h l p2 q2 (unmoved_before f e entries u) (unmoved_before h e entries v))) q) p

-- what waits and is due with one that has run was logged after it, but for what was given a time anew
abbrev Ties : Timed → ℕ → List Call → List Entry → Type 0
Ties t due calls entries =
    (n other : ℕ) (due_for : Due) → slice_get calls n ≡ Some (call_in other (call_state.Waiting due_for)) → due ≡ other
    → IsUnmoved due_for entries → Precedes (later_of t due) (scheduling due_for other) entries

ties_on : (t : Timed) (due : ℕ) (e : Entry) (calls : List Call) (entries : List Entry) → Ties t due calls entries
    → Ties t due calls (entries ++ e ∷ [])
ties_on t due e calls entries k =
    λ n other f h q u. precedes_on (later_of t due) (scheduling f other) e entries
    (k n other f h q (unmoved_before f e entries u))

ties_added : (t : Timed) (due other : ℕ) (due_for : Due) (calls : List Call) (entries : List Entry)
    → Stands (later_of t due) entries → Ties t due calls entries
    → Ties t due (calls ++ call_in other (call_state.Waiting due_for) ∷ []) (entries ++ scheduling due_for other ∷ [])
ties_added t due other due_for calls entries s k = λ n at f h q u.
    let e = scheduling due_for other in
    pushed_at n (call_in other (call_state.Waiting due_for)) (call_in at (call_state.Waiting f)) calls
    (Precedes (later_of t due) (scheduling f at) (entries ++ e ∷ []))
    (λ p. precedes_on (later_of t due) (scheduling f at) e entries (k n at f p q (unmoved_before f e entries u)))
    (λ r p. subst (λ y. Precedes (later_of t due) y (entries ++ e ∷ [])) (scheduled_same due_for f other at p)
    (precedes_last (later_of t due) e entries s)) h

ties_ended : (t : Timed) (due : ℕ) (c : Clock) (number : ℕ) (state : CallState) (entries : List Entry)
    → NeverWaits state → Ties t due c.calls entries → Ties t due (ended number state c).calls entries
ties_ended t due c number state entries never k =
    ended_found (λ calls. Ties t due calls entries) c.calls number state (slice_get c.calls number) refl k
    (λ call g n other f h q u.
    set_waits (nat_eq number n) (record call { state = state }) (slice_get c.calls n) other f _
    (never call.due) (λ p. k n other f p q u)
    (sym (get_set c.calls number n call (record call { state = state }) g) ∙ h))

ties_moved : (t : Timed) (x : ℕ) (c : Clock) (number before due : ℕ) (name : List ℕ) (key : ℕ) (entries : List Entry)
    → slice_get c.calls number ≡ Some (call_in before (call_state.Waiting (what.Call name key)))
    → Ties t x c.calls entries → Ties t x (moved number due c).calls (entries ++ entry.Reset name due ∷ [])
ties_moved t x c number before due name key entries g k = λ n other f h q u.
    let e = entry.Reset name due in
    moved_by c number before due n other (what.Call name key) f
    (Precedes (later_of t x) (scheduling f other) (entries ++ e ∷ [])) g
    (λ same what_for. absurd (moved_not name key due f entries what_for u))
    (λ p. precedes_on (later_of t x) (scheduling f other) e entries (k n other f p q (unmoved_before f e entries u))) h

-- so it is of one that runs now
ended_is : (c : Clock) (number due : ℕ) (f : Due) (state : CallState)
    → slice_get c.calls number ≡ Some (call_in due (call_state.Waiting f))
    → (ended number state c).calls ≡ slice_set c.calls number (call_in due state)
ended_is c number due f state h = rw h refl

apart : (b : Bool) (number n : ℕ) → nat_eq number n ≡ b → b ≡ false → number ≤ n → number < n
apart b number n e f h = grind (arith, nat_tests)

still_waits : (b : Bool) (number n due other : ℕ) (f : Due) (o : Option Call) (Q : Type 0) → nat_eq number n ≡ b
    → (nat_eq number n ≡ false → o ≡ Some (call_in other (call_state.Waiting f)) → Q)
    → cond b (Some (call_in due call_state.Called)) o ≡ Some (call_in other (call_state.Waiting f)) → Q
still_waits true number n due other f o Q e h q =
    let same : call_in due call_state.Called ≡ call_in other (call_state.Waiting f) = cc in
    absurd (called_ended due other f same)
still_waits false number n due other f o Q e h q = h e q

run_ties : (c : Clock) (call : Upcoming) (entries : List Entry) → next_call c ≡ Some call → InOrder c.calls entries
    → (n other : ℕ) (f : Due)
    → slice_get (ended call.number call_state.Called c).calls n ≡ Some (call_in other (call_state.Waiting f))
    → call.due ≡ other → IsUnmoved call.what entries → IsUnmoved f entries
    → Precedes (scheduling call.what call.due) (scheduling f other) entries
run_ties c call entries next k n other f h q u v =
    let first = first_runs_next c call next in
    let set : slice_get (slice_set c.calls call.number (call_in call.due call_state.Called)) n
    ≡ Some (call_in other (call_state.Waiting f)) =
    ap (λ calls. slice_get calls n) (sym (ended_is c call.number call.due call.what call_state.Called first.waits))
    ∙ h in
    still_waits _ call.number n call.due other f (slice_get c.calls n) _ refl
    (λ e p.
    let later = first.in_order n f (p ∙ ap (λ x. Some (call_in x (call_state.Waiting f))) (sym q)) in
    k call.number n call.due other call.what f (apart _ call.number n refl e later) first.waits p u v)
    (sym (get_set c.calls call.number n (call_in call.due (call_state.Waiting call.what))
    (call_in call.due call_state.Called) first.waits) ∙ set)

-- what has run was due no later than what waits
record Ordered (t u : Timed) (c : Clock) (entries : List Entry) : Type 0 where
  base : Timely u c entries
  within : c.time ≤ MOST_TICKS
  ran : (due : ℕ) → HasRun t due entries → NotLater due c
  told : InOrder c.calls entries
  ties : (due : ℕ) → HasRun t due entries → Ties t due c.calls entries
  law : RunsInOrder t u entries

record Keeps (t u : Timed) (w v : World) : Type 0 where
  loops : Regular w.objects.loops → Regular v.objects.loops
  goes_on : Regular w.objects.loops → Ordered t u w.objects.clock w.journal.entries
      → Ordered t u v.objects.clock v.journal.entries

ran_before : (t : Timed) (due : ℕ) (e : Entry) (entries : List Entry) (Q : Type 0) → (HasRun t due entries → Q)
    → (run_of t ≡ e → ScheduledOnce t due entries → Q) → HasRun t due (entries ++ e ∷ []) → Q
ran_before t due e entries Q h k r =
    split_last (λ b. ScheduledOnce t due b → Q) (run_of t) e entries r.before r.later
    (λ bs ls q s. h (record { before = bs; later = ls; ran = q; scheduled = s })) (λ q s. k q s) r.ran r.scheduled

abbrev Later : Timed → Timed → List Entry → Entry → Type 0
Later t u told x =
    x ≡ run_of u → (first second : ℕ) → HasRun t first told → ScheduledOnce u second told
    → IsFirst t u first second told

-- what has run stands after its scheduling
run_stands : (t : Timed) (due : ℕ) (entries : List Entry) → HasRun t due entries → Stands (later_of t due) entries
run_stands t due entries r =
    let s = r.scheduled.scheduled in
    record {
      before = s.before;
      later = s.later ++ run_of t ∷ r.later;
      among = r.ran ∙ ap (λ l. l ++ run_of t ∷ r.later) s.among
          ∙ append_assoc s.before (later_of t due ∷ s.later) (run_of t ∷ r.later);
    }

-- what an entry changes, where something has run before
record Follows (t : Timed) (e : Entry) (c d : Clock) (entries : List Entry) : Type 0 where
  goes : (due : ℕ) → NotLater due c → NotLater due d
  order : InOrder d.calls (entries ++ e ∷ [])
  ties : (due : ℕ) → HasRun t due entries → Ties t due c.calls entries → Ties t due d.calls (entries ++ e ∷ [])

-- one more entry
ordered : (t u : Timed) (e : Entry) (c d : Clock) (entries : List Entry) → Timely u d (entries ++ e ∷ [])
    → d.time ≤ MOST_TICKS → Follows t e c d entries
    → ((due : ℕ) → run_of t ≡ e → ScheduledOnce t due entries → NotLater due d)
    → ((due : ℕ) → run_of t ≡ e → ScheduledOnce t due entries → Ties t due d.calls (entries ++ e ∷ []))
    → Later t u entries e → Ordered t u c entries → Ordered t u d (entries ++ e ∷ [])
ordered t u e c d entries base within follows now tied late k = record {
  base = base;
  within = within;
  ran = λ due r. ran_before t due e entries (NotLater due d) (λ z. follows.goes due (k.ran due z)) (now due) r;
  told = follows.order;
  ties =
      λ due r. ran_before t due e entries (Ties t due d.calls (entries ++ e ∷ []))
      (λ z. follows.ties due z (k.ties due z)) (tied due) r;
  law = entries_on (Later t u) e entries k.law late;
}

-- an entry by which nothing runs
quiet : (t u : Timed) (e : Entry) (c d : Clock) (entries : List Entry) → ((v : Timed) → e ≡ run_of v → ⊥)
    → Timely u d (entries ++ e ∷ []) → d.time ≤ MOST_TICKS → Follows t e c d entries → Ordered t u c entries
    → Ordered t u d (entries ++ e ∷ [])
quiet t u e c d entries n base within follows k =
    ordered t u e c d entries base within follows (λ due q s. absurd (n t (sym q))) (λ due q s. absurd (n t (sym q)))
    (λ q. absurd (n u q)) k

-- the clock's calls stay, or one of them ends
stays_so : (t u : Timed) (e : Entry) (c d : Clock) (entries : List Entry) → d.calls ≡ c.calls
    → ((due : ℕ) → NotLater due c → NotLater due d) → Ordered t u c entries → Follows t e c d entries
stays_so t u e c d entries s goes k = record {
  goes = goes;
  order = rw s (order_on e c.calls entries k.told);
  ties = λ due r z. rw s (ties_on t due e c.calls entries z);
}

ends_so : (t u : Timed) (e : Entry) (c : Clock) (number : ℕ) (state : CallState) (entries : List Entry)
    → NeverWaits state → Ordered t u c entries → Follows t e c (ended number state c) entries
ends_so t u e c number state entries never k = record {
  goes = λ due z. ends_later due c number state never z;
  order = order_on e (ended number state c).calls entries (order_ended c number state entries never k.told);
  ties =
      λ due r z. ties_on t due e (ended number state c).calls entries (ties_ended t due c number state entries never z);
}

moves_so : (t u : Timed) (c : Clock) (number before due : ℕ) (name : List ℕ) (key : ℕ) (entries : List Entry)
    → slice_get c.calls number ≡ Some (call_in before (call_state.Waiting (what.Call name key))) → c.time ≤ due
    → Ordered t u c entries → Follows t (entry.Reset name due) c (moved number due c) entries
moves_so t u c number before due name key entries g h k = record {
  goes = λ x z. moves_later x c number before due (what.Call name key) g h z;
  order = order_moved c number before due name key entries g k.told;
  ties = λ x r z. ties_moved t x c number before due name key entries g z;
}

not_run : (e : Entry) (v : Timed) → ended_by e ≡ None → e ≡ run_of v → ⊥
not_run e v p q = none-some v (sym p ∙ ap ended_by q ∙ run_ends v)

-- the call that runs is the one that was logged
same_due : (v : Timed) (c : Clock) (call : Upcoming) (due : ℕ) (entries : List Entry) → next_call c ≡ Some call
    → AllTold c.calls entries → entry_when_due call.what ≡ run_of v → ScheduledOnce v due entries → due ≡ call.due
same_due v c call due entries n told q s =
    let first = first_runs_next c call n in
    let same : timed_of call.what ≡ Some v = sym (coming_is call.what) ∙ ap ended_by q ∙ run_ends v in
    one_due v due call.due entries (omega (arith, s.once)) s.scheduled (subst (λ x. Stands x entries)
    (later_is call.what call.due v same) (scheduled_so call.what call.due entries
    (told.each call.number call.due call.what first.waits) (once_unmoved v call.what due entries same s)))

runs_tell : (t u : Timed) (c : Clock) (call : Upcoming) (entries : List Entry) → next_call c ≡ Some call
    → Ordered t u c entries
    → Ordered t u (ended call.number call_state.Called c) (entries ++ entry_when_due call.what ∷ [])
runs_tell t u c call entries n k =
    let first = first_runs_next c call n in
    let e = entry_when_due call.what in
    let d = ended call.number call_state.Called c in
    ordered t u e c d entries (clocks_tell u e c _ entries (Runs call n refl) k.base) k.within
    (ends_so t u e c call.number call_state.Called entries called_ended k)
    (λ due q s.
    let same = same_due t c call due entries n k.base.told (sym q) s in
    subst (λ x. NotLater x d) (sym same)
    (ends_later call.due c call.number call_state.Called called_ended (next_later c call n)))
    (λ due q s m other f h z v.
    let same = same_due t c call due entries n k.base.told (sym q) s in
    let told : scheduling call.what call.due ≡ later_of t due =
    later_is call.what call.due t (sym (coming_is call.what) ∙ ap ended_by (sym q) ∙ run_ends t)
    ∙ ap (later_of t) (sym same) in
    let is = sym (coming_is call.what) ∙ ap ended_by (sym q) ∙ run_ends t in
    precedes_on (later_of t due) (scheduling f other) e entries (subst
    (λ x. Precedes x (scheduling f other) entries) told (run_ties c call entries n k.told m other f h (sym same ∙ z)
    (once_unmoved t call.what due entries is s) (unmoved_before f e entries v))))
    (λ q first_due second r s.
    let same = same_due u c call second entries n k.base.told q s in
    let told : scheduling call.what call.due ≡ later_of u second =
    later_is call.what call.due u (sym (coming_is call.what) ∙ ap ended_by q ∙ run_ends u)
    ∙ ap (later_of u) (sym same) in
    record {
      earlier = omega (arith, same, (k.ran first_due r).waits call.number call.due call.what first.waits);
      in_order =
          λ z. subst (λ y. Precedes (later_of t first_due) y entries) told
          (k.ties first_due r call.number call.due call.what first.waits (z ∙ same)
          (once_unmoved u call.what second entries (sym (coming_is call.what) ∙ ap ended_by q ∙ run_ends u) s));
    })
    k

clocks_order : (t u : Timed) (e : Entry) (c d : Clock) (entries : List Entry) → Clocks e c d → Ordered t u c entries
    → Ordered t u d (entries ++ e ∷ [])
clocks_order t u e c d entries (Leaves p) k =
    quiet t u e c c entries (λ v q. not_run e v p.2 q) (clocks_tell u e c c entries (Leaves p) k.base) k.within
    (stays_so t u e c c entries refl (λ due z. z) k) k
clocks_order t u e c d entries (Adds due_for due q h) k =
    quiet t u e c (with_call due due_for c) entries (λ v r. not_run e v (ap ended_by q ∙ scheduling_ends due_for due) r)
    (clocks_tell u e c (with_call due due_for c) entries (Adds due_for due q h) k.base) k.within
    (record {
      goes = λ x z. added_later x due due_for c h z;
      order =
          subst (λ y. InOrder (with_call due due_for c).calls (entries ++ y ∷ [])) (sym q)
          (order_added due_for due c.calls entries k.base.told k.told);
      ties =
          λ x r z. subst (λ y. Ties t x (with_call due due_for c).calls (entries ++ y ∷ [])) (sym q)
          (ties_added t x due due_for c.calls entries (run_stands t x entries r) z);
    }) k
clocks_order t u e c d entries (Runs call n q) k =
    subst (λ x. Ordered t u (ended call.number call_state.Called c) (entries ++ x ∷ [])) (sym q)
    (runs_tell t u c call entries n k)
clocks_order t u e c d entries (Cancels number due name key g q) k =
    quiet t u e c (ended number call_state.Cancelled c) entries (λ v r. not_uncalled name v _ (sym q ∙ r))
    (clocks_tell u e c (ended number call_state.Cancelled c) entries (Cancels number due name key g q) k.base) k.within
    (ends_so t u e c number call_state.Cancelled entries cancelled_ended k) k
clocks_order t u e c d entries (Moves number before due name key g q h) k =
    subst (λ y. Ordered t u (moved number due c) (entries ++ y ∷ [])) (sym q)
    (quiet t u (entry.Reset name due) c (moved number due c) entries (λ v r. not_reset name due v _ r)
    (clocks_tell u (entry.Reset name due) c (moved number due c) entries
    (Moves number before due name key g refl h) k.base) k.within
    (moves_so t u c number before due name key entries g h k) k)
clocks_order t u e c d entries (Drops number p) k =
    quiet t u e c (ended number call_state.Dropped c) entries (λ v q. not_run e v p.2 q)
    (clocks_tell u e c (ended number call_state.Dropped c) entries (Drops number p) k.base) k.within
    (ends_so t u e c number call_state.Dropped entries dropped_ended k) k

arranged_order : (t u : Timed) (c d : Clock) (entries : List Entry) → Arranges c d → Ordered t u c entries
    → Ordered t u d entries
arranged_order t u c d entries Stays k = k
arranged_order t u c d entries (Loses number) k = record {
  base = arranged u c _ entries (Loses number) k.base;
  within = k.within;
  ran = λ due r. ends_later due c number call_state.Dropped dropped_ended (k.ran due r);
  told = order_ended c number call_state.Dropped entries dropped_ended k.told;
  ties = λ due r. ties_ended t due c number call_state.Dropped entries dropped_ended (k.ties due r);
  law = k.law;
}

advanced_later : (due time : ℕ) (c : Clock) → c.time ≤ time → NotLater due c → NotLater due (record c { time = time })
advanced_later due time c h k = record { passed = omega (arith, h, k.passed); waits = k.waits }

later_time : (time ticks : ℕ) → time ≤ MOST_TICKS → time ≤ min (time + ticks) MOST_TICKS
later_time time ticks h = omega (arith, h)

within_time : (time ticks : ℕ) → min (time + ticks) MOST_TICKS ≤ MOST_TICKS
within_time time ticks = omega arith

advanced_order : (t u : Timed) (c : Clock) (ticks : ℕ) (entries : List Entry) → Ordered t u c entries → (let time =
    min (c.time + ticks) MOST_TICKS in Ordered t u (record c { time = time }) (entries ++ entry.Advance time ∷ []))
advanced_order t u c ticks entries k =
    let time = min (c.time + ticks) MOST_TICKS in
    let d = record c { time = time } in
    quiet t u (entry.Advance time) c d entries (λ v q. not_run (entry.Advance time) v refl q)
    (advanced u c time entries k.base) (within_time c.time ticks)
    (stays_so t u (entry.Advance time) c d entries refl
    (λ due z. advanced_later due time c (later_time c.time ticks k.within) z) k) k

-- an entry of a Deferred
plain : (t u : Timed) (e : Entry) (w v : World) → IsPlain e → v.objects.clock ≡ w.objects.clock
    → v.journal.entries ≡ w.journal.entries ++ e ∷ [] → v.objects.loops ≡ w.objects.loops → Keeps t u w v
plain t u e w v p s q l = record {
  loops = λ r. rw l r;
  goes_on = λ r k. rw (s, q) (clocks_order t u e w.objects.clock w.objects.clock w.journal.entries (Leaves p) k);
}

-- each entry logs it
still : (t u : Timed) → Still (Keeps t u)
still t u = record {
  stays = λ w. record { loops = λ r. r; goes_on = λ r k. k };
  joins =
      λ x y z p q. record { loops = λ r. q.loops (p.loops r); goes_on = λ r k. q.goes_on (p.loops r) (p.goes_on r k) };
  stops = λ w. record { loops = λ r. r; goes_on = λ r k. k };
  news =
      λ name canceller w x. plain t u (entry.New (length w.records) name) w _ (refl, refl, refl)
      (named_same name _ w.objects) refl (named_loops name _ w.objects);
  asides =
      λ e change w a c l b x. record { loops = l; goes_on = λ r k. clocks_order t u e _ _ w.journal.entries (c r) k };
  arranges = λ change w s l b. record { loops = l; goes_on = λ r k. arranged_order t u _ _ w.journal.entries s k };
  submits = λ d pool work w x. plain t u (entry.Job (length w.works) d) w _ (refl, refl, refl) refl refl refl;
  refuses = λ d r w x h p q. plain t u (entry.Refuse d) w _ (refl, refl, refl) refl refl refl;
  swallows = λ d r w x h p. plain t u (entry.Swallow d) w _ (refl, refl, refl) refl refl refl;
  cancels = λ d w x. plain t u (entry.Cancel d) w _ (refl, refl, refl) refl refl refl;
  sets_swallows = λ d r w x h f c. plain t u (entry.Fire d cancelled) w _ (refl, refl, refl) refl refl refl;
  fires = λ d value r w x h f. plain t u (entry.Fire d value) w _ (refl, refl, refl) refl refl refl;
  adds = λ d pair r w x h. plain t u (entry.Add d) w _ (refl, refl, refl) refl refl refl;
  pauses = λ d r w x h. plain t u (entry.Pause d) w _ (refl, refl, refl) refl refl refl;
  unpauses = λ d r w x h p. plain t u (entry.Unpause d) w _ (refl, refl, refl) refl refl refl;
}

settles : (t u : Timed) → Settles (Keeps t u)
settles t u = record {
  calm = calm _ (still t u);
  drops = λ d r pair rest w h e a s. record { loops = λ z. z; goes_on = λ z k. k };
  runs = λ d r pair rest w x h e a s. plain t u (entry.Run d) w _ (refl, refl, refl) refl refl refl;
  hands = λ d c r rest w x h e a s. plain t u (entry.Hand d c r.value) w _ (refl, refl, refl) refl refl refl;
  sets = λ d value r w x h p s. plain t u (entry.Set d value) w _ (refl, refl, refl) refl refl refl;
  waits = λ d e r given w x h i p q s. plain t u (entry.Wait d e) w _ (refl, refl, refl) refl refl refl;
  takes = λ d e r given w x h i p q s. plain t u (entry.Take d e given.value) w _ (refl, refl, refl) refl refl refl;
  advances = λ ticks w x s. record {
    loops = λ r. r;
    goes_on = λ r k. advanced_order t u w.objects.clock ticks w.journal.entries k;
  };
}

world_in_order : (t u : Timed) (script : Script) (batches : List Batch) (w : World) → Means script batches w
    → RunsInOrder t u w.journal.entries
world_in_order t u script batches w m =
    ((means_keeps (Keeps t u) (settles t u) script batches w m).goes_on
    (record { each = λ l x h. absurd (none-some x h) }) (record {
      base = first_timely u _ refl refl;
      within = omega arith;
      ran = λ due r. stands_nowhere (run_of t) r.before r.later _ r.ran;
      told = λ n m a b f g l h i. absurd (none-some _ h);
      ties = λ due r. stands_nowhere (run_of t) r.before r.later _ r.ran;
      law = no_entries (Later t u);
    })).law

-- and so its report logs it
pub calls_in_order : CallsRunInOrder
calls_in_order script report r t u = reported (RunsInOrder t u) (world_in_order t u) script report r
