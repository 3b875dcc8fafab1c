-- What each change with its entry keeps, a whole run keeps: only a ready Deferred uses an item, and only one of which a
-- side runs gets what a side gave.
use Rattle.std.proofs.Common.{◌≡◌, ℕ, ◌+◌, Bool, true, false, nat_eq, List, [], ◌∷◌, ◌++◌, Option, None, Some}
use Rattle.std.proofs.Common.{refl, slice_get, slice_set, cond}
use Rattle.dv_value.specs.Failure.{is_fault}
use Rattle.dv_value.specs.declared.value.Value.{Value, Null}
use Rattle.dv_journal.specs.Journal.{fits, with_entry}
use Rattle.dv_journal.specs.declared.entry.Entry.{Entry}
use Rattle.dv_journal.specs.declared.entry.Entry.TheVariants as entry
use Rattle.dv_store.specs.Callbacks as callbacks
use Rattle.dv_store.specs.Callbacks.{with_handed, with_result}
use Rattle.dv_store.specs.Chaining as chaining
use Rattle.dv_store.specs.Fire as firing
use Rattle.dv_store.specs.Record.{with_item, new_record, changing}
use Rattle.dv_store.specs.declared.record.Item.{Item}
use Rattle.dv_store.specs.declared.record.Item.TheVariants as item
use Rattle.dv_store.specs.declared.store.Step.{Step}
use Rattle.dv_store.specs.declared.store.Step.TheVariants.{Nothing, Passed, Run, Handed}
use Rattle.dv_loop.proofs.Kept.{Kind}
use Rattle.dv_laws.proofs.Calm.{Calm}
use Rattle.dv_world.specs.World.{World, step, put, put_deferred, with_state}
use Rattle.dv_objects.specs.Pair.{Pair}
use Rattle.std.specs.Prelude.{min}
use Rattle.dv_clock.specs.declared.limits.TheConstants.{MOST_TICKS}
use Rattle.dv_objects.specs.Objects.{with_time}
use Rattle.std.proofs.lemmas.Bool.{eqb-true}
use Rattle.std.proofs.lemmas.Bool.Decides.{nat_tests}
use Rattle.std.proofs.Common.{zero, suc, ◌≤◌, sum_by, sym, subst, ap, ◌∙◌, arith}
use Rattle.std.specs.Prelude.{◌&&◌, not, is_none}
use Rattle.dv_value.specs.declared.value.Value.{Fault}
use Rattle.std.proofs.lemmas.List.Sums.{sum_by-append, sum_by-cons}
use Rattle.dv_loop.specs.Beginning.{happening}
use Rattle.dv_definition.specs.Scripts.{Occurrence, Occurs, Posts}
use Rattle.dv_script.specs.declared.event.Event.TheVariants as event
use Rattle.dv_script.specs.declared.script.Script.{Script}
use Rattle.dv_objects.specs.Pair.{side_for}
use Rattle.dv_objects.specs.declared.performed.Performed.{Performed}
use Rattle.dv_objects.specs.declared.performed.Performed.TheVariants.{Done, Gave, Raised, Awaits}
use Rattle.dv_posts.specs.Batches.{Batch}
use Rattle.dv_frames.specs.Turn.{Turned, ◌over◌, settling}
use Rattle.dv_frames.specs.declared.frame.Frame.{Frame}
use Rattle.dv_frames.specs.declared.frame.Frame.TheVariants as frame
use Rattle.dv_loop.specs.Turning.{turned}
use Rattle.dv_loop.specs.Settling.{place, side_begun, settled}
use Rattle.dv_loop.specs.Meaning.{Gives, Happens, Runs, Means}
use Rattle.dv_definition.specs.Scripts.{occurrences}
use Rattle.dv_loop.proofs.Extends.{Ended, gives_one}
use Rattle.dv_loop.proofs.Halts.{finishes}
use Rattle.dv_loop.proofs.Runs.{run, runs_lead}
use Rattle.dv_loop.proofs.Leading.{scripts_mean_what_is_defined}
use Rattle.dv_engine.specs.Report.{Reports}
use Rattle.dv_engine.specs.declared.report.Report.{Report}
use Rattle.dv_journal.specs.Journal.{Written}
use Rattle.dv_world.specs.World.{first_world, value_of}
use Rattle.dv_laws.proofs.At.{counted_of, at, first_at, set_at, changing_at, push_at, set_by, changing_by}
use Rattle.dv_laws.proofs.Mild.{Mild, PutsNothing, AllPutNothing, side_mild, turned_mild, action_mild}
use Rattle.dv_laws.proofs.Mild.{drain_mild, expect_mild, post_comes}
use Rattle.dv_laws.proofs.Stays.{live, step_stays, put_stays, put_deferred_stays, aside_stays}
use Rattle.dv_laws.proofs.Still.{Still, calm}
use Rattle.dv_laws.proofs.Steps.{telling_in, put_cases, put_deferred_cases}
use Rattle.dv_laws.proofs.Steps.{aside_cases}
use Rattle.dv_laws.proofs.Steps.{step_cases}

-- a relation that holds of each change of a world with its entry, those by which a Deferred is settled and time goes on
-- among them
pub record Settles (R : World → World → Type 0) : Type 0 where
  pub calm : Calm R
  pub drops : (d : ℕ) (r : Kind) (pair : Pair) (rest : List (Item Pair)) (w : World) → slice_get w.records d ≡ Some r
      → r.items ≡ item.Pair pair ∷ rest → callbacks.is_ready r ≡ true → w.stopped ≡ false
      → R w (with_state (slice_set w.records d (record r { items = rest }), w.journal) w)
  pub runs : (d : ℕ) (r : Kind) (pair : Pair) (rest : List (Item Pair)) (w : World)
      → fits w.journal (entry.Run d) ≡ true → slice_get w.records d ≡ Some r → r.items ≡ item.Pair pair ∷ rest
      → callbacks.is_ready r ≡ true → w.stopped ≡ false
      → R w (telling_in (entry.Run d) (slice_set w.records d (record r { items = rest; running = true })) w)
  pub hands : (d c : ℕ) (r : Kind) (rest : List (Item Pair)) (w : World)
      → fits w.journal (entry.Hand d c r.value) ≡ true → slice_get w.records d ≡ Some r
      → r.items ≡ item.HandOver c ∷ rest → callbacks.is_ready r ≡ true → w.stopped ≡ false
      → R w (telling_in (entry.Hand d c r.value)
      (changing c (with_handed r.value) (slice_set w.records d (record r { items = rest; value = Null }))) w)
  pub sets : (d : ℕ) (value : Value) (r : Kind) (w : World) → fits w.journal (entry.Set d value) ≡ true
      → slice_get w.records d ≡ Some r → r.running ≡ true → w.stopped ≡ false
      → R w (telling_in (entry.Set d value) (slice_set w.records d (with_result value r)) w)
  pub waits : (d e : ℕ) (r given : Kind) (w : World) → fits w.journal (entry.Wait d e) ≡ true
      → slice_get w.records d ≡ Some r → slice_get w.records e ≡ Some given → r.running ≡ true
      → chaining.is_pending d e given ≡ true → w.stopped ≡ false
      → R w (telling_in (entry.Wait d e) (chaining.waiting d e w.records) w)
  pub takes : (d e : ℕ) (r given : Kind) (w : World) → fits w.journal (entry.Take d e given.value) ≡ true
      → slice_get w.records d ≡ Some r → slice_get w.records e ≡ Some given → r.running ≡ true
      → chaining.is_pending d e given ≡ false → w.stopped ≡ false
      → R w (telling_in (entry.Take d e given.value) (chaining.taking d e given.value w.records) w)
  pub advances : (ticks : ℕ) (w : World)
      → (let time = min (w.objects.clock.time + ticks) MOST_TICKS in fits w.journal (entry.Advance time) ≡ true
      → w.stopped ≡ false
      → R w (record w { objects = with_time time w.objects; journal = with_entry w.journal (entry.Advance time) }))

-- whether a side of a Deferred runs, as a count
abbrev pub running_of : Kind → ℕ
running_of r = cond r.running 1 0

abbrev pub running_at : ℕ → World → ℕ
running_at n w = at running_of n w.records

running_true : (r : Kind) → 1 ≤ running_of r → r.running ≡ true
running_true r =
    elim r.running as (λ b. ◌≤◌ 1 (cond b 1 0) → b ≡ true) [ true ↦ λ h. refl | false ↦ λ h. absurd (omega (arith, h)) ]

running_found : (d : ℕ) (w : World) (r : Kind) → 1 ≤ running_at d w → slice_get w.records d ≡ Some r → r.running ≡ true
running_found d w r h g = running_true r (subst (λ (o : Option Kind). 1 ≤ counted_of running_of o) g h)

-- what it is to be ready
ready_parts : (a b c d : Bool) → (a && not b && c && d) ≡ true → (a ≡ true) × (b ≡ false) × (c ≡ true) × (d ≡ true)
ready_parts true false true true h = (refl, refl, refl, refl)
ready_parts true false true false h = absurd cc
ready_parts true false false d h = absurd cc
ready_parts true true c d h = absurd cc
ready_parts false b c d h = absurd cc

none_is : {A : Type 0} (o : Option A) → is_none o ≡ true → o ≡ None
none_is None h = refl
none_is (Some x) h = absurd cc

pub ready_idle : (r : Kind) → callbacks.is_ready r ≡ true → r.running ≡ false
ready_idle r h = (ready_parts r.fired r.running (nat_eq r.pauses 0) (is_none r.waits_for) h).1

pub ready_fired : (r : Kind) → callbacks.is_ready r ≡ true → r.fired ≡ true
ready_fired r h = (ready_parts r.fired r.running (nat_eq r.pauses 0) (is_none r.waits_for) h).0

pub ready_unpaused : (r : Kind) → callbacks.is_ready r ≡ true → r.pauses ≡ 0
ready_unpaused r h = eqb-true r.pauses 0 (ready_parts r.fired r.running (nat_eq r.pauses 0) (is_none r.waits_for) h).2

pub ready_free : (r : Kind) → callbacks.is_ready r ≡ true → r.waits_for ≡ None
ready_free r h = none_is r.waits_for (ready_parts r.fired r.running (nat_eq r.pauses 0) (is_none r.waits_for) h).3

pub not_running : (r : Kind) → callbacks.is_ready r ≡ true → running_of r ≡ 0
not_running r h = ap (λ b. cond b 1 0) (ready_idle r h)

-- the sides that run are the same
pub record SameRunning (w u : World) : Type 0 where
  pub same : (n : ℕ) → running_at n u ≡ running_at n w

pub same_running : Still SameRunning
same_running = record {
  stays = λ w. record { same = λ n. refl };
  joins = λ u v w p q. record { same = λ n. q.same n ∙ p.same n };
  stops = λ w. record { same = λ n. refl };
  news = λ name canceller w x. record { same = λ n. push_at running_of n (new_record name canceller) w.records refl };
  asides = λ e change w a c l b x. record { same = λ n. refl };
  arranges = λ change w s l b. record { same = λ n. refl };
  submits = λ d pool work w x. record { same = λ n. refl };
  refuses = λ d r w x g p q. record { same = λ n. refl };
  swallows = λ d r w x g q. record { same = λ n. set_at running_of n d r _ w.records g refl };
  cancels = λ d w x. record { same = λ n. refl };
  sets_swallows = λ d r w x g p c. record {
    same = λ n. changing_at running_of n d (firing.with_swallows true) _ (λ y. refl)
        ∙ set_at running_of n d r _ w.records g refl;
  };
  fires = λ d value r w x g p. record { same = λ n. set_at running_of n d r _ w.records g refl };
  adds = λ d pair r w x g. record { same = λ n. set_at running_of n d r _ w.records g refl };
  pauses = λ d r w x g. record { same = λ n. set_at running_of n d r _ w.records g refl };
  unpauses = λ d r w x g p. record { same = λ n. set_at running_of n d r _ w.records g refl };
}

-- what a step begins to run, and what a put ends
abbrev pub placing : ℕ → ℕ → Step Pair → ℕ
placing n d Nothing = 0
placing n d Passed = 0
placing n d (Run pair) = cond (nat_eq d n) 1 0
placing n d (Handed c) = 0

pub step_runs : (n d : ℕ) (w : World) → running_at n (step d w).1 ≡ running_at n w + placing n d (step d w).0
step_runs n d w =
    step_cases w (λ move u. running_at n u ≡ running_at n w + placing n d move) (omega arith) (omega arith) d
    (λ r pair rest g e a. omega (arith, set_at running_of n d r (record r { items = rest }) w.records g refl))
    (λ r pair rest x g e a.
    first_at running_of n d r (record r { items = rest; running = true }) w.records g (not_running r a) refl)
    (λ r c rest x g e a.
    let taken : Kind = record r { items = rest; value = Null } in
    omega (
      arith,
      changing_at running_of n c (with_handed r.value) (slice_set w.records d taken) (λ y. refl),
      set_at running_of n d r taken w.records g refl,
    ))

once_of : (r : Kind) → running_of r ≤ 1
once_of r = elim r.running as (λ b. ◌≤◌ (cond b 1 0) 1) [ true ↦ omega arith | false ↦ omega arith ]

once_found : (o : Option Kind) → counted_of running_of o ≤ 1
once_found None = omega arith
once_found (Some r) = once_of r

falls_by : (b : Bool) (x y z : ℕ) → x ≤ 1 → z ≡ x → x ≤ cond b y z + cond b 1 0
falls_by true x y z h e = omega (arith, h)
falls_by false x y z h e = omega (arith, e)

put_ends : (n d : ℕ) (value : Value) (w : World) → running_at n w ≤ running_at n (put d value w) + cond (nat_eq d n) 1 0
put_ends n d value w =
    put_cases w (λ u. running_at n w ≤ running_at n u + cond (nat_eq d n) 1 0) (omega arith) (omega arith) d value
    (λ r x g. rw (set_by running_of n d r (with_result value r) w.records g)
    (falls_by (nat_eq d n) _ _ _ (once_found (slice_get w.records n)) refl))

put_deferred_ends : (n d e : ℕ) (w : World) → running_at n w ≤ running_at n (put_deferred d e w) + cond (nat_eq d n) 1 0
put_deferred_ends n d e w =
    put_deferred_cases w (λ u. running_at n w ≤ running_at n u + cond (nat_eq d n) 1 0) (omega arith) (omega arith) d e
    (λ r given x g h p.
    let first = changing e (with_item (item.HandOver d)) w.records in
    rw (changing_by running_of n d (chaining.with_wait e) first) (falls_by (nat_eq d n) _ _ _ (once_found
    (slice_get w.records n)) (changing_at running_of n e (with_item (item.HandOver d)) w.records (λ y. refl))))
    (λ r given x g h p.
    let first = changing e chaining.without_value w.records in
    rw (changing_by running_of n d (with_result given.value) first) (falls_by (nat_eq d n) _ _ _
    (once_found (slice_get w.records n)) (changing_at running_of n e chaining.without_value w.records (λ y. refl))))

place_ends : (n d : ℕ) (o : Performed) (w : World) → running_at n w ≤ running_at n (place d o w) + cond (nat_eq d n) 1 0
place_ends n d Done w = put_ends n d Null w
place_ends n d (Gave value) w = put_ends n d value w
place_ends n d (Raised failure) w = put_ends n d (Fault failure) w
place_ends n d (Awaits e) w = put_deferred_ends n d e w

-- for how many frames a side of n is to be put in place
abbrev pub place_of : ℕ → Frame → ℕ
place_of n (frame.Settle d) = 0
place_of n (frame.Place d) = cond (nat_eq d n) 1 0
place_of n (frame.Rest rest) = 0
place_of n (frame.Canceller d) = 0
place_of n (frame.Maybe purpose) = 0
place_of n (frame.Add d pair) = 0
place_of n (frame.Cancel d) = 0
place_of n (frame.Give given) = 0
place_of n (frame.Notify d t) = 0
place_of n (frame.Stepped t) = 0
place_of n (frame.Halt t) = 0
place_of n (frame.Tick k units) = 0
place_of n frame.Tell = 0
place_of n frame.Due = 0
place_of n (frame.Inline inlining) = 0

abbrev pub places : ℕ → List Frame → ℕ
places n fs = sum_by (place_of n) fs

free_place : (n : ℕ) (f : Frame) → PutsNothing f → place_of n f ≡ 0
free_place n (frame.Settle d) h = refl
free_place n (frame.Place d) h = absurd h
free_place n (frame.Rest rest) h = refl
free_place n (frame.Canceller d) h = refl
free_place n (frame.Maybe purpose) h = refl
free_place n (frame.Add d pair) h = refl
free_place n (frame.Cancel d) h = refl
free_place n (frame.Give given) h = refl
free_place n (frame.Notify d t) h = refl
free_place n (frame.Stepped t) h = refl
free_place n (frame.Halt t) h = refl
free_place n (frame.Tick k units) h = refl
free_place n frame.Tell h = refl
free_place n frame.Due h = refl
free_place n (frame.Inline inlining) h = refl

pub free_places : (n : ℕ) (fs : List Frame) → AllPutNothing fs → places n fs ≡ 0
free_places n [] h = refl
free_places n (f ∷ fs) h = omega (arith, sum_by-cons (place_of n) f fs, free_place n f h.0, free_places n fs h.1)

pub is_itself : (d : ℕ) → nat_eq d d ≡ true
is_itself d = grind (arith, nat_tests)

own_place : (d : ℕ) → place_of d (frame.Place d) ≡ 1
own_place d = ap {B = ℕ} (λ b. cond b 1 0) (is_itself d)

-- the result of a side is put in place, and its Deferred is to be settled
pub place_runs : (d : ℕ) (o : Performed) (w : World) → turned (frame.Place d) o w ≡ settling d (place d o w)
place_runs d Done w = refl
place_runs d (Gave value) w = refl
place_runs d (Raised failure) w = refl
place_runs d (Awaits e) w = refl

-- each side that is to be put in place runs
record Standing (fs : List Frame) (w : World) : Type 0 where
  each : (n : ℕ) → places n fs ≤ running_at n w

-- so it is after what a rule leaves, where it leaves this much more to be put in place and begins to run it
record Leaves (R : World → World → Type 0) (below : List Frame) (w : World) (t : Turned) : Type 0 where
  goes : R w t.2
  standing : Standing (t.0 ++ below) t.2

module _ (R : World → World → Type 0) (k : Settles R) where
  mild_leaves : (below : List Frame) (w : World) (t : Turned) → Standing below w → Mild w t → Leaves R below w t
  mild_leaves below w t s m = record {
    goes = m.comes.keeps R k.calm;
    standing = record {
      each = λ n. omega (
        arith,
        sum_by-append (place_of n) t.0 below,
        free_places n t.0 m.free,
        s.each n,
        (m.comes.keeps SameRunning (calm SameRunning same_running)).same n,
      );
    };
  }

  -- a side that begins to run is to be put in place
  run_leaves : (below : List Frame) (d : ℕ) (pair : Pair) (w0 w : World) → R w0 w
      → ((n : ℕ) → running_at n w ≡ running_at n w0 + cond (nat_eq d n) 1 0) → Standing below w0
      → Leaves R below w0 (settled d (Run pair) w)
  run_leaves below d pair w0 w c e s =
      let m = side_mild d (side_for pair (is_fault (value_of d w))) (value_of d w) w in
      let t = side_begun d (side_for pair (is_fault (value_of d w))) (value_of d w) w in
      record {
        goes = k.calm.quiet.joins w0 w t.2 c (m.comes.keeps R k.calm);
        standing = record {
          each = λ n.
              omega (
                arith,
                sum_by-append (place_of n) (t.0 ++ frame.Place d ∷ []) below,
                sum_by-append (place_of n) t.0 (frame.Place d ∷ []),
                sum_by-cons (place_of n) (frame.Place d) [],
                free_places n t.0 m.free,
                s.each n,
                e n,
                (m.comes.keeps SameRunning (calm SameRunning same_running)).same n,
              );
        };
      }

  settled_leaves : (below : List Frame) (d : ℕ) (move : Step Pair) (w0 w : World) → R w0 w
      → ((n : ℕ) → running_at n w ≡ running_at n w0 + placing n d move) → Standing below w0
      → Leaves R below w0 (settled d move w)
  settled_leaves below d Nothing w0 w c e s =
      record { goes = c; standing = record { each = λ n. omega (arith, s.each n, e n) } }
  settled_leaves below d Passed w0 w c e s = record {
    goes = c;
    standing = record { each = λ n. omega (arith, sum_by-cons (place_of n) (frame.Settle d) below, s.each n, e n) };
  }
  settled_leaves below d (Run pair) w0 w c e s = run_leaves below d pair w0 w c e s
  settled_leaves below d (Handed other) w0 w c e s = record {
    goes = c;
    standing = record {
      each = λ n. omega (
        arith,
        sum_by-cons (place_of n) (frame.Settle other) (frame.Settle d ∷ below),
        sum_by-cons (place_of n) (frame.Settle d) below,
        s.each n,
        e n,
      );
    };
  }

  step_goes : (d : ℕ) (w : World) → R w (step d w).1
  step_goes d w =
      live (R w) w (step d w).1 (k.calm.quiet.stays w) (step_stays d w)
      (λ s. step_cases w (λ move u. R w u) (k.calm.quiet.stays w) (k.calm.stops w) d
      (λ r pair rest g e a. k.drops d r pair rest w g e a s) (λ r pair rest x g e a. k.runs d r pair rest w x g e a s)
      (λ r c rest x g e a. k.hands d c r rest w x g e a s))

  put_goes : (d : ℕ) (value : Value) (w : World) → 1 ≤ running_at d w → R w (put d value w)
  put_goes d value w h =
      live (R w) w (put d value w) (k.calm.quiet.stays w) (put_stays d value w)
      (λ s. put_cases w (R w) (k.calm.quiet.stays w) (k.calm.stops w) d value
      (λ r x g. k.sets d value r w x g (running_found d w r h g) s))

  put_deferred_goes : (d e : ℕ) (w : World) → 1 ≤ running_at d w → R w (put_deferred d e w)
  put_deferred_goes d e w h =
      live (R w) w (put_deferred d e w) (k.calm.quiet.stays w) (put_deferred_stays d e w)
      (λ s. put_deferred_cases w (R w) (k.calm.quiet.stays w) (k.calm.stops w) d e
      (λ r given x g i p. k.waits d e r given w x g i (running_found d w r h g) p s)
      (λ r given x g i p. k.takes d e r given w x g i (running_found d w r h g) p s))

  place_goes : (d : ℕ) (o : Performed) (w : World) → 1 ≤ running_at d w → R w (place d o w)
  place_goes d Done w h = put_goes d Null w h
  place_goes d (Gave value) w h = put_goes d value w h
  place_goes d (Raised failure) w h = put_goes d (Fault failure) w h
  place_goes d (Awaits e) w h = put_deferred_goes d e w h

  below_stands : (f : Frame) (below : List Frame) (w : World) → Standing (f ∷ below) w → Standing below w
  below_stands f below w s = record { each = λ n. omega (arith, sum_by-cons (place_of n) f below, s.each n) }

  placed_leaves : (below : List Frame) (d : ℕ) (o : Performed) (w : World) → Standing (frame.Place d ∷ below) w
      → Leaves R below w (settling d (place d o w))
  placed_leaves below d o w s = record {
    goes = place_goes d o w (omega (arith, sum_by-cons (place_of d) (frame.Place d) below, s.each d, own_place d));
    standing = record {
      each = λ n. omega (
        arith,
        sum_by-cons (place_of n) (frame.Place d) below,
        sum_by-cons (place_of n) (frame.Settle d) below,
        s.each n,
        place_ends n d o w,
      );
    };
  }

  place_leaves : (below : List Frame) (d : ℕ) (o : Performed) (w : World) → Standing (frame.Place d ∷ below) w
      → Leaves R below w (turned (frame.Place d) o w)
  place_leaves below d o w s =
      subst (λ (t : Turned). Leaves R below w t) (sym (place_runs d o w)) (placed_leaves below d o w s)

  settle_leaves : (below : List Frame) (d : ℕ) (o : Performed) (w : World) → Standing below w
      → Leaves R below w (turned (frame.Settle d) o w)
  settle_leaves below d o w s =
      settled_leaves below d (step d w).0 w (step d w).1 (step_goes d w) (λ n. step_runs n d w) s

  -- one turn
  turn_leaves : (f : Frame) (o : Performed) (w : World) (below : List Frame) → Standing (f ∷ below) w
      → Leaves R below w (turned f o w)
  turn_leaves (frame.Settle d) o w below s = settle_leaves below d o w (below_stands (frame.Settle d) below w s)
  turn_leaves (frame.Place d) o w below s = place_leaves below d o w s
  turn_leaves (frame.Rest rest) o w below s =
      mild_leaves below w _ (below_stands (frame.Rest rest) below w s) (turned_mild (frame.Rest rest) o w tt)
  turn_leaves (frame.Canceller d) o w below s =
      mild_leaves below w _ (below_stands (frame.Canceller d) below w s) (turned_mild (frame.Canceller d) o w tt)
  turn_leaves (frame.Maybe purpose) o w below s =
      mild_leaves below w _ (below_stands (frame.Maybe purpose) below w s) (turned_mild (frame.Maybe purpose) o w tt)
  turn_leaves (frame.Add d pair) o w below s =
      mild_leaves below w _ (below_stands (frame.Add d pair) below w s) (turned_mild (frame.Add d pair) o w tt)
  turn_leaves (frame.Cancel d) o w below s =
      mild_leaves below w _ (below_stands (frame.Cancel d) below w s) (turned_mild (frame.Cancel d) o w tt)
  turn_leaves (frame.Give given) o w below s =
      mild_leaves below w _ (below_stands (frame.Give given) below w s) (turned_mild (frame.Give given) o w tt)
  turn_leaves (frame.Notify d t) o w below s =
      mild_leaves below w _ (below_stands (frame.Notify d t) below w s) (turned_mild (frame.Notify d t) o w tt)
  turn_leaves (frame.Stepped t) o w below s =
      mild_leaves below w _ (below_stands (frame.Stepped t) below w s) (turned_mild (frame.Stepped t) o w tt)
  turn_leaves (frame.Halt t) o w below s =
      mild_leaves below w _ (below_stands (frame.Halt t) below w s) (turned_mild (frame.Halt t) o w tt)
  turn_leaves (frame.Tick k units) o w below s =
      mild_leaves below w _ (below_stands (frame.Tick k units) below w s) (turned_mild (frame.Tick k units) o w tt)
  turn_leaves frame.Tell o w below s =
      mild_leaves below w _ (below_stands frame.Tell below w s) (turned_mild frame.Tell o w tt)
  turn_leaves frame.Due o w below s =
      mild_leaves below w _ (below_stands frame.Due below w s) (turned_mild frame.Due o w tt)
  turn_leaves (frame.Inline inlining) o w below s =
      mild_leaves below w _ (below_stands (frame.Inline inlining) below w s)
      (turned_mild (frame.Inline inlining) o w tt)

  -- all turns
  run_keeps : (n : ℕ) (fs : List Frame) (o : Performed) (w : World) (q : Performed) (v : World)
      → run n fs o w ≡ Some (q, v) → Standing fs w → R w v
  unfolding run
  run_keeps zero [] o w q v h s =
      let x : Ended = (o, w) in
      let y : Ended = (q, v) in
      let e : x ≡ y = cc in
      subst (λ u. R w u) (ap (λ (r : Ended). r.1) e) (k.calm.quiet.stays w)
  run_keeps zero (f ∷ below) o w q v h s = absurd cc
  run_keeps (suc n) [] o w q v h s = absurd cc
  run_keeps (suc n) (f ∷ below) o w q v h s =
      let t = turned f o w over below in
      let left = turn_leaves f o w below s in
      k.calm.quiet.joins w t.2 v left.goes (run_keeps n t.0 t.1 t.2 q v h left.standing)

  gives_keeps : (fs : List Frame) (o : Performed) (w : World) (p : Performed) (u : World) → Gives fs o w p u
      → Standing fs w → R w u
  gives_keeps fs o w p u g s =
      let all = finishes fs o w in
      let same = gives_one (runs_lead all.turns fs o w all.outcome all.after all.ends) g in
      subst (λ x. R w x) same.1 (run_keeps all.turns fs o w all.outcome all.after all.ends s)

  -- what an event or a post begins with
  free_stands : (fs : List Frame) (w : World) → AllPutNothing fs → Standing fs w
  free_stands fs w h = record { each = λ n. omega (arith, free_places n fs h) }

  happens_keeps : (occurrence : Occurrence) (w u : World) → Happens occurrence w u → R w u
  happens_keeps (Occurs (event.Action action)) w u h =
      let t = happening (Occurs (event.Action action)) w in
      let m = action_mild action w in
      k.calm.quiet.joins w t.2 u (m.comes.keeps R k.calm)
      (gives_keeps t.0 t.1 t.2 h.0 u h.1 (free_stands t.0 t.2 m.free))
  happens_keeps (Occurs (event.Advance ticks)) w u h =
      let t = happening (Occurs (event.Advance ticks)) w in
      let goes : R w t.2 =
      live (R w) w t.2 (k.calm.quiet.stays w) (aside_stays (entry.Advance _) (with_time _) w)
      (λ s. aside_cases w (R w) (k.calm.quiet.stays w) (k.calm.stops w) (entry.Advance _) (with_time _)
      (λ x. k.advances ticks w x s)) in
      k.calm.quiet.joins w t.2 u goes (gives_keeps t.0 t.1 t.2 h.0 u h.1 (free_stands t.0 t.2 (tt, tt)))
  happens_keeps (Occurs (event.Drain most)) w u h =
      let t = happening (Occurs (event.Drain most)) w in
      let m = drain_mild w in
      k.calm.quiet.joins w t.2 u (m.comes.keeps R k.calm)
      (gives_keeps t.0 t.1 t.2 h.0 u h.1 (free_stands t.0 t.2 m.free))
  happens_keeps (Occurs (event.Expect name expected)) w u h =
      let t = happening (Occurs (event.Expect name expected)) w in
      let m = expect_mild name expected w in
      k.calm.quiet.joins w t.2 u (m.comes.keeps R k.calm)
      (gives_keeps t.0 t.1 t.2 h.0 u h.1 (free_stands t.0 t.2 m.free))
  happens_keeps (Posts posted body) w u h =
      let t = happening (Posts posted body) w in
      k.calm.quiet.joins w t.2 u ((post_comes posted.caller posted.index w).keeps R k.calm)
      (gives_keeps t.0 t.1 t.2 h.0 u h.1 (free_stands t.0 t.2 (tt, (tt, tt))))

  runs_keeps : (all : List Occurrence) (w u : World) → Runs all w u → R w u
  runs_keeps [] w u h = subst (λ x. R w x) (sym h) (k.calm.quiet.stays w)
  runs_keeps (occurrence ∷ rest) w u h =
      k.calm.quiet.joins w h.0 u (happens_keeps occurrence w h.0 h.1) (runs_keeps rest h.0 u h.2)

  -- so a run keeps it
  pub means_keeps : (script : Script) (batches : List Batch) (w : World) → Means script batches w
      → R
      (first_world script.classes script.bodies script.ends_throw script.limit script.cooperator script.cooperators) w
  means_keeps script batches w h =
      runs_keeps (occurrences script.callers script.events batches)
      (first_world script.classes script.bodies script.ends_throw script.limit script.cooperator script.cooperators) w h

-- and what is so of the journal of each run, is so of the journal of each report
pub reported : (P : List Entry → Type 0)
    → ((script : Script) (batches : List Batch) (w : World) → Means script batches w → P w.journal.entries)
    → (script : Script) (report : Report) → Reports script report → P report.journal.entries
reported P h script report r =
    subst (λ (j : Written). P j.entries) (sym r.tells.journal)
    (h script report.batches r.world ((scripts_mean_what_is_defined script report.batches r.world).1 r.means))
