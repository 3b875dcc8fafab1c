-- No side of a Deferred is left running: each that runs is to be put in place, unless the run has stopped.
use Rattle.std.proofs.Common.{◌≡◌, ℕ, zero, suc, ◌+◌, ◌≤◌, ◌++◌, Bool, true, false, nat_eq, List, [], ◌∷◌, Option, None}
use Rattle.std.proofs.Common.{Some, Result, Ok, Err, refl, sym, ap, subst, ◌∙◌, arith, slice_get, slice_set, cond}
use Rattle.std.proofs.lemmas.Bool.{eqb-true}
use Rattle.std.proofs.lemmas.List.Sums.{sum_by-append, sum_by-cons}
use Rattle.dv_value.specs.Failure.{is_fault}
use Rattle.dv_value.specs.declared.value.Value.{Value, Null, Fault}
use Rattle.dv_journal.specs.Journal.{fits}
use Rattle.dv_journal.specs.Telling.{telling}
use Rattle.dv_journal.specs.declared.entry.Entry.TheVariants as entry
use Rattle.dv_journal.specs.declared.error.Stop.{Stop}
use Rattle.dv_journal.specs.declared.error.Stop.TheVariants as stop
use Rattle.dv_script.specs.declared.event.Event.TheVariants as event
use Rattle.dv_script.specs.declared.script.Script.{Script}
use Rattle.dv_store.specs.Callbacks as callbacks
use Rattle.dv_store.specs.Callbacks.{with_result}
use Rattle.dv_store.specs.Chaining as chaining
use Rattle.dv_store.specs.Record.{with_item, changing}
use Rattle.dv_store.specs.State.{Told}
use Rattle.dv_store.specs.declared.record.Item.TheVariants as item
use Rattle.dv_store.specs.declared.store.Placed.{Placed}
use Rattle.dv_store.specs.declared.store.Placed.TheVariants.{Taken, Waits}
use Rattle.dv_store.specs.declared.store.Step.{Step}
use Rattle.dv_store.specs.declared.store.Step.TheVariants.{Nothing, Passed, Run, Handed}
use Rattle.dv_objects.specs.Objects.{with_time}
use Rattle.dv_objects.specs.Pair.{Pair, side_for}
use Rattle.dv_objects.specs.declared.canceller.Canceller.{Canceller}
use Rattle.dv_objects.specs.declared.performed.Performed.{Performed}
use Rattle.dv_objects.specs.declared.performed.Performed.TheVariants.{Done, Gave, Raised, Awaits}
use Rattle.dv_posts.specs.Batches.{Batch}
use Rattle.dv_frames.specs.Turn.{Turned, ◌over◌, settling}
use Rattle.dv_frames.specs.declared.frame.Frame.{Frame}
use Rattle.dv_frames.specs.declared.frame.Frame.TheVariants as frame
use Rattle.dv_definition.specs.Definition as page
use Rattle.dv_definition.specs.Scripts as scripts
use Rattle.dv_definition.specs.Scripts.{Occurrence, Occurs, Posts, occurrences}
use Rattle.dv_definition.specs.Steps as steps
use Rattle.dv_loop.specs.Beginning.{happening}
use Rattle.dv_loop.specs.Meaning.{Gives, Runs, Means}
use Rattle.dv_loop.specs.Settling.{place, side_begun, settled}
use Rattle.dv_loop.specs.Turning.{turned}
use Rattle.dv_loop.proofs.Extends.{Ended, gives_one}
use Rattle.dv_loop.proofs.Halts.{finishes}
use Rattle.dv_loop.proofs.Kept.{Both, Kind}
use Rattle.dv_loop.proofs.RuleComes.{rule_comes}
use Rattle.dv_loop.proofs.Runs.{run, runs_lead}
use Rattle.dv_loop.proofs.StepsCome.{step_comes, question_comes}
use Rattle.dv_world.specs.World as world
use Rattle.dv_world.specs.World.{World, Records, state_of, step, put, put_deferred, first_world, value_of}
use Rattle.dv_laws.proofs.At.{counted_of, at, set_by, changing_at, changing_by}
use Rattle.dv_laws.proofs.Mild.{Mild, IsMild, side_mild, turned_mild, action_mild, drain_mild, expect_mild}
use Rattle.dv_laws.proofs.Mild.{post_comes}
use Rattle.dv_laws.proofs.Made.{is_there, not_there, grows, Bound, none_bound, Made, MadeResult, Holds, rule_holds}
use Rattle.dv_laws.proofs.Made.{all_on, all_append}
use Rattle.dv_laws.proofs.MadeRules.{rule_sound, happens_sound}
use Rattle.dv_laws.proofs.Settles.{running_of, running_at, SameRunning, same_running, placing, step_runs, place_of}
use Rattle.dv_laws.proofs.Settles.{places}
use Rattle.dv_laws.proofs.Settles.{is_itself, place_runs}
use Rattle.dv_laws.proofs.Steps.{put_cases, put_deferred_cases, aside_cases}
use Rattle.dv_laws.proofs.Still.{calm}

-- 1. A side runs no more once what it gave is put in place.

all_zero : (f : Kind → ℕ) → ((r : Kind) → f r ≡ 0) → (o : Option Kind) → counted_of f o ≡ 0
all_zero f h None = refl
all_zero f h (Some r) = h r

less_if : (b : Bool) (x y : ℕ) → x ≡ 0 → cond b x y ≤ y
less_if true x y e = omega (arith, e)
less_if false x y e = omega arith

put_fewer : (n d : ℕ) (value : Value) (w : World) → running_at n (put d value w) ≤ running_at n w
put_fewer n d value w =
    put_cases w (λ u. running_at n u ≤ running_at n w) (omega arith) (omega arith) d value
    (λ r x g. rw (set_by running_of n d r (with_result value r) w.records g) (less_if (nat_eq d n) 0 _ refl))

put_deferred_fewer : (n d e : ℕ) (w : World) → running_at n (put_deferred d e w) ≤ running_at n w
put_deferred_fewer n d e w =
    put_deferred_cases w (λ u. running_at n u ≤ running_at n w) (omega arith) (omega arith) d e
    (λ r given x g h p.
    let first = changing e (with_item (item.HandOver d)) w.records in
    omega (
      arith,
      changing_by running_of n d (chaining.with_wait e) first,
      less_if (nat_eq d n) (at (λ y. running_of (chaining.with_wait e y)) n first) (at running_of n first)
          (all_zero (λ y. running_of (chaining.with_wait e y)) (λ y. refl) (slice_get first n)),
      changing_at running_of n e (with_item (item.HandOver d)) w.records (λ y. refl),
    ))
    (λ r given x g h p.
    let first = changing e chaining.without_value w.records in
    omega (
      arith,
      changing_by running_of n d (with_result given.value) first,
      less_if (nat_eq d n) (at (λ y. running_of (with_result given.value y)) n first) (at running_of n first)
          (all_zero (λ y. running_of (with_result given.value y)) (λ y. refl) (slice_get first n)),
      changing_at running_of n e chaining.without_value w.records (λ y. refl),
    ))

place_fewer : (n d : ℕ) (o : Performed) (w : World) → running_at n (place d o w) ≤ running_at n w
place_fewer n d Done w = put_fewer n d Null w
place_fewer n d (Gave value) w = put_fewer n d value w
place_fewer n d (Raised failure) w = put_fewer n d (Fault failure) w
place_fewer n d (Awaits e) w = put_deferred_fewer n d e w

module _ (d : ℕ) (w : World) where
  abbrev IsIdle : World → Type 0
  IsIdle u = u.stopped ≡ false → running_at d u ≡ 0

  idle_after : {A : Type 0} (b : Bool) (x : A) (s : Both) → at running_of d s.0 ≡ 0
      → (let t = cond {A = Result A Stop × Both} b (Ok x, s) (Err stop.Limit, state_of w) in
      IsIdle (world.after t.0 t.1 w))
  idle_after true x s h q = h
  idle_after false x s h q = absurd cc

  idle_unless : (b : Bool) (u : World) → w.stopped ≡ b → (w.stopped ≡ false → IsIdle u) → IsIdle (cond b w u)
  idle_unless true u e h q = let wrong : true ≡ false = sym e ∙ q in absurd cc
  idle_unless false u e h q = h e q

  set_idle : (r s : Kind) (l : Records) → slice_get l d ≡ Some r → running_of s ≡ 0
      → at running_of d (slice_set l d s) ≡ 0
  set_idle r s l g h =
      set_by running_of d d r s l g ∙ ap {B = ℕ} (λ b. cond b (running_of s) (at running_of d l)) (is_itself d) ∙ h

  changed_idle : (g : Kind → Kind) (l : Records) → ((r : Kind) → running_of (g r) ≡ 0)
      → at running_of d (changing d g l) ≡ 0
  changed_idle g l h =
      changing_by running_of d d g l
      ∙ ap {B = ℕ} (λ b. cond b (at (λ x. running_of (g x)) d l) (at running_of d l)) (is_itself d)
      ∙ all_zero (λ x. running_of (g x)) h (slice_get l d)

  put_found_idle : (value : Value) (o : Option Kind) → slice_get w.records d ≡ o
      → (let t = callbacks.put_found d value o (state_of w) in IsIdle (world.after t.0 t.1 w))
  put_found_idle value None g q = ap (counted_of running_of) g
  put_found_idle value (Some r) g q =
      idle_after (fits w.journal (entry.Set d value)) tt _ (set_idle r (with_result value r) w.records g refl) q

  put_idle : (value : Value) → IsIdle (put d value w)
  unfolding put
  put_idle value q = idle_unless w.stopped _ refl (λ s. put_found_idle value _ refl) q

  from_idle : (e : ℕ) (given : Kind) (b : Bool)
      → (let t = cond {A = Told Placed Pair Canceller} b
      (telling (entry.Wait d e) Waits (chaining.waiting d e w.records) (state_of w))
      (telling (entry.Take d e given.value) Taken (chaining.taking d e given.value w.records) (state_of w)) in
      IsIdle (world.after t.0 t.1 w))
  from_idle e given true q =
      idle_after (fits w.journal (entry.Wait d e)) Waits _
      (changed_idle (chaining.with_wait e) (changing e (with_item (item.HandOver d)) w.records) (λ r. refl)) q
  from_idle e given false q =
      idle_after (fits w.journal (entry.Take d e given.value)) Taken _
      (changed_idle (with_result given.value) (changing e chaining.without_value w.records) (λ r. refl)) q

  given_idle : (e : ℕ) (o p : Option Kind) → slice_get w.records d ≡ o → slice_get w.records e ≡ p
      → is_there e w.records ≡ 1
      → (let t = chaining.put_deferred_found d e o p (state_of w) in IsIdle (world.after t.0 t.1 w))
  given_idle e None p g i m q = ap (counted_of running_of) g
  given_idle e (Some r) None g i m q = absurd (not_there e w.records i m)
  given_idle e (Some r) (Some given) g i m q = from_idle e given (chaining.is_pending d e given) q

  put_deferred_idle : (e : ℕ) → Made e w → IsIdle (put_deferred d e w)
  unfolding put_deferred chaining.put_deferred
  put_deferred_idle e m q = idle_unless w.stopped _ refl (λ s. given_idle e _ _ refl refl (m s)) q

  place_idle : (o : Performed) → MadeResult o w → IsIdle (place d o w)
  place_idle Done m q = put_idle Null q
  place_idle (Gave value) m q = put_idle value q
  place_idle (Raised failure) m q = put_idle (Fault failure) q
  place_idle (Awaits e) m q = put_deferred_idle e m q

-- 2. Turns: each side that runs is to be put in place.

record Standing (fs : List Frame) (o : Performed) (w : World) : Type 0 where
  made : Holds (fs, o, w)
  placed : w.stopped ≡ false → (n : ℕ) → running_at n w ≤ places n fs

abbrev PlacedAfter : List Frame → Turned → Type 0
PlacedAfter below t = t.2.stopped ≡ false → (n : ℕ) → running_at n t.2 ≤ places n (t.0 ++ below)

mild_placed : (below : List Frame) (w : World) (t : Turned) → (t.2.stopped ≡ false → w.stopped ≡ false)
    → (w.stopped ≡ false → (n : ℕ) → running_at n w ≤ places n below) → Mild w t → PlacedAfter below t
mild_placed below w t g s m h n = omega (
  arith,
  sum_by-append (place_of n) t.0 below,
  s (g h) n,
  (m.comes.keeps SameRunning (calm SameRunning same_running)).same n,
)

-- after d has moved
module _ (below : List Frame) (d : ℕ) (w u : World)
    (s : u.stopped ≡ false → (n : ℕ) → running_at n w ≤ places n below) where
  run_placed : (pair : Pair) → ((n : ℕ) → running_at n u ≡ running_at n w + placing n d (Run pair))
      → ((settled d (Run pair) u).2.stopped ≡ false → u.stopped ≡ false) → PlacedAfter below (settled d (Run pair) u)
  run_placed pair e g h n =
      let side = side_for pair (is_fault (value_of d u)) in
      let t = side_begun d side (value_of d u) u in
      let m = side_mild d side (value_of d u) u in
      omega (
        arith,
        sum_by-append (place_of n) (t.0 ++ frame.Place d ∷ []) below,
        sum_by-append (place_of n) t.0 (frame.Place d ∷ []),
        sum_by-cons (place_of n) (frame.Place d) [],
        s (g h) n,
        e n,
        (m.comes.keeps SameRunning (calm SameRunning same_running)).same n,
      )

  settled_placed : (move : Step Pair) → ((n : ℕ) → running_at n u ≡ running_at n w + placing n d move)
      → ((settled d move u).2.stopped ≡ false → u.stopped ≡ false) → PlacedAfter below (settled d move u)
  settled_placed Nothing e g h n = omega (arith, s h n, e n)
  settled_placed Passed e g h n = omega (arith, sum_by-cons (place_of n) (frame.Settle d) below, s h n, e n)
  settled_placed (Run pair) e g h n = run_placed pair e g h n
  settled_placed (Handed other) e g h n = omega (
    arith,
    sum_by-cons (place_of n) (frame.Settle other) (frame.Settle d ∷ below),
    sum_by-cons (place_of n) (frame.Settle d) below,
    s h n,
    e n,
  )

-- what a side gave is put in place
placed_by : (b : Bool) (n d k x : ℕ) (u : World) → nat_eq d n ≡ b → running_at d u ≡ 0 → running_at n u ≤ x
    → x ≤ cond b 1 0 + k → running_at n u ≤ k
placed_by true n d k x u e z f q = omega (arith, z, ap (λ y. running_at y u) (eqb-true d n e))
placed_by false n d k x u e z f q = omega (arith, f, q)

module _ (below : List Frame) (o : Performed) (w : World) where
  place_placed : (d : ℕ) → Standing (frame.Place d ∷ below) o w → PlacedAfter below (settling d (place d o w))
  place_placed d s h n =
      let u = place d o w in
      let before = s.placed ((grows w u (step_comes (page.placing d o) w)).going h) n in
      let within : running_at n w ≤ cond (nat_eq d n) 1 0 + places n below =
      omega (arith, before, sum_by-cons (place_of n) (frame.Place d) below) in
      let left = placed_by (nat_eq d n) n d (places n below) (running_at n w) u refl
      (place_idle d w o s.made.result h) (place_fewer n d o w) within in
      omega (arith, left, sum_by-cons (place_of n) (frame.Settle d) below)

  settle_placed : (d : ℕ) → Standing (frame.Settle d ∷ below) o w → PlacedAfter below (turned (frame.Settle d) o w)
  settle_placed d s =
      let move = (step d w).0 in
      let u = (step d w).1 in
      let begun = grows w u (question_comes (steps.Moves d) w) in
      settled_placed below d w u
      (λ h n. omega (arith, s.placed (begun.going h) n, sum_by-cons (place_of n) (frame.Settle d) below)) move
      (λ n. step_runs n d w) (grows u (settled d move u).2 (rule_comes (page.settle_by d move) u)).going

  mild_turn : (f : Frame) → ((n : ℕ) → place_of n f ≡ 0) → IsMild f → Standing (f ∷ below) o w
      → PlacedAfter below (turned f o w)
  mild_turn f z m s =
      mild_placed below w (turned f o w) (grows w (turned f o w).2 (rule_comes (scripts.rule_of f o) w)).going
      (λ h n. omega (arith, s.placed h n, sum_by-cons (place_of n) f below, z n)) (turned_mild f o w m)

  turn_placed : (f : Frame) → Standing (f ∷ below) o w → PlacedAfter below (turned f o w)
  turn_placed (frame.Settle d) s = settle_placed d s
  turn_placed (frame.Place d) s =
      subst (λ (t : Turned). PlacedAfter below t) (sym (place_runs d o w)) (place_placed d s)
  turn_placed (frame.Rest rest) s = mild_turn (frame.Rest rest) (λ n. refl) tt s
  turn_placed (frame.Canceller d) s = mild_turn (frame.Canceller d) (λ n. refl) tt s
  turn_placed (frame.Maybe purpose) s = mild_turn (frame.Maybe purpose) (λ n. refl) tt s
  turn_placed (frame.Add d pair) s = mild_turn (frame.Add d pair) (λ n. refl) tt s
  turn_placed (frame.Cancel d) s = mild_turn (frame.Cancel d) (λ n. refl) tt s
  turn_placed (frame.Give given) s = mild_turn (frame.Give given) (λ n. refl) tt s
  turn_placed (frame.Notify d t) s = mild_turn (frame.Notify d t) (λ n. refl) tt s
  turn_placed (frame.Stepped t) s = mild_turn (frame.Stepped t) (λ n. refl) tt s
  turn_placed (frame.Halt t) s = mild_turn (frame.Halt t) (λ n. refl) tt s
  turn_placed (frame.Tick k units) s = mild_turn (frame.Tick k units) (λ n. refl) tt s
  turn_placed frame.Tell s = mild_turn frame.Tell (λ n. refl) tt s
  turn_placed frame.Due s = mild_turn frame.Due (λ n. refl) tt s
  turn_placed (frame.Inline inlining) s = mild_turn (frame.Inline inlining) (λ n. refl) tt s

  -- one turn
  turn_stands : (f : Frame) → Standing (f ∷ below) o w
      → (let t = turned f o w over below in Standing t.0 t.1 t.2)
  turn_stands f s =
      let rule = scripts.rule_of f o in
      let t = turned f o w in
      let all = rule_holds rule w s.made.names (rule_sound f o w s.made.names s.made.frames.0 s.made.result) in
      record {
        made = record {
          names = all.names;
          result = all.result;
          frames =
              all_append t.0 below t.2 all.frames
              (all_on below w t.2 (grows w t.2 (rule_comes rule w)) s.made.frames.1);
        };
        placed = turn_placed f s;
      }

-- 3. Runs.

-- between two events no side runs
record AtRest (w : World) : Type 0 where
  names : Bound w
  idle : w.stopped ≡ false → (n : ℕ) → running_at n w ≡ 0

-- all turns
turns_rest : (n : ℕ) (fs : List Frame) (o : Performed) (w : World) (q : Performed) (v : World)
    → run n fs o w ≡ Some (q, v) → Standing fs o w → AtRest v
unfolding run
turns_rest zero [] o w q v h s =
    let x : Ended = (o, w) in
    let y : Ended = (q, v) in
    let e : x ≡ y = cc in
    subst (λ u. AtRest u) (ap (λ (r : Ended). r.1) e)
    (record { names = s.made.names; idle = λ g k. omega (arith, s.placed g k) })
turns_rest zero (f ∷ below) o w q v h s = absurd cc
turns_rest (suc n) [] o w q v h s = absurd cc
turns_rest (suc n) (f ∷ below) o w q v h s =
    let t = turned f o w over below in turns_rest n t.0 t.1 t.2 q v h (turn_stands below o w f s)

gives_rest : (fs : List Frame) (o : Performed) (w : World) (p : Performed) (u : World) → Gives fs o w p u
    → Standing fs o w → AtRest u
gives_rest fs o w p u g s =
    let all = finishes fs o w in
    let same = gives_one (runs_lead all.turns fs o w all.outcome all.after all.ends) g in
    subst (λ x. AtRest x) same.1 (turns_rest all.turns fs o w all.outcome all.after all.ends s)

-- what an event or a post begins with
begun_placed : (w : World) (t : Turned) → AtRest w → (t.2.stopped ≡ false → w.stopped ≡ false)
    → ((n : ℕ) → running_at n t.2 ≡ running_at n w) → t.2.stopped ≡ false → (n : ℕ) → running_at n t.2 ≤ places n t.0
begun_placed w t r g e h n = omega (arith, r.idle (g h) n, e n)

happens_same : (occurrence : Occurrence) (w : World) (n : ℕ) → running_at n (happening occurrence w).2 ≡ running_at n w
happens_same (Occurs (event.Action action)) w n =
    ((action_mild action w).comes.keeps SameRunning (calm SameRunning same_running)).same n
happens_same (Occurs (event.Advance ticks)) w n =
    aside_cases w (λ u. running_at n u ≡ running_at n w) refl refl (entry.Advance _) (with_time _) (λ x. refl)
happens_same (Occurs (event.Drain most)) w n =
    ((drain_mild w).comes.keeps SameRunning (calm SameRunning same_running)).same n
happens_same (Occurs (event.Expect name expected)) w n =
    ((expect_mild name expected w).comes.keeps SameRunning (calm SameRunning same_running)).same n
happens_same (Posts posted body) w n =
    ((post_comes posted.caller posted.index w).keeps SameRunning (calm SameRunning same_running)).same n

happens_stands : (occurrence : Occurrence) (w : World) → AtRest w
    → (let t = happening occurrence w in Standing t.0 t.1 t.2)
happens_stands occurrence w r =
    let t = happening occurrence w in
    let rule = scripts.happens occurrence in
    record {
      made = rule_holds rule w r.names (happens_sound occurrence w);
      placed = begun_placed w t r (grows w t.2 (rule_comes rule w)).going (happens_same occurrence w);
    }

runs_rest : (all : List Occurrence) (w u : World) → Runs all w u → AtRest w → AtRest u
runs_rest [] w u h r = subst (λ x. AtRest x) (sym h) r
runs_rest (occurrence ∷ rest) w u h r =
    let t = happening occurrence w in
    runs_rest rest h.0 u h.2 (gives_rest t.0 t.1 t.2 h.1.0 h.0 h.1.1 (happens_stands occurrence w r))

-- so at the end of a run that hasn't stopped no side runs
pub none_runs : (script : Script) (batches : List Batch) (w : World) → Means script batches w → w.stopped ≡ false
    → (n : ℕ) → running_at n w ≡ 0
none_runs script batches w m h n =
    let first =
    first_world script.classes script.bodies script.ends_throw script.limit script.cooperator script.cooperators in
    (runs_rest (occurrences script.callers script.events batches) first w m
    (record { names = none_bound first refl; idle = λ g k. refl })).idle h n
