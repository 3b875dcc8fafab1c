-- At the end of a run that hasn't stopped, all that may run has run, and who waits hangs.
use Rattle.std.proofs.Common.{◌≡◌, ℕ, ◌++◌, Bool, true, false, nat_eq, List, [], ◌∷◌, Option, None, Some, refl, sym, ap}
use Rattle.std.proofs.Common.{subst, ◌∙◌, arith, slice_get, cond, option_map, zero, suc}
use Rattle.std.proofs.Common.{sum_by}
use Rattle.std.specs.Option.{option_and_then}
use Rattle.std.specs.Prelude.{◌&&◌, not, is_none}
use Rattle.std.specs.List.{flat_map}
use Rattle.std.proofs.lemmas.List.{append-nil}
use Rattle.dv_journal.specs.Journal.{Written}
use Rattle.dv_script.specs.declared.script.Script.{Script}
use Rattle.dv_store.specs.Callbacks as callbacks
use Rattle.dv_store.specs.Cancelling.{link, follow, end_of_chain, EndsAt, Circles, ChainsEnd}
use Rattle.dv_store.proofs.ChainLaws.{chains_end}
use Rattle.dv_store.specs.declared.record.Item.{Item}
use Rattle.dv_objects.specs.Pair.{Pair}
use Rattle.dv_objects.specs.declared.canceller.Canceller.{Canceller}
use Rattle.dv_posts.specs.Batches.{Batch}
use Rattle.dv_loop.specs.Meaning.{Means}
use Rattle.dv_loop.proofs.Kept.{Kind, every_step}
use Rattle.dv_loop.proofs.Leading.{scripts_mean_what_is_defined}
use Rattle.dv_loop.proofs.Total.{means_keeps}
use Rattle.dv_world.specs.World.{World, Records, state_of}
use Rattle.dv_laws.specs.HandOvers.{waiters, receivers}
use Rattle.dv_laws.specs.OneAtATime.{runs, ends}
use Rattle.dv_laws.specs.ReadBack.{Shown}
use Rattle.dv_laws.specs.Ready.{IsReady}
use Rattle.dv_laws.specs.Settled.{may_go_on, IsAtRest, AllThatMayRunHasRun, EachSideEnds, NobodyIsLeftWaiting}
use Rattle.dv_laws.specs.Settled.{IsHeldBack, Hangs, HangsAt, GoesRound, WaitersHang}
use Rattle.dv_laws.specs.Swallowed.{waited_for, led_to}
use Rattle.dv_laws.proofs.At.{counted_of, at}
use Rattle.dv_laws.proofs.HandOversLemmas.{to_of, owed_in, world_in_turn}
use Rattle.dv_laws.proofs.OneAtATimeLemmas.{world_used}
use Rattle.dv_laws.proofs.Idle.{none_runs}
use Rattle.dv_laws.proofs.ReadBackLemmas.{Reads, ReadsBack, reads, shown_of}
use Rattle.dv_laws.proofs.ServedWaiters.{ends_reaches}
use Rattle.dv_laws.proofs.Settles.{running_of, is_itself}
use Rattle.dv_laws.proofs.Settlings.{some_of, owes_of, all_settled}
use Rattle.dv_laws.proofs.SwallowedLemmas.{led_is, waited_is}
use Rattle.dv_laws.proofs.WaitsLemmas.{awaits_by, awaits_of, handover_of, handovers_of, world_waited}

-- one that is ready and owes nothing has no item left
none_left : (b : Bool) (items : List (Item Pair)) → b ≡ true → cond {A = ℕ} (b && some_of items) 1 0 ≡ 0 → items ≡ []
none_left false items h z = absurd cc
none_left true [] h z = refl
none_left true (first ∷ rest) h z = absurd (omega (arith, z))

used_all : (script : Script) (batches : List Batch) (w : World) → Means script batches w → w.stopped ≡ false
    → (n : ℕ) (r : Kind) → slice_get w.records n ≡ Some r → callbacks.is_ready r ≡ true → r.items ≡ []
used_all script batches w m s n r g h =
    none_left (callbacks.is_ready r) r.items h (ap (counted_of owes_of) (sym g) ∙ all_settled script batches w m s n)

not_running : (b : Bool) → cond {A = ℕ} b 1 0 ≡ 0 → b ≡ false
not_running true h = absurd (omega (arith, h))
not_running false h = refl

-- no side runs, so one that nothing holds back is ready
idle_all : (script : Script) (batches : List Batch) (w : World) → Means script batches w → w.stopped ≡ false
    → (n : ℕ) (r : Kind) → slice_get w.records n ≡ Some r → r.running ≡ false
idle_all script batches w m s n r g =
    not_running r.running (ap (counted_of running_of) (sym g) ∙ none_runs script batches w m s n)

ready_of : (a b c d : Bool) → b ≡ false → (a && c && d) ≡ true → (a && not b && c && d) ≡ true
ready_of a true c d e h = absurd cc
ready_of true false c d e h = h
ready_of false false c d e h = absurd cc

rests : (script : Script) (batches : List Batch) (w : World) → Means script batches w → w.stopped ≡ false
    → (n : ℕ) (r : Kind) → slice_get w.records n ≡ Some r → IsAtRest r
rests script batches w m s n r g =
    let idle = idle_all script batches w m s n r g in
    record {
      idle = idle;
      used = λ h. used_all script batches w m s n r g
          (ready_of r.fired r.running (nat_eq r.pauses 0) (is_none r.waits_for) idle h);
    }

pub all_has_run : AllThatMayRunHasRun
all_has_run script batches w l s n r g =
    rests script batches w ((scripts_mean_what_is_defined script batches w).1 l) s n r g

-- so each side that was run has ended
pub each_side_ends : EachSideEnds
each_side_ends script report r stopped n =
    let w = r.world in
    let m = (scripts_mean_what_is_defined script report.batches w).1 r.means in
    let none = none_runs script report.batches w m (sym r.tells.stopped ∙ stopped) n in
    let law : runs n w.journal.entries ≡ ends n w.journal.entries =
    omega (arith, (world_used n script report.batches w m).sides, none) in
    subst (λ (j : Written). runs n j.entries ≡ ends n j.entries) (sym r.tells.journal) law

-- one that is ready by what was logged may go on
goes_on_by : (a c : Bool) (o : Option ℕ) → a ≡ true → c ≡ true → o ≡ None → (a && c && is_none o) ≡ true
goes_on_by false c o p r s = absurd cc
goes_on_by true false o p r s = absurd cc
goes_on_by true true None p r s = refl
goes_on_by true true (Some x) p r s = absurd cc

shown_is : (x : Kind) (shown : Shown) → Some (shown_of x) ≡ Some shown → shown_of x ≡ shown
shown_is x shown q = cc

-- and all that began to wait for it were handed its value
settled_found : (script : Script) (batches : List Batch) (w : World) → Means script batches w → w.stopped ≡ false
    → (n : ℕ) → IsReady n w.journal.entries → (o : Option Kind) → slice_get w.records n ≡ o → ReadsBack (state_of w)
    → waiters n w.journal.entries ≡ receivers n w.journal.entries
settled_found script batches w m s n h None g k =
    let q : None ≡ Some h.shown = sym (k n ∙ ap (λ (o : Option Kind). option_map shown_of o) g) ∙ h.reads in
    absurd cc
settled_found script batches w m s n h (Some x) g k =
    let same : shown_of x ≡ h.shown =
    shown_is x h.shown (sym (k n ∙ ap (λ (o : Option Kind). option_map shown_of o) g) ∙ h.reads) in
    let fired : x.fired ≡ true = ap (λ (y : Shown). y.fired) same ∙ h.fired in
    let unpaused : x.pauses ≡ 0 = ap (λ (y : Shown). y.pauses) same ∙ h.unpaused in
    let free : x.waits_for ≡ None = ap (λ (y : Shown). y.waits_for) same ∙ h.free in
    let goes : may_go_on x ≡ true =
    goes_on_by x.fired (nat_eq x.pauses 0) x.waits_for fired (ap (λ p. nat_eq p 0) unpaused) free in
    let nothing : owed_in (slice_get w.records n) ≡ [] =
    ap owed_in g ∙ ap (λ items. flat_map to_of items) ((rests script batches w m s n x g).used goes) in
    world_in_turn n script batches w m ∙ ap (λ l. receivers n w.journal.entries ++ l) nothing
    ∙ append-nil (receivers n w.journal.entries)

-- what was logged is what the world holds
reads_back : (script : Script) (batches : List Batch) (w : World) → Means script batches w → ReadsBack (state_of w)
reads_back script batches w m =
    (means_keeps (λ w u. Reads (state_of w) (state_of u)) (every_step Reads reads) script batches w m).goes_on
    (λ d. refl)

pub nobody_waits : NobodyIsLeftWaiting
nobody_waits script report r stopped n h =
    let w = r.world in
    let m = (scripts_mean_what_is_defined script report.batches w).1 r.means in
    let law : IsReady n w.journal.entries → waiters n w.journal.entries ≡ receivers n w.journal.entries =
    λ x.
    settled_found script report.batches w m (sym r.tells.stopped ∙ stopped) n x _ refl
    (reads_back script report.batches w m) in
    subst (λ (j : Written). IsReady n j.entries
    → waiters n j.entries ≡ receivers n j.entries) (sym r.tells.journal) law h

-- who waits, hangs

-- the last that waits, on the way to d
record LastWait (d : ℕ) (rs : Records) : Type 0 where
  waiter : ℕ
  waits : link rs waiter ≡ Some d

later_wait : (links n d : ℕ) (o : Option ℕ) (rs : Records) → link rs n ≡ o
    → option_and_then (λ x. follow links x rs) o ≡ Some d → LastWait d rs
unfolding follow
later_wait links n d None rs g q = absurd cc
later_wait zero n d (Some e) rs g q = record { waiter = n; waits = g ∙ q }
later_wait (suc links) n d (Some e) rs g q = later_wait links e d (link rs e) rs refl q

last_wait : (links n m d : ℕ) (rs : Records) → link rs n ≡ Some m → follow links n rs ≡ Some d → link rs d ≡ None
    → LastWait d rs
unfolding follow
last_wait zero n m d rs g q f =
    let same : n ≡ d = cc in
    let wrong : Some m ≡ None = sym g ∙ ap (λ x. link rs x) same ∙ f in
    absurd cc
last_wait (suc links) n m d rs g q f = later_wait links n d (link rs n) rs refl q

awaited_by : (d : ℕ) (o : Option Kind) → option_and_then (λ r. r.waits_for) o ≡ Some d → counted_of (awaits_of d) o ≡ 1
awaited_by d None q = absurd cc
awaited_by d (Some r) q = ap (awaits_by d) q ∙ ap {B = ℕ} (λ b. cond b 1 0) (is_itself d)

both_go : (a c : Bool) (o : Option ℕ) → (a && c) ≡ true → o ≡ None → (a && c && is_none o) ≡ true
both_go false c o p q = absurd cc
both_go true false o p q = absurd cc
both_go true true None p q = refl
both_go true true (Some x) p q = absurd cc

unless_true : (b : Bool) → (b ≡ true → ⊥) → b ≡ false
unless_true true k = absurd (k refl)
unless_true false k = refl

no_hand_overs : (x : ℕ) (items : List (Item Pair)) → items ≡ [] → sum_by (handover_of x) items ≡ 1 → ⊥
no_hand_overs x [] e h = absurd cc
no_hand_overs x (first ∷ rest) e h = absurd cc

module _ (script : Script) (batches : List Batch) (w : World) (m : Means script batches w) (s : w.stopped ≡ false) where
  -- one for which another waits, and which doesn't wait itself, is held back
  held_found : (d x : ℕ) (o : Option Kind) → slice_get w.records d ≡ o → link w.records d ≡ None
      → counted_of (handovers_of x) o ≡ 1 → ReadsBack (state_of w) → IsHeldBack d w.journal.entries
  held_found d x None g f h k = absurd cc
  held_found d x (Some r) g f h k =
      let free : r.waits_for ≡ None = sym (ap (λ (o : Option Kind). option_and_then (λ y. y.waits_for) o) g) ∙ f in
      record {
        shown = shown_of r;
        reads = k d ∙ ap (λ (o : Option Kind). option_map shown_of o) g;
        held = unless_true (r.fired && nat_eq r.pauses 0) (λ q.
            no_hand_overs x r.items ((rests script batches w m s d r g).used
            (both_go r.fired (nat_eq r.pauses 0) r.waits_for q free)) h);
      }

  hangs_by : (n e : ℕ) (o : Option ℕ) → end_of_chain n w.records ≡ o → waited_for n w.journal.entries ≡ Some e
      → ReadsBack (state_of w) → Hangs n w.journal.entries
  hangs_by n e None q h k =
      let all : ChainsEnd Pair Canceller = chains_end in
      let circle : Circles w.records n = (all.circles n w.records).0 q in
      let led : (links : ℕ) → led_to links n w.journal.entries ≡ follow links n w.records =
      λ links. led_is w.records w.journal.entries k links n in
      GoesRound circle.first circle.again circle.at circle.later (led circle.first ∙ circle.leads)
      (led circle.again ∙ circle.returns)
  hangs_by n e (Some d) q h k =
      let all : ChainsEnd Pair Canceller = chains_end in
      let end : EndsAt w.records n d = (all.ends n d w.records).0 q in
      let waits : link w.records n ≡ Some e = sym (waited_is w.records w.journal.entries k n) ∙ h in
      let last = last_wait end.links n e d w.records waits end.leads end.free in
      let hands : at (handovers_of last.waiter) d w.records ≡ 1 =
      (world_waited last.waiter script batches w m).items d
      ∙ awaited_by d (slice_get w.records last.waiter) last.waits in
      HangsAt d (ends_reaches w.records w.journal.entries k n d q)
      (held_found d last.waiter (slice_get w.records d) refl end.free hands k)

pub waiters_hang : WaitersHang
waiters_hang script report r stopped n e h =
    let w = r.world in
    let m = (scripts_mean_what_is_defined script report.batches w).1 r.means in
    let law : waited_for n w.journal.entries ≡ Some e → Hangs n w.journal.entries =
    λ x.
    hangs_by script report.batches w m (sym r.tells.stopped ∙ stopped) n e (end_of_chain n w.records) refl x
    (reads_back script report.batches w m) in
    subst (λ (j : Written). waited_for n j.entries ≡ Some e → Hangs n j.entries) (sym r.tells.journal) law h
