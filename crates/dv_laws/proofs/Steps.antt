-- Each step of a world, by its possible results: the world stays, stops, or logs a change.
use Rattle.std.proofs.Common.{◌≡◌, ℕ, ◌+◌, ◌-◌, Bool, true, false, nat_eq, List, [], ◌∷◌, ◌++◌, Option, None, Some}
use Rattle.std.proofs.Common.{Result, Ok, Err, length, refl, slice_get, slice_set, cond}
use Rattle.dv_value.specs.Failure.{is_fault}
use Rattle.dv_value.specs.declared.value.Value.{Value, Null}
use Rattle.dv_journal.specs.Journal.{fits, with_entry}
use Rattle.dv_journal.specs.declared.entry.Entry.{Entry}
use Rattle.dv_journal.specs.declared.entry.Entry.TheVariants as entry
use Rattle.dv_journal.specs.declared.error.Stop.{Stop}
use Rattle.dv_journal.specs.declared.error.Stop.TheVariants as stop
use Rattle.dv_store.specs.Callbacks as callbacks
use Rattle.dv_store.specs.Callbacks.{with_handed, with_result}
use Rattle.dv_store.specs.Chaining as chaining
use Rattle.dv_store.specs.Fire as firing
use Rattle.dv_store.specs.Pausing as pausing
use Rattle.dv_store.specs.Pausing.{with_pauses}
use Rattle.dv_store.specs.Record as records
use Rattle.dv_store.specs.Record.{with_item, new_record, changing}
use Rattle.dv_journal.specs.Telling.{telling}
use Rattle.dv_store.specs.State.{Told}
use Rattle.dv_store.specs.declared.error.AlreadyCalled.{AlreadyCalled}
use Rattle.dv_journal.specs.declared.error.Fault.{Fault}
use Rattle.dv_journal.specs.declared.error.Fault.TheVariants as fault
use Rattle.dv_store.specs.declared.record.Item.{Item}
use Rattle.dv_store.specs.declared.record.Item.TheVariants as item
use Rattle.dv_store.specs.declared.store.Fired.{Fired}
use Rattle.dv_store.specs.declared.store.Fired.TheVariants.{Set, Swallowed}
use Rattle.dv_store.specs.declared.store.Placed.{Placed}
use Rattle.dv_store.specs.declared.store.Placed.TheVariants.{Taken, Waits}
use Rattle.dv_store.specs.declared.store.Step.{Step}
use Rattle.dv_store.specs.declared.store.Step.TheVariants.{Nothing, Passed, Run, Handed}
use Rattle.dv_loop.proofs.Kept.{Both, Kind, telling_of}
use Rattle.dv_script.specs.declared.work.Work.{Work}
use Rattle.dv_objects.specs.Works.{is_full}
use Rattle.dv_objects.specs.Pair.{passes}
use Rattle.dv_objects.specs.declared.canceller.Canceller.{Canceller}
use Rattle.dv_objects.specs.Objects.{Objects}
use Rattle.dv_world.specs.World.{World, Records, state_of, after, moved, named, unpaused, step, put, put_deferred}
use Rattle.dv_world.specs.World.{append, make, cancel, reached_from, pause, with_state, with_stop, unpause, aside}
use Rattle.dv_world.specs.World.{arrange, submit, unless_stopped, put_into_found, put_into, get_from_found, get_from}
use Rattle.dv_world.specs.World.{lock_told, ask, release_found, release}
use Rattle.dv_objects.specs.Objects.{with_queue, with_lock}
use Rattle.dv_prims.specs.Queue.{Queue, may_put, receiver, put_to, got_from}
use Rattle.dv_prims.specs.Tokens.{Semaphore, is_unheld, asked, released}
use Rattle.std.proofs.Common.{sym, subst}
use Rattle.std.specs.Prelude.{if◌then◌else◌}
use Rattle.dv_objects.specs.declared.follow.Follow.TheVariants as follow
use Rattle.dv_objects.specs.Pair.{Pair}
use Rattle.dv_objects.specs.declared.reached.Reached.{Reached}
use Rattle.dv_objects.specs.declared.reached.Reached.TheVariants as reached
use Rattle.dv_objects.specs.Objects.{naming_where}

-- a world that logs this, with these records
abbrev pub telling_in : Entry → Records → World → World
telling_in e rs w = with_state (telling_of e rs (state_of w)) w

-- what each step may result in, where this holds of a world that stays as it is, and of one that stops
module _ (w : World) (P : World → Type 0) (stays : P w) (stops : P (with_stop w)) where
  pub unless : (b : Bool) (u : World) → P u → P (cond b w u)
  unless true u h = stays
  unless false u h = h

  -- a change is logged, or doesn't fit
  after_cases : {A : Type 0} (b : Bool) (x : A) (u : Both) → (b ≡ true → P (with_state u w))
      → (let t = cond {A = Result A Stop × Both} b (Ok x, u) (Err stop.Limit, state_of w) in P (after t.0 t.1 w))
  after_cases true x u h = h refl
  after_cases false x u h = stops

  put_found_cases : (d : ℕ) (value : Value) (o : Option Kind) → slice_get w.records d ≡ o
      → ((r : Kind) → fits w.journal (entry.Set d value) ≡ true → slice_get w.records d ≡ Some r
      → P (telling_in (entry.Set d value) (slice_set w.records d (with_result value r)) w))
      → (let t = callbacks.put_found d value o (state_of w) in P (after t.0 t.1 w))
  put_found_cases d value None g h = stays
  put_found_cases d value (Some r) g h = after_cases (fits w.journal (entry.Set d value)) tt _ (λ x. h r x g)

  pub put_cases : (d : ℕ) (value : Value)
      → ((r : Kind) → fits w.journal (entry.Set d value) ≡ true → slice_get w.records d ≡ Some r
      → P (telling_in (entry.Set d value) (slice_set w.records d (with_result value r)) w))
      → P (put d value w)
  unfolding put
  put_cases d value h = unless w.stopped _ (put_found_cases d value _ refl h)

  from_cases : (d e : ℕ) (given : Kind) (b : Bool) → chaining.is_pending d e given ≡ b
      → (fits w.journal (entry.Wait d e) ≡ true → chaining.is_pending d e given ≡ true
      → P (telling_in (entry.Wait d e) (chaining.waiting d e w.records) w))
      → (fits w.journal (entry.Take d e given.value) ≡ true → chaining.is_pending d e given ≡ false
      → P (telling_in (entry.Take d e given.value) (chaining.taking d e given.value w.records) w))
      → (let t = cond {A = Told Placed Pair Canceller} b
      (telling (entry.Wait d e) Waits (chaining.waiting d e w.records) (state_of w))
      (telling (entry.Take d e given.value) Taken (chaining.taking d e given.value w.records) (state_of w)) in
      P (after t.0 t.1 w))
  from_cases d e given true p h k = after_cases (fits w.journal (entry.Wait d e)) Waits _ (λ x. h x p)
  from_cases d e given false p h k = after_cases (fits w.journal (entry.Take d e given.value)) Taken _ (λ x. k x p)

  given_cases : (d e : ℕ) (o p : Option Kind) → slice_get w.records d ≡ o → slice_get w.records e ≡ p
      → ((r given : Kind) → fits w.journal (entry.Wait d e) ≡ true → slice_get w.records d ≡ Some r
      → slice_get w.records e ≡ Some given → chaining.is_pending d e given ≡ true
      → P (telling_in (entry.Wait d e) (chaining.waiting d e w.records) w))
      → ((r given : Kind) → fits w.journal (entry.Take d e given.value) ≡ true → slice_get w.records d ≡ Some r
      → slice_get w.records e ≡ Some given → chaining.is_pending d e given ≡ false
      → P (telling_in (entry.Take d e given.value) (chaining.taking d e given.value w.records) w))
      → (let t = chaining.put_deferred_found d e o p (state_of w) in P (after t.0 t.1 w))
  given_cases d e None p g i h k = stays
  given_cases d e (Some r) None g i h k = stays
  given_cases d e (Some r) (Some given) g i h k =
      from_cases d e given _ refl (λ x y. h r given x g i y) (λ x y. k r given x g i y)

  pub put_deferred_cases : (d e : ℕ)
      → ((r given : Kind) → fits w.journal (entry.Wait d e) ≡ true → slice_get w.records d ≡ Some r
      → slice_get w.records e ≡ Some given → chaining.is_pending d e given ≡ true
      → P (telling_in (entry.Wait d e) (chaining.waiting d e w.records) w))
      → ((r given : Kind) → fits w.journal (entry.Take d e given.value) ≡ true → slice_get w.records d ≡ Some r
      → slice_get w.records e ≡ Some given → chaining.is_pending d e given ≡ false
      → P (telling_in (entry.Take d e given.value) (chaining.taking d e given.value w.records) w))
      → P (put_deferred d e w)
  unfolding put_deferred chaining.put_deferred
  put_deferred_cases d e h k = unless w.stopped _ (given_cases d e _ _ refl refl h k)

  append_found_cases : (d : ℕ) (pair : Pair) (o : Option Kind) → slice_get w.records d ≡ o
      → ((r : Kind) → fits w.journal (entry.Add d) ≡ true → slice_get w.records d ≡ Some r
      → P (telling_in (entry.Add d) (slice_set w.records d (with_item (item.Pair pair) r)) w))
      → (let t = records.append_found d pair o (state_of w) in P (after t.0 t.1 w))
  append_found_cases d pair None g h = stays
  append_found_cases d pair (Some r) g h = after_cases (fits w.journal (entry.Add d)) tt _ (λ x. h r x g)

  pub append_cases : (d : ℕ) (pair : Pair)
      → ((r : Kind) → fits w.journal (entry.Add d) ≡ true → slice_get w.records d ≡ Some r
      → P (telling_in (entry.Add d) (slice_set w.records d (with_item (item.Pair pair) r)) w))
      → P (append d pair w)
  unfolding append
  append_cases d pair h = unless w.stopped _ (append_found_cases d pair _ refl h)

  pause_found_cases : (d : ℕ) (o : Option Kind) → slice_get w.records d ≡ o
      → ((r : Kind) → fits w.journal (entry.Pause d) ≡ true → slice_get w.records d ≡ Some r
      → P (telling_in (entry.Pause d) (slice_set w.records d (with_pauses (r.pauses + 1) r)) w))
      → (let t = pausing.pause_found d o (state_of w) in P (after t.0 t.1 w))
  pause_found_cases d None g h = stays
  pause_found_cases d (Some r) g h = after_cases (fits w.journal (entry.Pause d)) tt _ (λ x. h r x g)

  pub pause_cases : (d : ℕ)
      → ((r : Kind) → fits w.journal (entry.Pause d) ≡ true → slice_get w.records d ≡ Some r
      → P (telling_in (entry.Pause d) (slice_set w.records d (with_pauses (r.pauses + 1) r)) w))
      → P (pause d w)
  unfolding pause
  pause_cases d h = unless w.stopped _ (pause_found_cases d _ refl h)

  named_cases : (b : Bool) (name : Option (List ℕ)) (d : ℕ) (u : Both)
      → (b ≡ true → P (record (with_state u w) { objects = naming_where name d w.objects }))
      → (let t = cond {A = Result ℕ Stop × Both} b (Ok d, u) (Err stop.Limit, state_of w) in P (named name t.0 t.1 w))
  named_cases true name d u h = h refl
  named_cases false name d u h = stops

  pub make_cases : (name : Option (List ℕ)) (canceller : Option Canceller)
      → (fits w.journal (entry.New (length w.records) name) ≡ true
      → P (record (telling_in (entry.New (length w.records) name) (w.records ++ new_record name canceller ∷ []) w) {
        objects = naming_where name (length w.records) w.objects;
      }))
      → P (make name canceller w)
  unfolding make
  make_cases name canceller h =
      unless w.stopped _ (named_cases (fits w.journal (entry.New (length w.records) name)) name (length w.records) _ h)

  told_cases : (e : Entry) (change : Objects → Objects) (b : Bool) → fits w.journal e ≡ b
      → (fits w.journal e ≡ true → P (record w { objects = change w.objects; journal = with_entry w.journal e }))
      → P
      (cond b (record w { objects = change w.objects; journal = with_entry w.journal e }) (record w { stopped = true }))
  told_cases e change true p h = h p
  told_cases e change false p h = stops

  pub aside_cases : (e : Entry) (change : Objects → Objects)
      → (fits w.journal e ≡ true → P (record w { objects = change w.objects; journal = with_entry w.journal e }))
      → P (aside e change w)
  unfolding aside
  aside_cases e change h = unless w.stopped _ (told_cases e change _ refl h)

  pub arrange_cases : (change : Objects → Objects) → P (record w { objects = change w.objects }) → P (arrange change w)
  unfolding arrange
  arrange_cases change h = unless w.stopped _ h

  -- a lock is asked for a token by d, or a token of it is released
  abbrev AsksLock : ℕ → ℕ → Type 0
  AsksLock l d =
      (s : Semaphore) → fits w.journal (entry.Acquire s.name d) ≡ true → slice_get w.objects.semaphores l ≡ Some s
      → P (record w {
        objects = with_lock l (asked d s) w.objects;
        journal = with_entry w.journal (entry.Acquire s.name d);
      })

  ask_found_cases : (l d : ℕ) (o : Option Semaphore) → slice_get w.objects.semaphores l ≡ o → AsksLock l d
      → P (lock_told l (λ s. entry.Acquire s.name d) (asked d) o w)
  ask_found_cases l d None g h = stays
  ask_found_cases l d (Some s) g h = aside_cases (entry.Acquire s.name d) (with_lock l (asked d s)) (λ x. h s x g)

  pub ask_cases : (l d : ℕ) → AsksLock l d → P (ask l d w)
  ask_cases l d h = ask_found_cases l d _ refl h

  abbrev ReleasesLock : ℕ → Type 0
  ReleasesLock l =
      (s : Semaphore) → fits w.journal (entry.Release s.name) ≡ true → slice_get w.objects.semaphores l ≡ Some s
      → is_unheld s ≡ false
      → P (record w {
        objects = with_lock l (released s) w.objects;
        journal = with_entry w.journal (entry.Release s.name);
      })

  held_cases : (l : ℕ) (s : Semaphore) (b : Bool) → is_unheld s ≡ b → slice_get w.objects.semaphores l ≡ Some s
      → ReleasesLock l → P (if b then w else aside (entry.Release s.name) (with_lock l (released s)) w)
  held_cases l s true u g h = stays
  held_cases l s false u g h = aside_cases (entry.Release s.name) (with_lock l (released s)) (λ x. h s x g u)

  release_found_cases : (l : ℕ) (o : Option Semaphore) → slice_get w.objects.semaphores l ≡ o → ReleasesLock l
      → P (release_found l o w)
  release_found_cases l None g h = stays
  release_found_cases l (Some s) g h = held_cases l s _ refl g h

  pub release_cases : (l : ℕ) → ReleasesLock l → P (release l w)
  release_cases l h = release_found_cases l _ refl h

  submitted_cases : (d : ℕ) (pool : Option (List ℕ)) (work : Work) (b : Bool)
      → fits w.journal (entry.Job (length w.works) d) ≡ b
      → (fits w.journal (entry.Job (length w.works) d) ≡ true → P (record w {
        works = w.works ++ work ∷ [];
        pools = w.pools ++ pool ∷ [];
        journal = with_entry w.journal (entry.Job (length w.works) d);
      }))
      → P (cond b (record w {
        works = w.works ++ work ∷ [];
        pools = w.pools ++ pool ∷ [];
        journal = with_entry w.journal (entry.Job (length w.works) d);
      }) (record w { stopped = true }))
  submitted_cases d pool work true x h = h x
  submitted_cases d pool work false x h = stops

  pub submit_cases : (d : ℕ) (pool : Option (List ℕ)) (work : Work)
      → (fits w.journal (entry.Job (length w.works) d) ≡ true → P (record w {
        works = w.works ++ work ∷ [];
        pools = w.pools ++ pool ∷ [];
        journal = with_entry w.journal (entry.Job (length w.works) d);
      }))
      → P (submit d pool work w)
  unfolding submit
  submit_cases d pool work h = unless w.stopped _ (unless (is_full w.works) _ (submitted_cases d pool work _ refl h))

  cancel_told_cases : (d : ℕ) (b : Bool) → fits w.journal (entry.Cancel d) ≡ b
      → (fits w.journal (entry.Cancel d) ≡ true → P (record w { journal = with_entry w.journal (entry.Cancel d) }))
      → P (cond {A = Reached × World} b (
        reached_from d w.records,
        record w { journal = with_entry w.journal (entry.Cancel d) },
      ) (reached.Nothing, record w { stopped = true })).1
  cancel_told_cases d true x h = h x
  cancel_told_cases d false x h = stops

  pub unless_and : {A : Type 0} (b : Bool) (x : A) (p : A × World) → P p.1 → P (cond {A = A × World} b (x, w) p).1
  unless_and true x p h = stays
  unless_and false x p h = h

  pub cancel_cases : (d : ℕ)
      → (fits w.journal (entry.Cancel d) ≡ true → P (record w { journal = with_entry w.journal (entry.Cancel d) }))
      → P (cancel d w).1
  unfolding cancel
  cancel_cases d h = unless_and w.stopped reached.Nothing _ (cancel_told_cases d _ refl h)

  less_cases : (d : ℕ) (b : Bool) (u : Both) → (b ≡ true → P (with_state u w)) → (let t =
      cond {A = pausing.Unpaused Pair Canceller} b (Ok tt, u) (Err fault.Limit, state_of w) in P (unpaused t.0 t.1 w).1)
  less_cases d true u h = h refl
  less_cases d false u h = stops

  unpaused_cases : (d : ℕ) (r : Kind) (b : Bool) → nat_eq r.pauses 0 ≡ b
      → (fits w.journal (entry.Unpause d) ≡ true → nat_eq r.pauses 0 ≡ false
      → P (telling_in (entry.Unpause d) (slice_set w.records d (with_pauses (r.pauses - 1) r)) w))
      → (let t = cond {A = pausing.Unpaused Pair Canceller} b (Err (fault.Refused (record {})), state_of w)
      (pausing.less_paused d r (state_of w)) in P (unpaused t.0 t.1 w).1)
  unpaused_cases d r true p h = stays
  unpaused_cases d r false p h = less_cases d (fits w.journal (entry.Unpause d)) _ (λ x. h x p)

  unpause_found_cases : (d : ℕ) (o : Option Kind) → slice_get w.records d ≡ o
      → ((r : Kind) → fits w.journal (entry.Unpause d) ≡ true → slice_get w.records d ≡ Some r
      → nat_eq r.pauses 0 ≡ false
      → P (telling_in (entry.Unpause d) (slice_set w.records d (with_pauses (r.pauses - 1) r)) w))
      → (let t = pausing.unpause_found d o (state_of w) in P (unpaused t.0 t.1 w).1)
  unpause_found_cases d None g h = stays
  unpause_found_cases d (Some r) g h = unpaused_cases d r _ refl (λ x p. h r x g p)

  pub unpause_cases : (d : ℕ)
      → ((r : Kind) → fits w.journal (entry.Unpause d) ≡ true → slice_get w.records d ≡ Some r
      → nat_eq r.pauses 0 ≡ false
      → P (telling_in (entry.Unpause d) (slice_set w.records d (with_pauses (r.pauses - 1) r)) w))
      → P (unpause d w).1
  unfolding unpause
  unpause_cases d h = unless_and w.stopped follow.Nothing _ (unpause_found_cases d _ refl h)

-- a firing is logged, swallowed, refused, or doesn't fit
module _ (w : World)
    (P : Result Fired (Fault AlreadyCalled) → Both → Type 0) (limit : P (Err fault.Limit) (state_of w)) where
  firing_cases : (b : Bool) (answer : Result Fired (Fault AlreadyCalled)) (u : Both) → (b ≡ true → P answer u)
      → (let t = cond {A = firing.Firing Pair Canceller} b (answer, u) (Err fault.Limit, state_of w) in P t.0 t.1)
  firing_cases true answer u h = h refl
  firing_cases false answer u h = limit

  again_cases : (d : ℕ) (r : Kind) (b : Bool) → r.swallows ≡ b
      → (fits w.journal (entry.Swallow d) ≡ true → r.swallows ≡ true → P (Ok Swallowed)
      (telling_of (entry.Swallow d) (slice_set w.records d (firing.with_swallows false r)) (state_of w)))
      → (fits w.journal (entry.Refuse d) ≡ true → r.swallows ≡ false
      → P (Err (fault.Refused (record {}))) (telling_of (entry.Refuse d) w.records (state_of w)))
      → (let t = cond {A = firing.Firing Pair Canceller} b (firing.telling_firing (entry.Swallow d) (Ok Swallowed)
      (slice_set w.records d (firing.with_swallows false r)) (state_of w))
      (firing.telling_firing (entry.Refuse d) (Err (fault.Refused (record {}))) w.records (state_of w)) in P t.0 t.1)
  again_cases d r true q h k = firing_cases (fits w.journal (entry.Swallow d)) (Ok Swallowed) _ (λ x. h x q)
  again_cases d r false q h k =
      firing_cases (fits w.journal (entry.Refuse d)) (Err (fault.Refused (record {}))) _ (λ x. k x q)

  fired_cases : (d : ℕ) (value : Value) (r : Kind) (b : Bool) → r.fired ≡ b
      → (fits w.journal (entry.Swallow d) ≡ true → r.swallows ≡ true → P (Ok Swallowed)
      (telling_of (entry.Swallow d) (slice_set w.records d (firing.with_swallows false r)) (state_of w)))
      → (fits w.journal (entry.Refuse d) ≡ true → r.fired ≡ true → r.swallows ≡ false
      → P (Err (fault.Refused (record {}))) (telling_of (entry.Refuse d) w.records (state_of w)))
      → (fits w.journal (entry.Fire d value) ≡ true → r.fired ≡ false
      → P (Ok Set) (telling_of (entry.Fire d value) (slice_set w.records d (firing.with_firing value r)) (state_of w)))
      → (let t = cond {A = firing.Firing Pair Canceller} b (firing.fire_again d r (state_of w)) (firing.telling_firing
      (entry.Fire d value) (Ok Set) (slice_set w.records d (firing.with_firing value r)) (state_of w)) in P t.0 t.1)
  fired_cases d value r true p h k l = again_cases d r _ refl h (λ x q. k x p q)
  fired_cases d value r false p h k l = firing_cases (fits w.journal (entry.Fire d value)) (Ok Set) _ (λ x. l x p)

  pub fire_cases : (d : ℕ) (value : Value) (o : Option Kind) → slice_get w.records d ≡ o
      → (slice_get w.records d ≡ None → P (Ok Set) (state_of w))
      → ((r : Kind) → fits w.journal (entry.Swallow d) ≡ true → slice_get w.records d ≡ Some r → r.swallows ≡ true → P
      (Ok Swallowed) (telling_of (entry.Swallow d) (slice_set w.records d (firing.with_swallows false r)) (state_of w)))
      → ((r : Kind) → fits w.journal (entry.Refuse d) ≡ true → slice_get w.records d ≡ Some r → r.fired ≡ true
      → r.swallows ≡ false → P (Err (fault.Refused (record {}))) (telling_of (entry.Refuse d) w.records (state_of w)))
      → ((r : Kind) → fits w.journal (entry.Fire d value) ≡ true → slice_get w.records d ≡ Some r → r.fired ≡ false
      → P (Ok Set) (telling_of (entry.Fire d value) (slice_set w.records d (firing.with_firing value r)) (state_of w)))
      → (let t = firing.fire_found d value o (state_of w) in P t.0 t.1)
  fire_cases d value None g n h k l = n g
  fire_cases d value (Some r) g n h k l =
      fired_cases d value r _ refl (λ x q. h r x g q) (λ x p q. k r x g p q) (λ x p. l r x g p)

-- a step of a Deferred, with the move that was made: none, since nothing was to be done or its entry doesn't fit, a
-- pair that is passed by or run, or a value handed over
module _ (w : World) (P : Step Pair → World → Type 0) (none : P Nothing w) (stopped : P Nothing (with_stop w)) where
  moved_cases : (b : Bool) (move : Step Pair) (u : Both) → (b ≡ true → P move (with_state u w))
      → (let t = cond {A = callbacks.Stepped Pair Canceller} b (Ok move, u) (Err stop.Limit, state_of w) in
      let m = moved t.0 t.1 w in P m.0 m.1)
  moved_cases true move u h = h refl
  moved_cases false move u h = stopped

  abbrev Drops : ℕ → Type 0
  Drops d =
      (r : Kind) (pair : Pair) (rest : List (Item Pair)) → slice_get w.records d ≡ Some r
      → r.items ≡ item.Pair pair ∷ rest → callbacks.is_ready r ≡ true
      → P Passed (with_state (slice_set w.records d (record r { items = rest }), w.journal) w)

  abbrev RunsPair : ℕ → Type 0
  RunsPair d =
      (r : Kind) (pair : Pair) (rest : List (Item Pair)) → fits w.journal (entry.Run d) ≡ true
      → slice_get w.records d ≡ Some r → r.items ≡ item.Pair pair ∷ rest → callbacks.is_ready r ≡ true
      → P (Run pair) (telling_in (entry.Run d) (slice_set w.records d (record r { items = rest; running = true })) w)

  abbrev HandsTo : ℕ → Type 0
  HandsTo d =
      (r : Kind) (c : ℕ) (rest : List (Item Pair)) → fits w.journal (entry.Hand d c r.value) ≡ true
      → slice_get w.records d ≡ Some r → r.items ≡ item.HandOver c ∷ rest → callbacks.is_ready r ≡ true
      → P (Handed c) (telling_in (entry.Hand d c r.value)
      (changing c (with_handed r.value) (slice_set w.records d (record r { items = rest; value = Null }))) w)

  abbrev Moved : callbacks.Stepped Pair Canceller → Type 0
  Moved t = let m = moved t.0 t.1 w in P m.0 m.1

  pass_cases : (b : Bool) (d : ℕ) (r : Kind) (pair : Pair) (rest : List (Item Pair)) → slice_get w.records d ≡ Some r
      → r.items ≡ item.Pair pair ∷ rest → callbacks.is_ready r ≡ true → Drops d → RunsPair d
      → Moved (cond {A = callbacks.Stepped Pair Canceller} b (
        Ok Passed,
        (slice_set w.records d (record r { items = rest }), w.journal),
      ) (callbacks.run_pair d r pair rest (state_of w)))
  pass_cases true d r pair rest g e a h k = h r pair rest g e a
  pass_cases false d r pair rest g e a h k =
      moved_cases (fits w.journal (entry.Run d)) (Run pair) _ (λ x. k r pair rest x g e a)

  item_cases : (d : ℕ) (r : Kind) (first : Item Pair) (rest : List (Item Pair)) → slice_get w.records d ≡ Some r
      → r.items ≡ first ∷ rest → callbacks.is_ready r ≡ true → Drops d → RunsPair d → HandsTo d
      → Moved (callbacks.use_item passes d r first rest (state_of w))
  item_cases d r (item.Pair pair) rest g e a h k l = pass_cases (passes pair (is_fault r.value)) d r pair rest g e a h k
  item_cases d r (item.HandOver c) rest g e a h k l =
      moved_cases (fits w.journal (entry.Hand d c r.value)) (Handed c) _ (λ x. l r c rest x g e a)

  first_cases : (d : ℕ) (r : Kind) (items : List (Item Pair)) → slice_get w.records d ≡ Some r → r.items ≡ items
      → callbacks.is_ready r ≡ true → Drops d → RunsPair d → HandsTo d
      → Moved (callbacks.use_first passes d r items (state_of w))
  first_cases d r [] g e a h k l = none
  first_cases d r (first ∷ rest) g e a h k l = item_cases d r first rest g e a h k l

  ready_cases : (d : ℕ) (r : Kind) (b : Bool) → callbacks.is_ready r ≡ b → slice_get w.records d ≡ Some r → Drops d
      → RunsPair d → HandsTo d
      → Moved (cond {A = callbacks.Stepped Pair Canceller} b (callbacks.use_first passes d r r.items (state_of w)) (
        Ok Nothing,
        state_of w,
      ))
  ready_cases d r true a g h k l = first_cases d r r.items g refl a h k l
  ready_cases d r false a g h k l = none

  found_cases : (d : ℕ) (o : Option Kind) → slice_get w.records d ≡ o → Drops d → RunsPair d → HandsTo d
      → Moved (callbacks.step_found passes d o (state_of w))
  found_cases d None g h k l = none
  found_cases d (Some r) g h k l = ready_cases d r _ refl g h k l

  stopped_cases : (b : Bool) (t : Step Pair × World) → P t.0 t.1
      → (let m = cond {A = Step Pair × World} b (Nothing, w) t in P m.0 m.1)
  stopped_cases true t h = none
  stopped_cases false t h = h

  pub step_cases : (d : ℕ) → Drops d → RunsPair d → HandsTo d → P (step d w).0 (step d w).1
  unfolding step callbacks.step
  step_cases d h k l = stopped_cases w.stopped _ (found_cases d _ refl h k l)

-- a line of a queue is written, and its answer is given, unless the run has stopped
module _ {A : Type 0} (w : World)
    (P : Option A → World → Type 0) (stays : P None w) (stops : P None (with_stop w)) where
  answered_told : (b : Bool) (answer : Option A) (e : Entry) (change : Objects → Objects) → fits w.journal e ≡ b
      → w.stopped ≡ false
      → (w.stopped ≡ false → fits w.journal e ≡ true
      → P answer (record w { objects = change w.objects; journal = with_entry w.journal e }))
      → (let u = cond b (record w { objects = change w.objects; journal = with_entry w.journal e })
      (record w { stopped = true }) in P (if u.stopped then None else answer) u)
  answered_told true answer e change p s h =
      subst (λ b. P (cond b None answer) (record w { objects = change w.objects; journal = with_entry w.journal e }))
      (sym s) (h s p)
  answered_told false answer e change p s h = stops

  answered_unless : (b : Bool) (answer : Option A) (u : World) → w.stopped ≡ b
      → (w.stopped ≡ false → P (if u.stopped then None else answer) u)
      → (let v = cond b w u in P (if v.stopped then None else answer) v)
  answered_unless true answer u s h = subst (λ b. P (cond b None answer) w) (sym s) stays
  answered_unless false answer u s h = h s

  answered_cases : (answer : Option A) (e : Entry) (change : Objects → Objects)
      → (w.stopped ≡ false → fits w.journal e ≡ true
      → P answer (record w { objects = change w.objects; journal = with_entry w.journal e }))
      → (let u = aside e change w in P (if u.stopped then None else answer) u)
  unfolding aside
  answered_cases answer e change h =
      answered_unless w.stopped answer _ refl (λ s. answered_told _ answer e change refl s h)

-- a value is put into a queue
module _ (w : World) (P : Option (ℕ × Value) → World → Type 0) (stays : P None w) (stops : P None (with_stop w)) where
  abbrev PutsInto : ℕ → Value → Type 0
  PutsInto k value =
      (q : Queue) → w.stopped ≡ false → fits w.journal (entry.Put q.name value) ≡ true
      → slice_get w.objects.queues k ≡ Some q → may_put q ≡ true
      → P (receiver q.waiting value) (record w {
        objects = with_queue k (put_to q.waiting value q) w.objects;
        journal = with_entry w.journal (entry.Put q.name value);
      })

  putting_cases : (b : Bool) (k : ℕ) (value : Value) (q : Queue) → may_put q ≡ b → slice_get w.objects.queues k ≡ Some q
      → PutsInto k value
      → (let a = cond {A = Option (ℕ × Value) × World} b (unless_stopped (receiver q.waiting value)
      (aside (entry.Put q.name value) (with_queue k (put_to q.waiting value q)) w)) (None, w) in P a.0 a.1)
  putting_cases true k value q m g h =
      answered_cases w P stays stops (receiver q.waiting value) (entry.Put q.name value)
      (with_queue k (put_to q.waiting value q)) (λ s x. h q s x g m)
  putting_cases false k value q m g h = stays

  put_found_in_cases : (o : Option Queue) (k : ℕ) (value : Value) → slice_get w.objects.queues k ≡ o → PutsInto k value
      → (let a = put_into_found k value o w in P a.0 a.1)
  put_found_in_cases None k value g h = stays
  put_found_in_cases (Some q) k value g h = putting_cases _ k value q refl g h

  pub put_into_cases : (k : ℕ) (value : Value) → PutsInto k value → (let a = put_into k value w in P a.0 a.1)
  put_into_cases k value h = put_found_in_cases _ k value refl h

-- a value of a queue is asked for
module _ (w : World) (P : Option Value → World → Type 0) (stays : P None w) (stops : P None (with_stop w)) where
  abbrev GetsFrom : ℕ → ℕ → Type 0
  GetsFrom k d =
      (q : Queue) → w.stopped ≡ false → fits w.journal (entry.Get q.name d) ≡ true
      → slice_get w.objects.queues k ≡ Some q
      → P (slice_get q.stored 0) (record w {
        objects = with_queue k (got_from q.stored d q) w.objects;
        journal = with_entry w.journal (entry.Get q.name d);
      })

  got_found_cases : (o : Option Queue) (k d : ℕ) → slice_get w.objects.queues k ≡ o → GetsFrom k d
      → (let a = get_from_found k d o w in P a.0 a.1)
  got_found_cases None k d g h = stays
  got_found_cases (Some q) k d g h =
      answered_cases w P stays stops (slice_get q.stored 0) (entry.Get q.name d) (with_queue k (got_from q.stored d q))
      (λ s x. h q s x g)

  pub get_from_cases : (k d : ℕ) → GetsFrom k d → (let a = get_from k d w in P a.0 a.1)
  get_from_cases k d h = got_found_cases _ k d refl h
