-- What each entry with its change keeps, every step of a world keeps.
use Rattle.std.proofs.Common.{◌≡◌, ℕ, ◌+◌, ◌-◌, Bool, true, false, nat_eq, List, [], ◌∷◌, ◌++◌, Option, None, Some}
use Rattle.std.proofs.Common.{Result, Ok, Err, length, refl, slice_get, slice_set, cond}
use Rattle.dv_value.specs.Failure.{is_fault}
use Rattle.dv_value.specs.declared.value.Value.{Value, Null}
use Rattle.dv_journal.specs.Journal.{fits, with_entry}
use Rattle.dv_journal.specs.declared.entry.Entry.{Entry}
use Rattle.dv_journal.specs.declared.entry.Entry.TheVariants as entry
use Rattle.dv_journal.specs.declared.error.Stop.{Stop}
use Rattle.dv_journal.specs.declared.error.Stop.TheVariants as stop
use Rattle.dv_store.specs.Callbacks as callbacks
use Rattle.dv_store.specs.Callbacks.{with_handed, with_result}
use Rattle.dv_store.specs.Cancelling.{swallow_next}
use Rattle.dv_store.specs.Chaining as chaining
use Rattle.dv_store.specs.Fire as firing
use Rattle.dv_store.specs.Pausing as pausing
use Rattle.dv_store.specs.Pausing.{with_pauses}
use Rattle.dv_store.specs.Record as records
use Rattle.dv_store.specs.Record.{with_item, new_record, changing}
use Rattle.dv_journal.specs.Telling.{telling}
use Rattle.dv_store.specs.State.{State, Told}
use Rattle.dv_store.specs.declared.error.AlreadyCalled.{AlreadyCalled}
use Rattle.dv_journal.specs.declared.error.Fault.{Fault}
use Rattle.dv_journal.specs.declared.error.Fault.TheVariants as fault
use Rattle.dv_store.specs.declared.error.NotPaused.{NotPaused}
use Rattle.dv_store.specs.declared.record.Item.{Item}
use Rattle.dv_store.specs.declared.record.Item.TheVariants as item
use Rattle.dv_store.specs.declared.record.Record.{Record}
use Rattle.dv_store.specs.declared.store.Fired.{Fired}
use Rattle.dv_store.specs.declared.store.Fired.TheVariants.{Set, Swallowed}
use Rattle.dv_store.specs.declared.store.Placed.{Placed}
use Rattle.dv_store.specs.declared.store.Placed.TheVariants.{Taken, Waits}
use Rattle.dv_store.specs.declared.store.Step.{Step}
use Rattle.dv_store.specs.declared.store.Step.TheVariants.{Nothing, Run, Handed}
use Rattle.dv_loop.proofs.Lasting.{Lasting}
use Rattle.dv_script.specs.declared.work.Work.{Work}
use Rattle.dv_objects.specs.Works.{is_full}
use Rattle.dv_journal.specs.Told.{change_of, Aside}
use Rattle.dv_objects.specs.Pair.{passes}
use Rattle.dv_objects.specs.declared.canceller.Canceller.{Canceller}
use Rattle.dv_objects.specs.Objects.{Objects}
use Rattle.dv_world.specs.World.{World, Records, state_of, after, moved, named, fired, unpaused, step, put}
use Rattle.dv_world.specs.World.{put_deferred, append, make, fire, fire_then_swallow, fired_then_swallows, cancel}
use Rattle.dv_world.specs.World.{reached_from, pause}
use Rattle.dv_world.specs.World.{unpause, aside, arrange, submit}
use Rattle.dv_objects.specs.Refusals.{cancelled}
use Rattle.dv_objects.specs.declared.follow.Follow.TheVariants as follow
use Rattle.dv_objects.specs.Pair.{Pair}
use Rattle.dv_objects.specs.declared.reached.Reached.{Reached}
use Rattle.dv_objects.specs.declared.reached.Reached.TheVariants as reached

-- the Deferreds and the journal
abbrev pub Both : Type 0
Both = State Pair Canceller

-- a Deferred and what is kept of it
abbrev pub Kind : Type 0
Kind = Record Pair Canceller

-- an entry, and these records
abbrev pub telling_of : Entry → Records → Both → Both
telling_of e rs s = (rs, with_entry s.1 e)

pub record Kept (R : Both → Both → Type 0) : Type 0 where
  pub stays : (s : Both) → R s s
  pub joins : (s t u : Both) → R s t → R t u → R s u
  pub drops : (d : ℕ) (r : Kind) (pair : Pair) (rest : List (Item Pair)) (s : Both) → slice_get s.0 d ≡ Some r
      → r.items ≡ item.Pair pair ∷ rest → R s (slice_set s.0 d (record r { items = rest }), s.1)
  pub news : (name : Option (List ℕ)) (canceller : Option Canceller) (s : Both)
      → fits s.1 (entry.New (length s.0) name) ≡ true
      → R s (telling_of (entry.New (length s.0) name) (s.0 ++ new_record name canceller ∷ []) s)
  pub asides : (e : Entry) (s : Both) → change_of e ≡ Aside → fits s.1 e ≡ true → R s (telling_of e s.0 s)
  pub refuses : (d : ℕ) (r : Kind) (s : Both) → fits s.1 (entry.Refuse d) ≡ true → slice_get s.0 d ≡ Some r
      → r.fired ≡ true → R s (telling_of (entry.Refuse d) s.0 s)
  pub swallows : (d : ℕ) (r : Kind) (s : Both) → fits s.1 (entry.Swallow d) ≡ true → slice_get s.0 d ≡ Some r
      → r.swallows ≡ true → R s (telling_of (entry.Swallow d) (slice_set s.0 d (firing.with_swallows false r)) s)
  pub cancels : (d : ℕ) (s : Both) → fits s.1 (entry.Cancel d) ≡ true → R s (telling_of (entry.Cancel d) s.0 s)
  pub sets_swallows : (d : ℕ) (r : Kind) (s : Both) → fits s.1 (entry.Fire d cancelled) ≡ true
      → slice_get s.0 d ≡ Some r
      → r.fired ≡ false
      → R s (telling_of (entry.Fire d cancelled) (swallow_next d (slice_set s.0 d (firing.with_firing cancelled r))) s)
  pub fires : (d : ℕ) (value : Value) (r : Kind) (s : Both) → fits s.1 (entry.Fire d value) ≡ true
      → slice_get s.0 d ≡ Some r → r.fired ≡ false
      → R s (telling_of (entry.Fire d value) (slice_set s.0 d (firing.with_firing value r)) s)
  pub adds : (d : ℕ) (pair : Pair) (r : Kind) (s : Both) → fits s.1 (entry.Add d) ≡ true → slice_get s.0 d ≡ Some r
      → R s (telling_of (entry.Add d) (slice_set s.0 d (with_item (item.Pair pair) r)) s)
  pub runs : (d : ℕ) (pair : Pair) (r : Kind) (rest : List (Item Pair)) (s : Both) → fits s.1 (entry.Run d) ≡ true
      → slice_get s.0 d ≡ Some r → r.items ≡ item.Pair pair ∷ rest
      → R s (telling_of (entry.Run d) (slice_set s.0 d (record r { items = rest; running = true })) s)
  pub hands : (d c : ℕ) (r : Kind) (rest : List (Item Pair)) (s : Both) → fits s.1 (entry.Hand d c r.value) ≡ true
      → slice_get s.0 d ≡ Some r → r.items ≡ item.HandOver c ∷ rest
      → R s (telling_of (entry.Hand d c r.value)
      (changing c (with_handed r.value) (slice_set s.0 d (record r { items = rest; value = Null }))) s)
  pub sets : (d : ℕ) (value : Value) (r : Kind) (s : Both) → fits s.1 (entry.Set d value) ≡ true
      → slice_get s.0 d ≡ Some r → R s (telling_of (entry.Set d value) (slice_set s.0 d (with_result value r)) s)
  pub waits : (d e : ℕ) (r given : Kind) (s : Both) → fits s.1 (entry.Wait d e) ≡ true → slice_get s.0 d ≡ Some r
      → slice_get s.0 e ≡ Some given → R s (telling_of (entry.Wait d e) (chaining.waiting d e s.0) s)
  pub takes : (d e : ℕ) (r given : Kind) (s : Both) → fits s.1 (entry.Take d e given.value) ≡ true
      → slice_get s.0 d ≡ Some r → slice_get s.0 e ≡ Some given → chaining.is_pending d e given ≡ false
      → R s (telling_of (entry.Take d e given.value) (chaining.taking d e given.value s.0) s)
  pub pauses : (d : ℕ) (r : Kind) (s : Both) → fits s.1 (entry.Pause d) ≡ true → slice_get s.0 d ≡ Some r
      → R s (telling_of (entry.Pause d) (slice_set s.0 d (with_pauses (r.pauses + 1) r)) s)
  pub unpauses : (d : ℕ) (r : Kind) (s : Both) → fits s.1 (entry.Unpause d) ≡ true → slice_get s.0 d ≡ Some r
      → nat_eq r.pauses 0 ≡ false
      → R s (telling_of (entry.Unpause d) (slice_set s.0 d (with_pauses (r.pauses - 1) r)) s)

module _ (R : Both → Both → Type 0) (k : Kept R) where
  -- logged where there is room
  room : {A : Type 0} (b : Bool) (x y : A) (s u : Both) → (b ≡ true → R s u)
      → R s (cond {A = A × Both} b (x, u) (y, s)).1
  room true x y s u h = h refl
  room false x y s u h = k.stays s

  either : {A : Type 0} (b : Bool) (x y : A × Both) (s : Both) → R s x.1 → R s y.1 → R s (cond {A = A × Both} b x y).1
  either true x y s g h = g
  either false x y s g h = h

  -- a step of the store
  pair_keeps : (d : ℕ) (r : Kind) (pair : Pair) (rest : List (Item Pair)) (s : Both) → slice_get s.0 d ≡ Some r
      → r.items ≡ item.Pair pair ∷ rest → R s (callbacks.use_pair passes d r pair rest s).1
  pair_keeps d r pair rest s g e =
      either (passes pair (is_fault r.value)) _ _ s (k.drops d r pair rest s g e)
      (room (fits s.1 (entry.Run d)) (Ok (Run pair)) (Err stop.Limit) s _ (λ x. k.runs d pair r rest s x g e))

  item_keeps : (d : ℕ) (r : Kind) (first : Item Pair) (rest : List (Item Pair)) (s : Both) → slice_get s.0 d ≡ Some r
      → r.items ≡ first ∷ rest → R s (callbacks.use_item passes d r first rest s).1
  item_keeps d r (item.Pair pair) rest s g e = pair_keeps d r pair rest s g e
  item_keeps d r (item.HandOver c) rest s g e =
      room (fits s.1 (entry.Hand d c r.value)) (Ok (Handed c)) (Err stop.Limit) s _ (λ x. k.hands d c r rest s x g e)

  first_keeps : (d : ℕ) (r : Kind) (items : List (Item Pair)) (s : Both) → slice_get s.0 d ≡ Some r → r.items ≡ items
      → R s (callbacks.use_first passes d r items s).1
  first_keeps d r [] s g e = k.stays s
  first_keeps d r (first ∷ rest) s g e = item_keeps d r first rest s g e

  found_keeps : (d : ℕ) (o : Option Kind) (s : Both) → slice_get s.0 d ≡ o → R s (callbacks.step_found passes d o s).1
  found_keeps d None s g = k.stays s
  found_keeps d (Some r) s g = either (callbacks.is_ready r) _ _ s (first_keeps d r r.items s g refl) (k.stays s)

  store_step_keeps : (d : ℕ) (s : Both) → R s (callbacks.step passes d s).1
  unfolding callbacks.step
  store_step_keeps d s = found_keeps d _ s refl

  -- the other calls of the store
  put_keeps : (d : ℕ) (value : Value) (o : Option Kind) (s : Both) → slice_get s.0 d ≡ o
      → R s (callbacks.put_found d value o s).1
  put_keeps d value None s g = k.stays s
  put_keeps d value (Some r) s g =
      room (fits s.1 (entry.Set d value)) (Ok tt) (Err stop.Limit) s _ (λ x. k.sets d value r s x g)

  from_keeps : (d e : ℕ) (r given : Kind) (s : Both) (b : Bool) → chaining.is_pending d e given ≡ b
      → slice_get s.0 d ≡ Some r → slice_get s.0 e ≡ Some given
      → R s (cond {A = Told Placed Pair Canceller} b (telling (entry.Wait d e) Waits (chaining.waiting d e s.0) s)
      (telling (entry.Take d e given.value) Taken (chaining.taking d e given.value s.0) s)).1
  from_keeps d e r given s true p g h =
      room (fits s.1 (entry.Wait d e)) (Ok Waits) (Err stop.Limit) s _ (λ x. k.waits d e r given s x g h)
  from_keeps d e r given s false p g h =
      room (fits s.1 (entry.Take d e given.value)) (Ok Taken) (Err stop.Limit) s _ (λ x. k.takes d e r given s x g h p)

  given_keeps : (d e : ℕ) (o p : Option Kind) (s : Both) → slice_get s.0 d ≡ o → slice_get s.0 e ≡ p
      → R s (chaining.put_deferred_found d e o p s).1
  given_keeps d e None p s g h = k.stays s
  given_keeps d e (Some r) None s g h = k.stays s
  given_keeps d e (Some r) (Some given) s g h = from_keeps d e r given s _ refl g h

  store_given_keeps : (d e : ℕ) (s : Both) → R s (chaining.put_deferred d e s).1
  unfolding chaining.put_deferred
  store_given_keeps d e s = given_keeps d e _ _ s refl refl

  append_keeps : (d : ℕ) (pair : Pair) (o : Option Kind) (s : Both) → slice_get s.0 d ≡ o
      → R s (records.append_found d pair o s).1
  append_keeps d pair None s g = k.stays s
  append_keeps d pair (Some r) s g =
      room (fits s.1 (entry.Add d)) (Ok tt) (Err stop.Limit) s _ (λ x. k.adds d pair r s x g)

  again_keeps : (d : ℕ) (r : Kind) (s : Both) (b : Bool) → r.swallows ≡ b → r.fired ≡ true → slice_get s.0 d ≡ Some r
      → R s (cond {A = firing.Firing Pair Canceller} b
      (firing.telling_firing (entry.Swallow d) (Ok Swallowed) (slice_set s.0 d (firing.with_swallows false r)) s)
      (firing.telling_firing (entry.Refuse d) (Err (fault.Refused (record {}))) s.0 s)).1
  again_keeps d r s true q p g =
      room (fits s.1 (entry.Swallow d)) (Ok Swallowed) (Err fault.Limit) s _ (λ x. k.swallows d r s x g q)
  again_keeps d r s false q p g =
      room (fits s.1 (entry.Refuse d)) (Err (fault.Refused (record {}))) (Err fault.Limit) s _
      (λ x. k.refuses d r s x g p)

  fired_keeps : (d : ℕ) (value : Value) (r : Kind) (s : Both) (b : Bool) → r.fired ≡ b → slice_get s.0 d ≡ Some r
      → R s (cond {A = firing.Firing Pair Canceller} b (firing.fire_again d r s)
      (firing.telling_firing (entry.Fire d value) (Ok Set) (slice_set s.0 d (firing.with_firing value r)) s)).1
  fired_keeps d value r s true p g = again_keeps d r s _ refl p g
  fired_keeps d value r s false p g =
      room (fits s.1 (entry.Fire d value)) (Ok Set) (Err fault.Limit) s _ (λ x. k.fires d value r s x g p)

  fire_keeps : (d : ℕ) (value : Value) (o : Option Kind) (s : Both) → slice_get s.0 d ≡ o
      → R s (firing.fire_found d value o s).1
  fire_keeps d value None s g = k.stays s
  fire_keeps d value (Some r) s g = fired_keeps d value r s _ refl g

  pause_keeps : (d : ℕ) (o : Option Kind) (s : Both) → slice_get s.0 d ≡ o → R s (pausing.pause_found d o s).1
  pause_keeps d None s g = k.stays s
  pause_keeps d (Some r) s g = room (fits s.1 (entry.Pause d)) (Ok tt) (Err stop.Limit) s _ (λ x. k.pauses d r s x g)

  unpaused_keeps : (d : ℕ) (r : Kind) (s : Both) (b : Bool) → nat_eq r.pauses 0 ≡ b → slice_get s.0 d ≡ Some r
      → R s
      (cond {A = pausing.Unpaused Pair Canceller} b (Err (fault.Refused (record {})), s) (pausing.less_paused d r s)).1
  unpaused_keeps d r s true p g = k.stays s
  unpaused_keeps d r s false p g =
      room (fits s.1 (entry.Unpause d)) (Ok tt) (Err fault.Limit) s _ (λ x. k.unpauses d r s x g p)

  unpause_keeps : (d : ℕ) (o : Option Kind) (s : Both) → slice_get s.0 d ≡ o → R s (pausing.unpause_found d o s).1
  unpause_keeps d None s g = k.stays s
  unpause_keeps d (Some r) s g = unpaused_keeps d r s _ refl g

  -- a world has what the call left
  abbrev Keeps : World → World → Type 0
  Keeps w u = R (state_of w) (state_of u)

  after_keeps : {A : Type 0} (answer : Result A Stop) (s : Both) (w : World) → R (state_of w) s
      → Keeps w (after answer s w)
  after_keeps (Ok done) s w h = h
  after_keeps (Err reason) s w h = h

  moved_keeps : (answer : Result (Step Pair) Stop) (s : Both) (w : World) → R (state_of w) s
      → Keeps w (moved answer s w).1
  moved_keeps (Ok move) s w h = h
  moved_keeps (Err reason) s w h = h

  named_keeps : (name : Option (List ℕ)) (answer : Result ℕ Stop) (s : Both) (w : World) → R (state_of w) s
      → Keeps w (named name answer s w)
  named_keeps name (Ok d) s w h = h
  named_keeps name (Err reason) s w h = h

  world_fired_keeps : (answer : Result Fired (Fault AlreadyCalled)) (s : Both) (w : World) → R (state_of w) s
      → Keeps w (fired answer s w).1
  world_fired_keeps (Ok Set) s w h = h
  world_fired_keeps (Ok Swallowed) s w h = h
  world_fired_keeps (Err (fault.Refused already)) s w h = h
  world_fired_keeps (Err fault.Limit) s w h = h
  world_fired_keeps (Err fault.OutOfMemory) s w h = h

  world_unpaused_keeps : (answer : Result Unit (Fault NotPaused)) (s : Both) (w : World) → R (state_of w) s
      → Keeps w (unpaused answer s w).1
  world_unpaused_keeps (Ok done) s w h = h
  world_unpaused_keeps (Err (fault.Refused already)) s w h = h
  world_unpaused_keeps (Err fault.Limit) s w h = h
  world_unpaused_keeps (Err fault.OutOfMemory) s w h = h

  -- a firing that a cancel asks for, with the guard
  swallows_keeps : (d : ℕ) (w : World) (told : firing.Firing Pair Canceller)
      → (told.0 ≡ Ok Set → R (state_of w) (swallow_next d told.1.0, told.1.1)) → R (state_of w) told.1
      → Keeps w (fired_then_swallows d told.0 told.1 w)
  swallows_keeps d w (Ok Set, s) h g = h refl
  swallows_keeps d w (Ok Swallowed, s) h g = g
  swallows_keeps d w (Err (fault.Refused already), s) h g = g
  swallows_keeps d w (Err fault.Limit, s) h g = g
  swallows_keeps d w (Err fault.OutOfMemory, s) h g = g

  -- no firing of a fired Deferred sets its value
  never : (b : Bool) (answer : Result Fired (Fault AlreadyCalled)) (s u : Both) → (answer ≡ Ok Set → ⊥)
      → (cond {A = firing.Firing Pair Canceller} b (answer, u) (Err fault.Limit, s)).0 ≡ Ok Set → ⊥
  never true answer s u h e = h e
  never false answer s u h e = absurd cc

  never_again : (d : ℕ) (r : Kind) (s : Both) (b : Bool)
      → (cond {A = firing.Firing Pair Canceller} b
      (firing.telling_firing (entry.Swallow d) (Ok Swallowed) (slice_set s.0 d (firing.with_swallows false r)) s)
      (firing.telling_firing (entry.Refuse d) (Err (fault.Refused (record {}))) s.0 s)).0 ≡ Ok Set → ⊥
  never_again d r s true e = never (fits s.1 (entry.Swallow d)) (Ok Swallowed) s _ (λ h. absurd cc) e
  never_again d r s false e = never (fits s.1 (entry.Refuse d)) (Err (fault.Refused (record {}))) s _ (λ h. absurd cc) e

  -- where it is set, the Deferred is guarded
  set_told : (d : ℕ) (r : Kind) (s : Both) (b : Bool) → fits s.1 (entry.Fire d cancelled) ≡ b → slice_get s.0 d ≡ Some r
      → r.fired ≡ false
      → (let t = cond {A = firing.Firing Pair Canceller} b (
        Ok Set,
        (slice_set s.0 d (firing.with_firing cancelled r), with_entry s.1 (entry.Fire d cancelled)),
      ) (Err fault.Limit, s) in
      t.0 ≡ Ok Set → R s (swallow_next d t.1.0, t.1.1))
  set_told d r s true x g p h = k.sets_swallows d r s x g p
  set_told d r s false x g p h = absurd cc

  set_kept : (d : ℕ) (r : Kind) (s : Both) (b : Bool) → r.fired ≡ b → slice_get s.0 d ≡ Some r
      → (let t = cond {A = firing.Firing Pair Canceller} b (firing.fire_again d r s)
      (firing.telling_firing (entry.Fire d cancelled) (Ok Set) (slice_set s.0 d (firing.with_firing cancelled r)) s) in
      t.0 ≡ Ok Set → R s (swallow_next d t.1.0, t.1.1))
  set_kept d r s true p g h = absurd (never_again d r s r.swallows h)
  set_kept d r s false p g h = set_told d r s _ refl g p h

  set_found : (d : ℕ) (o : Option Kind) (s : Both) → slice_get s.0 d ≡ o
      → (let t = firing.fire_found d cancelled o s in t.0 ≡ Ok Set → R s (swallow_next d t.1.0, t.1.1))
  set_found d None s g h = rw g (k.stays s)
  set_found d (Some r) s g h = set_kept d r s _ refl g h

  -- a stopped world stays
  unless : (b : Bool) (u w : World) → Keeps w u → Keeps w (cond b w u)
  unless true u w h = k.stays (state_of w)
  unless false u w h = h

  unless_and : {A : Type 0} (b : Bool) (x : A) (p : A × World) (w : World) → Keeps w p.1
      → Keeps w (cond {A = A × World} b (x, w) p).1
  unless_and true x p w h = k.stays (state_of w)
  unless_and false x p w h = h

  told_keeps : (e : Entry) (change : Objects → Objects) (b : Bool) (w : World) → fits w.journal e ≡ b
      → (fits w.journal e ≡ true → R (state_of w) (telling_of e w.records (state_of w))) → Keeps w
      (cond b (record w { objects = change w.objects; journal = with_entry w.journal e }) (record w { stopped = true }))
  told_keeps e change true w p h = h p
  told_keeps e change false w p h = k.stays (state_of w)

  cancel_told : (d : ℕ) (w : World) (b : Bool) → fits w.journal (entry.Cancel d) ≡ b
      → Keeps w (cond {A = Reached × World} b (
        reached_from d w.records,
        record w { journal = with_entry w.journal (entry.Cancel d) },
      ) (reached.Nothing, record w { stopped = true })).1
  cancel_told d w true x = k.cancels d (state_of w) x
  cancel_told d w false x = k.stays (state_of w)

  by_aside : (e : Entry) (change : Objects → Objects) (w : World) → change_of e ≡ Aside → Keeps w (aside e change w)
  unfolding aside
  by_aside e change w a = unless w.stopped _ w (told_keeps e change _ w refl (k.asides e (state_of w) a))

  by_arrange : (change : Objects → Objects) (w : World) → Keeps w (arrange change w)
  unfolding arrange
  by_arrange change w = unless w.stopped _ w (k.stays (state_of w))

  submitted_keeps : (d : ℕ) (pool : Option (List ℕ)) (work : Work) (b : Bool) (w : World)
      → fits w.journal (entry.Job (length w.works) d) ≡ b
      → Keeps w (cond b (record w {
        works = w.works ++ work ∷ [];
        pools = w.pools ++ pool ∷ [];
        journal = with_entry w.journal (entry.Job (length w.works) d);
      }) (record w { stopped = true }))
  submitted_keeps d pool work true w x = k.asides (entry.Job (length w.works) d) (state_of w) refl x
  submitted_keeps d pool work false w x = k.stays (state_of w)

  by_submit : (d : ℕ) (pool : Option (List ℕ)) (work : Work) (w : World) → Keeps w (submit d pool work w)
  unfolding submit
  by_submit d pool work w = unless w.stopped _ w (unless (is_full w.works) _ w (submitted_keeps d pool work _ w refl))

  by_step : (d : ℕ) (w : World) → Keeps w (step d w).1
  unfolding step
  by_step d w =
      let told = callbacks.step passes d (state_of w) in unless_and w.stopped Nothing (moved told.0 told.1 w) w
      (moved_keeps told.0 told.1 w (store_step_keeps d (state_of w)))

  by_put : (d : ℕ) (value : Value) (w : World) → Keeps w (put d value w)
  unfolding put
  by_put d value w =
      let told = callbacks.put d value (state_of w) in
      unless w.stopped (after told.0 told.1 w) w (after_keeps told.0 told.1 w (put_keeps d value _ (state_of w) refl))

  by_put_deferred : (d e : ℕ) (w : World) → Keeps w (put_deferred d e w)
  unfolding put_deferred
  by_put_deferred d e w =
      let told = chaining.put_deferred d e (state_of w) in
      unless w.stopped (after told.0 told.1 w) w (after_keeps told.0 told.1 w (store_given_keeps d e (state_of w)))

  by_append : (d : ℕ) (pair : Pair) (w : World) → Keeps w (append d pair w)
  unfolding append
  by_append d pair w =
      let told = records.append d pair (state_of w) in
      unless w.stopped (after told.0 told.1 w) w (after_keeps told.0 told.1 w (append_keeps d pair _ (state_of w) refl))

  by_make : (name : Option (List ℕ)) (canceller : Option Canceller) (w : World) → Keeps w (make name canceller w)
  unfolding make
  by_make name canceller w =
      let told = records.make name canceller (state_of w) in
      let made : R (state_of w) told.1 = room (fits w.journal (entry.New (length w.records) name))
      (Ok (length w.records)) (Err stop.Limit) (state_of w) _ (λ x. k.news name canceller (state_of w) x) in
      unless w.stopped (named name told.0 told.1 w) w (named_keeps name told.0 told.1 w made)

  by_fire : (d : ℕ) (value : Value) (w : World) → Keeps w (fire d value w).1
  unfolding fire
  by_fire d value w =
      let told = firing.fire d value (state_of w) in unless_and w.stopped follow.Nothing (fired told.0 told.1 w) w
      (world_fired_keeps told.0 told.1 w (fire_keeps d value _ (state_of w) refl))

  by_fire_then_swallow : (d : ℕ) (w : World) → Keeps w (fire_then_swallow d w)
  unfolding fire_then_swallow
  by_fire_then_swallow d w =
      let told = firing.fire d cancelled (state_of w) in
      unless w.stopped (fired_then_swallows d told.0 told.1 w) w
      (swallows_keeps d w told (set_found d _ (state_of w) refl) (fire_keeps d cancelled _ (state_of w) refl))

  by_cancel : (d : ℕ) (w : World) → Keeps w (cancel d w).1
  unfolding cancel
  by_cancel d w = unless_and w.stopped reached.Nothing _ w (cancel_told d w _ refl)

  by_pause : (d : ℕ) (w : World) → Keeps w (pause d w)
  unfolding pause
  by_pause d w =
      let told = pausing.pause d (state_of w) in
      unless w.stopped (after told.0 told.1 w) w (after_keeps told.0 told.1 w (pause_keeps d _ (state_of w) refl))

  by_unpause : (d : ℕ) (w : World) → Keeps w (unpause d w).1
  unfolding unpause
  by_unpause d w =
      let told = pausing.unpause d (state_of w) in unless_and w.stopped follow.Nothing (unpaused told.0 told.1 w) w
      (world_unpaused_keeps told.0 told.1 w (unpause_keeps d _ (state_of w) refl))

  pub every_step : Lasting (λ w u. R (state_of w) (state_of u))
  every_step = record {
    stays = λ w. k.stays (state_of w);
    joins = λ u v w. k.joins (state_of u) (state_of v) (state_of w);
    by_stop = λ w. k.stays (state_of w);
    by_step = by_step;
    by_put = by_put;
    by_put_deferred = by_put_deferred;
    by_append = by_append;
    by_make = by_make;
    by_fire = by_fire;
    by_fire_then_swallow = by_fire_then_swallow;
    by_cancel = by_cancel;
    by_pause = by_pause;
    by_unpause = by_unpause;
    by_aside = by_aside;
    by_arrange = by_arrange;
    by_submit = by_submit;
  }
