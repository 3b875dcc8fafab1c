-- What holds of each change of a world with its entry, holds of the steps of all rules but settling.
use Rattle.std.specs.Prelude.{◌≡◌, ℕ, ◌+◌, ◌-◌, true, false, nat_eq, List, [], ◌∷◌, ◌++◌, Option, None, Some}
use Rattle.std.specs.Prelude.{length, slice_get, slice_set}
use Rattle.std.proofs.Common.{refl}
use Rattle.dv_value.specs.declared.value.Value.{Value, Text}
use Rattle.dv_journal.specs.Journal.{fits, with_entry}
use Rattle.dv_journal.specs.Told.{change_of, Aside}
use Rattle.dv_journal.specs.declared.entry.Entry.{Entry}
use Rattle.dv_journal.specs.declared.entry.Entry.TheVariants as entry
use Rattle.dv_store.specs.Cancelling.{swallow_next}
use Rattle.dv_store.specs.Fire as firing
use Rattle.dv_store.specs.Pausing.{with_pauses}
use Rattle.dv_store.specs.Record.{with_item, new_record}
use Rattle.dv_store.specs.declared.record.Item.TheVariants as item
use Rattle.dv_objects.specs.Objects.{Objects, naming, naming_where, with_queue, queue_changed, with_lock, lock_changed}
use Rattle.dv_objects.specs.Pair.{Pair}
use Rattle.dv_objects.specs.Refusals.{cancelled}
use Rattle.dv_objects.specs.declared.canceller.Canceller.{Canceller}
use Rattle.dv_objects.specs.declared.follow.Follow.TheVariants as follow
use Rattle.dv_prims.specs.Queue.{Queue, may_put, put_to, got_from, receiver, withdrawn}
use Rattle.dv_prims.specs.Tokens.{Semaphore, first_waiting, asked, released, forgotten}
use Rattle.dv_script.specs.declared.work.Work.{Work}
use Rattle.dv_loop.proofs.Kept.{Kind}
use Rattle.dv_world.specs.World.{World, fired, fire, fire_then_swallow, fired_then_swallows, cancel, withdraw}
use Rattle.dv_world.specs.World.{with_stop, ask, release, forget}
use Rattle.dv_laws.proofs.Beside.{Beside, Arranged, resting, arranging, SameLocks, SameLoops, QueuePut, QueueGot}
use Rattle.dv_laws.proofs.Beside.{QueueForgets, SameQueues, LockAsked, LockReleased, LockForgets}
use Rattle.dv_laws.proofs.Calm.{Regular, WasCancelled, Calm, handed, handed_to, asking, granted, queue_beside}
use Rattle.dv_laws.proofs.Calm.{lock_beside}
use Rattle.dv_laws.proofs.Clocks.{Clocks, Leaves, Arranges, Stays}
use Rattle.dv_laws.proofs.Steps.{telling_in, append_cases, pause_cases, make_cases, aside_cases, arrange_cases}
use Rattle.dv_laws.proofs.Steps.{submit_cases, cancel_cases, unpause_cases, fire_cases, unless, unless_and}
use Rattle.dv_laws.proofs.Steps.{put_into_cases, get_from_cases, ask_cases, release_cases}

-- a relation that holds of each change of a world with its entry, but for those by which a Deferred is settled and time
-- goes on
pub record Still (R : World → World → Type 0) : Type 0 where
  pub stays : (w : World) → R w w
  pub joins : (u v w : World) → R u v → R v w → R u w
  pub stops : (w : World) → R w (with_stop w)
  pub news : (name : Option (List ℕ)) (canceller : Option Canceller) (w : World)
      → fits w.journal (entry.New (length w.records) name) ≡ true
      → R w (record (telling_in (entry.New (length w.records) name) (w.records ++ new_record name canceller ∷ []) w) {
        objects = naming_where name (length w.records) w.objects;
      })
  pub asides : (e : Entry) (change : Objects → Objects) (w : World) → change_of e ≡ Aside
      → (Regular w.objects.loops → Clocks e w.objects.clock (change w.objects).clock)
      → (Regular w.objects.loops → Regular (change w.objects).loops) → Beside e w.objects (change w.objects)
      → fits w.journal e ≡ true
      → R w (record w { objects = change w.objects; journal = with_entry w.journal e })
  pub arranges : (change : Objects → Objects) (w : World) → Arranges w.objects.clock (change w.objects).clock
      → (Regular w.objects.loops → Regular (change w.objects).loops) → Arranged w.objects (change w.objects)
      → R w (record w { objects = change w.objects })
  pub submits : (d : ℕ) (pool : Option (List ℕ)) (work : Work) (w : World)
      → fits w.journal (entry.Job (length w.works) d) ≡ true
      → R w (record w {
        works = w.works ++ work ∷ [];
        pools = w.pools ++ pool ∷ [];
        journal = with_entry w.journal (entry.Job (length w.works) d);
      })
  pub refuses : (d : ℕ) (r : Kind) (w : World) → fits w.journal (entry.Refuse d) ≡ true → slice_get w.records d ≡ Some r
      → r.fired ≡ true → r.swallows ≡ false → R w (telling_in (entry.Refuse d) w.records w)
  pub swallows : (d : ℕ) (r : Kind) (w : World) → fits w.journal (entry.Swallow d) ≡ true
      → slice_get w.records d ≡ Some r → r.swallows ≡ true
      → R w (telling_in (entry.Swallow d) (slice_set w.records d (firing.with_swallows false r)) w)
  pub cancels : (d : ℕ) (w : World) → fits w.journal (entry.Cancel d) ≡ true
      → R w (telling_in (entry.Cancel d) w.records w)
  pub sets_swallows : (d : ℕ) (r : Kind) (w : World) → fits w.journal (entry.Fire d cancelled) ≡ true
      → slice_get w.records d ≡ Some r → r.fired ≡ false → WasCancelled d w
      → R w
      (telling_in (entry.Fire d cancelled) (swallow_next d (slice_set w.records d (firing.with_firing cancelled r))) w)
  pub fires : (d : ℕ) (value : Value) (r : Kind) (w : World) → fits w.journal (entry.Fire d value) ≡ true
      → slice_get w.records d ≡ Some r → r.fired ≡ false
      → R w (telling_in (entry.Fire d value) (slice_set w.records d (firing.with_firing value r)) w)
  pub adds : (d : ℕ) (pair : Pair) (r : Kind) (w : World) → fits w.journal (entry.Add d) ≡ true
      → slice_get w.records d ≡ Some r
      → R w (telling_in (entry.Add d) (slice_set w.records d (with_item (item.Pair pair) r)) w)
  pub pauses : (d : ℕ) (r : Kind) (w : World) → fits w.journal (entry.Pause d) ≡ true → slice_get w.records d ≡ Some r
      → R w (telling_in (entry.Pause d) (slice_set w.records d (with_pauses (r.pauses + 1) r)) w)
  pub unpauses : (d : ℕ) (r : Kind) (w : World) → fits w.journal (entry.Unpause d) ≡ true
      → slice_get w.records d ≡ Some r → nat_eq r.pauses 0 ≡ false
      → R w (telling_in (entry.Unpause d) (slice_set w.records d (with_pauses (r.pauses - 1) r)) w)

-- who waits no longer for a value of a queue
queue_same : (k : ℕ) (change : Queue → Queue) (o : Option Queue) (objects : Objects)
    → Arranges objects.clock (queue_changed k change o objects).clock
queue_same k change None objects = Stays
queue_same k change (Some q) objects = Stays

queue_loops : (k : ℕ) (change : Queue → Queue) (o : Option Queue) (objects : Objects) → Regular objects.loops
    → Regular (queue_changed k change o objects).loops
queue_loops k change None objects r = r
queue_loops k change (Some q) objects r = r

queue_arranged : (k d : ℕ) (o : Option Queue) (objects : Objects) → slice_get objects.queues k ≡ o
    → Arranged objects (queue_changed k (withdrawn d) o objects)
queue_arranged k d None objects h = arranging _ _ refl refl refl refl refl
queue_arranged k d (Some q) objects h = record {
  tasks = refl;
  turns = refl;
  locks = SameLocks _ refl;
  queues = QueueForgets k d q h;
  loops = SameLoops _ refl;
}

-- who waits no longer for a token of a lock
lock_same : (l : ℕ) (change : Semaphore → Semaphore) (o : Option Semaphore) (objects : Objects)
    → Arranges objects.clock (lock_changed l change o objects).clock
lock_same l change None objects = Stays
lock_same l change (Some s) objects = Stays

lock_loops : (l : ℕ) (change : Semaphore → Semaphore) (o : Option Semaphore) (objects : Objects) → Regular objects.loops
    → Regular (lock_changed l change o objects).loops
lock_loops l change None objects r = r
lock_loops l change (Some s) objects r = r

lock_arranged : (l d : ℕ) (o : Option Semaphore) (objects : Objects) → slice_get objects.semaphores l ≡ o
    → Arranged objects (lock_changed l (forgotten d) o objects)
lock_arranged l d None objects h = arranging _ _ refl refl refl refl refl
lock_arranged l d (Some s) objects h = record {
  tasks = refl;
  turns = refl;
  locks = LockForgets l d s h;
  queues = SameQueues _ refl;
  loops = SameLoops _ refl;
}

module _ (R : World → World → Type 0) (k : Still R) where
  after_fire : (d : ℕ) (value : Value) (w : World) → R w (fire d value w).1
  unfolding fire
  after_fire d value w =
      unless_and w (R w) (k.stays w) (k.stops w) w.stopped follow.Nothing _
      (fire_cases w (λ answer s. R w (fired answer s w).1) (k.stops w) d value _ refl (λ g. k.stays w)
      (λ r x g q. k.swallows d r w x g q) (λ r x g p q. k.refuses d r w x g p q) (λ r x g p. k.fires d value r w x g p))

  after_swallows : (d : ℕ) (w : World) → WasCancelled d w → R w (fire_then_swallow d w)
  unfolding fire_then_swallow
  after_swallows d w c =
      unless w (R w) (k.stays w) (k.stops w) w.stopped _
      (fire_cases w (λ answer s. R w (fired_then_swallows d answer s w)) (k.stops w) d cancelled _ refl
      (λ g. rw g (k.stays w))
      (λ r x g q. k.swallows d r w x g q) (λ r x g p q. k.refuses d r w x g p q)
      (λ r x g p. k.sets_swallows d r w x g p c))

  -- a Deferred that gets a value is fired with it
  after_handed : (o : Option (ℕ × Value)) (w : World) → R w (handed o w)
  after_handed None w = k.stays w
  after_handed (Some who) w = after_fire who.0 who.1 w

  after_handed_to : (d : ℕ) (o : Option Value) (w : World) → R w (handed_to d o w)
  after_handed_to d None w = k.stays w
  after_handed_to d (Some value) w = after_fire d value w

  after_put : (key : ℕ) (value : Value) (q : Queue) (w : World) → slice_get w.objects.queues key ≡ Some q
      → may_put q ≡ true → fits w.journal (entry.Put q.name value) ≡ true
      → R w (record w {
        objects = with_queue key (put_to q.waiting value q) w.objects;
        journal = with_entry w.journal (entry.Put q.name value);
      })
  after_put key value q w g m x =
      k.asides (entry.Put q.name value) (with_queue key (put_to q.waiting value q)) w refl
      (λ c. Leaves (refl, refl, refl)) (λ l. l)
      (queue_beside _ _ _ (QueuePut key value q g m refl) refl refl refl refl refl refl) x

  after_got : (key d : ℕ) (q : Queue) (w : World) → slice_get w.objects.queues key ≡ Some q
      → fits w.journal (entry.Get q.name d) ≡ true
      → R w (record w {
        objects = with_queue key (got_from q.stored d q) w.objects;
        journal = with_entry w.journal (entry.Get q.name d);
      })
  after_got key d q w g x =
      k.asides (entry.Get q.name d) (with_queue key (got_from q.stored d q)) w refl
      (λ c. Leaves (refl, refl, refl)) (λ l. l)
      (queue_beside _ _ _ (QueueGot key d q g refl) refl refl refl refl refl refl) x

  -- a Deferred that is granted a token is fired with the name of its lock
  after_granted : (o : Option ℕ) (name : List ℕ) (w : World) → R w (granted o name w)
  after_granted None name w = k.stays w
  after_granted (Some d) name w = after_fire d (Text name) w

  after_ask : (l d : ℕ) (w : World) → R w (ask l d w)
  after_ask l d w =
      ask_cases w (R w) (k.stays w) (k.stops w) l d
      (λ s x g. k.asides (entry.Acquire s.name d) (with_lock l (asked d s)) w refl
      (λ c. Leaves (refl, refl, refl)) (λ r. r)
      (lock_beside _ _ _ (LockAsked l d s g refl) refl refl refl refl refl refl) x)

  after_release : (l : ℕ) (w : World) → R w (release l w)
  after_release l w =
      release_cases w (R w) (k.stays w) (k.stops w) l
      (λ s x g u. k.asides (entry.Release s.name) (with_lock l (released s)) w refl
      (λ c. Leaves (refl, refl, refl)) (λ r. r)
      (lock_beside _ _ _ (LockReleased l s g u refl) refl refl refl refl refl refl) x)

  after_forgetting : (l d : ℕ) (w : World) → R w (forget l d w)
  after_forgetting l d w =
      let change : Objects → Objects =
      λ objects. lock_changed l (forgotten d) (slice_get objects.semaphores l) objects in
      arrange_cases w (R w) (k.stays w) (k.stops w) change (k.arranges change w
      (lock_same l (forgotten d) (slice_get w.objects.semaphores l) w.objects)
      (lock_loops l (forgotten d) (slice_get w.objects.semaphores l) w.objects)
      (lock_arranged l d (slice_get w.objects.semaphores l) w.objects refl))

  after_withdrawal : (key d : ℕ) (w : World) → R w (withdraw key d w)
  after_withdrawal key d w =
      let change : Objects → Objects =
      λ objects. queue_changed key (withdrawn d) (slice_get objects.queues key) objects in
      arrange_cases w (R w) (k.stays w) (k.stops w) change (k.arranges change w
      (queue_same key (withdrawn d) (slice_get w.objects.queues key) w.objects)
      (queue_loops key (withdrawn d) (slice_get w.objects.queues key) w.objects)
      (queue_arranged key d (slice_get w.objects.queues key) w.objects refl))

  after_cancel : (d : ℕ) (w : World) → R w (cancel d w).1
  after_cancel d w = cancel_cases w (R w) (k.stays w) (k.stops w) d (λ x. k.cancels d w x)

  -- each step but those
  pub calm : Calm R
  calm = record {
    quiet = record {
      stays = k.stays;
      joins = k.joins;
      by_stop = k.stops;
      by_make =
          λ name canceller w.
          make_cases w (R w) (k.stays w) (k.stops w) name canceller (λ x. k.news name canceller w x);
      by_cancel = λ d w m. after_cancel d w;
      by_pause = λ d w. pause_cases w (R w) (k.stays w) (k.stops w) d (λ r x g. k.pauses d r w x g);
      by_aside =
          λ e change w a q c l t n.
          aside_cases w (R w) (k.stays w) (k.stops w) e change (λ x. k.asides e change w a c l t x);
      by_arrange =
          λ change w q s l t n. arrange_cases w (R w) (k.stays w) (k.stops w) change (k.arranges change w s l t);
      by_submit =
          λ d pool work w. submit_cases w (R w) (k.stays w) (k.stops w) d pool work (λ x. k.submits d pool work w x);
    };
    stops = k.stops;
    by_put =
        λ key value w. put_into_cases w (λ o u. R w (handed o u)) (k.stays w) (k.stops w) key value
        (λ q s x g m. k.joins w _ _ (after_put key value q w g m x) (after_handed (receiver q.waiting value) _));
    by_get =
        λ key d w i. get_from_cases w (λ o u. R w (handed_to d o u)) (k.stays w) (k.stops w) key d
        (λ q s x g. k.joins w _ _ (after_got key d q w g x) (after_handed_to d (slice_get q.stored 0) _));
    by_withdraw =
        λ of d key w e. k.joins w (cancel of w).1 _ (after_cancel of w)
        (k.joins (cancel of w).1 (withdraw key d (cancel of w).1) _ (after_withdrawal key d (cancel of w).1)
        (after_fire d cancelled (withdraw key d (cancel of w).1)));
    by_ask = λ l d s w g i. k.joins w (ask l d w) _ (after_ask l d w) (after_granted (asking d s) s.name (ask l d w));
    by_release =
        λ l s w g u.
        k.joins w (release l w) _ (after_release l w) (after_granted (first_waiting s) s.name (release l w));
    by_forget =
        λ of d l w e. k.joins w (cancel of w).1 _ (after_cancel of w)
        (k.joins (cancel of w).1 (forget l d (cancel of w).1) _ (after_forgetting l d (cancel of w).1)
        (after_fire d cancelled (forget l d (cancel of w).1)));
    by_name =
        λ d name w.
        let e = entry.Name d (Some name) in
        aside_cases w (R w) (k.stays w) (k.stops w) e (naming name d) (k.asides e (naming name d) w refl
        (λ c. Leaves (refl, refl, refl)) (λ l. l) (resting _ _ _ refl refl refl refl refl refl refl refl refl));
    by_append = λ d pair w. append_cases w (R w) (k.stays w) (k.stops w) d pair (λ r x g. k.adds d pair r w x g);
    by_fire = after_fire;
    by_fire_then_swallow = after_swallows;
    by_unpause = λ d w. unpause_cases w (R w) (k.stays w) (k.stops w) d (λ r x g p. k.unpauses d r w x g p);
  }
