-- A queue serves those that ask in the order in which they ask, and so does a lock: so it is in a run.
use Rattle.std.proofs.Common.{◌≡◌, ℕ, ◌+◌, ◌-◌, ◌≤◌, ◌++◌, Bool, true, false, List, [], ◌∷◌, Option, None, Some}
use Rattle.std.proofs.Common.{refl, sym, ap, subst, ◌∙◌, arith, slice_get, slice_set, cond, length}
use Rattle.std.specs.Prelude.{bytes_eq}
use Rattle.std.proofs.lemmas.List.Sums.{sum_by_push}
use Rattle.std.proofs.lemmas.Option.{none-some}
use Rattle.dv_value.specs.declared.classes.Class.{Class}
use Rattle.dv_value.specs.declared.value.Value.{Value, Null, Text}
use Rattle.dv_journal.specs.Journal.{Written, fits, with_entry}
use Rattle.dv_journal.specs.Told.{change_of, Aside, Fires, Cancels}
use Rattle.dv_journal.specs.declared.entry.Entry.{Entry}
use Rattle.dv_journal.specs.declared.entry.Entry.TheVariants as entry
use Rattle.dv_script.specs.declared.script.Cooperator.{Cooperator as Settings}
use Rattle.dv_script.specs.declared.script.NamedCooperator.{NamedCooperator}
use Rattle.dv_script.specs.declared.script.NamedBody.{NamedBody}
use Rattle.dv_script.specs.declared.script.Script.{Script}
use Rattle.dv_store.specs.Cancelling.{swallow_next}
use Rattle.dv_store.specs.Callbacks.{with_handed, with_result}
use Rattle.dv_store.specs.Chaining as chaining
use Rattle.dv_store.specs.Fire.{with_firing, with_swallows}
use Rattle.dv_store.specs.Pausing.{with_pauses}
use Rattle.dv_store.specs.Record.{with_item, changing}
use Rattle.dv_store.specs.declared.record.Item.{Item}
use Rattle.dv_store.specs.declared.record.Item.TheVariants as item
use Rattle.dv_objects.specs.Objects.{Objects, naming, naming_where, with_time, with_lock, queue_changed, lock_changed}
use Rattle.dv_objects.specs.Pair.{Pair}
use Rattle.dv_objects.specs.Refusals.{cancelled}
use Rattle.dv_objects.specs.declared.canceller.Canceller.TheVariants as canceller
use Rattle.dv_objects.specs.declared.follow.Follow.TheVariants as follow
use Rattle.dv_objects.specs.declared.reached.Reached.{Reached}
use Rattle.dv_objects.specs.declared.reached.Reached.TheVariants as reached
use Rattle.dv_posts.specs.Batches.{Batch}
use Rattle.dv_prims.specs.Queue.{Queue, new_queue, receiver, withdrawn}
use Rattle.dv_prims.specs.Tokens.{Semaphore, first_waiting, asked, released, forgotten}
use Rattle.dv_loop.specs.Meaning.{Means}
use Rattle.dv_loop.proofs.Kept.{Kind}
use Rattle.dv_loop.proofs.Leading.{scripts_mean_what_is_defined}
use Rattle.dv_world.specs.World.{World, state_of, with_state, with_stop, fire, fired, fire_then_swallow}
use Rattle.dv_world.specs.World.{fired_then_swallows, cancel, reached_from, make, pause, unpause, append, aside, submit}
use Rattle.dv_world.specs.World.{put_into, get_from, withdraw, ask, release, forget, first_world}
use Rattle.dv_laws.specs.Granted as granted_in
use Rattle.dv_laws.specs.Granted.{locks_made, GrantsInOrder, LocksServeInOrder}
use Rattle.dv_laws.specs.Served.{made_by, queues_made, ServesInOrder, QueuesServeInOrder}
use Rattle.dv_laws.specs.Stored.{Unqueued, queueing_of, puts_by, gets_by}
use Rattle.dv_laws.specs.Tokens.{Unheld, holding_of}
use Rattle.dv_laws.proofs.At.{set_at}
use Rattle.dv_laws.proofs.Beside.{Beside, Queues, QueuesRest, QueueMade, QueuePut, QueueGot, Locks, LocksRest, LockMade}
use Rattle.dv_laws.proofs.Beside.{SemaphoreMade, LockAsked, LockReleased}
use Rattle.dv_laws.proofs.Calm.{Calm, LeavesQueues, LeavesTokens, LeavesLines, LinesStay, ReachesNoWaiter, WasCancelled}
use Rattle.dv_laws.proofs.Calm.{IsMade, handed, handed_to, asking, granted}
use Rattle.dv_laws.proofs.GrantedSteps.{ask_served, release_served, made_served}
use Rattle.dv_laws.proofs.ReadBackLemmas.{Reads, reads}
use Rattle.dv_laws.proofs.ServedCancels.{leave_served}
use Rattle.dv_laws.proofs.ServedLemmas.{Served, AreSound, made_so, IsBeside, beside, plain, not_taken, served_rest}
use Rattle.dv_laws.proofs.ServedLemmas.{cancel_served}
use Rattle.dv_laws.proofs.ServedLines.{Sought, Values, Tokens, Owner, owners, Shape, begins, named, named_of, line_of}
use Rattle.dv_laws.proofs.ServedLines.{Leads, IsSettled, nothing, line_push, line_settled}
use Rattle.dv_laws.proofs.ServedSteps.{put_served, get_served}
use Rattle.dv_laws.proofs.ServedWaiters.{Alike, alike_same, alike_join, alike_set, alike_changing, alike_push}
use Rattle.dv_laws.proofs.ServedWaiters.{alike_unmarked, alike_swallows, plain_reached, ReachesNone, not_cancelled}
use Rattle.dv_laws.proofs.ServedWaiters.{Waiters, Fewer, fewer_push}
use Rattle.dv_laws.proofs.OnceLemmas.{fired_of}
use Rattle.dv_laws.proofs.Settles.{Settles, means_keeps}
use Rattle.dv_laws.proofs.Stays.{live, append_stays, make_stays, fire_stays, fire_then_swallow_stays, cancel_stays}
use Rattle.dv_laws.proofs.Stays.{pause_stays, unpause_stays, aside_stays, submit_stays, ask_stays, release_stays}
use Rattle.dv_laws.proofs.Steps.{telling_in, append_cases, pause_cases, make_cases, aside_cases, arrange_cases}
use Rattle.dv_laws.proofs.Steps.{submit_cases, cancel_cases, unpause_cases, fire_cases, unless, unless_and}
use Rattle.dv_laws.proofs.Steps.{put_into_cases, get_from_cases, ask_cases, release_cases}

-- 1. Entries that leave queues and locks.

-- if it was so before, it is so after
record Goes (S : Sought) (name : List ℕ) (w u : World) : Type 0 where
  goes_on : Served S name w → Served S name u

stays : (S : Sought) (name : List ℕ) (w : World) → Goes S name w w
stays S name w = record { goes_on = λ k. k }

joins : (S : Sought) (name : List ℕ) (u v w : World) → Goes S name u v → Goes S name v w → Goes S name u w
joins S name u v w p q = record { goes_on = λ k. q.goes_on (p.goes_on k) }

stops : (S : Sought) (name : List ℕ) (w : World) → Goes S name w (with_stop w)
stops S name w = record {
  goes_on = λ k. record {
    back = k.back;
    made = k.made;
    sound = k.sound;
    waiters = λ t. absurd cc;
    leads = λ c t. absurd cc;
    some = k.some;
  };
}

-- an entry that logs nothing of them, and that no Deferred is cancelled or fired
passes : (S : Sought) (name : List ℕ) (e : Entry) (w u : World) → w.stopped ≡ false
    → u.journal.entries ≡ w.journal.entries ++ e ∷ [] → owners S u.objects ≡ owners S w.objects
    → IsBeside S e → ((of : ℕ) → e ≡ entry.Cancel of → ⊥) → ((d : ℕ) → e ≡ entry.Fire d cancelled → ⊥)
    → Reads (state_of w) (state_of u) → Alike w.records u.records → Goes S name w u
passes S name e w u s q p a n f r m = record {
  goes_on = λ k. plain S name e w u s q p a n (λ d t. f d t.fires) r m k;
}

rests : (S : Sought) (name : List ℕ) (e : Entry) (w u : World) → w.stopped ≡ false
    → u.journal.entries ≡ w.journal.entries ++ e ∷ [] → owners S u.objects ≡ owners S w.objects
    → (queueing_of e ≡ Unqueued) × (holding_of e ≡ Unheld)
    → ((of : ℕ) → e ≡ entry.Cancel of → ⊥) → ((d : ℕ) → e ≡ entry.Fire d cancelled → ⊥)
    → Reads (state_of w) (state_of u) → Alike w.records u.records → Goes S name w u
rests S name e w u s q p a n f r m = passes S name e w u s q p (beside S e a) n f r m

-- an entry aside
not_cancel : (e : Entry) → change_of e ≡ Aside → (of : ℕ) → e ≡ entry.Cancel of → ⊥
not_cancel e a of q = let wrong : Cancels of ≡ Aside = ap change_of (sym q) ∙ a in absurd cc

not_fire : (e : Entry) → change_of e ≡ Aside → (d : ℕ) → e ≡ entry.Fire d cancelled → ⊥
not_fire e a d q = let wrong : Fires d cancelled ≡ Aside = ap change_of (sym q) ∙ a in absurd cc

module _ (name : List ℕ) (e : Entry) (w u : World) (s : w.stopped ≡ false)
    (q : u.journal.entries ≡ w.journal.entries ++ e ∷ []) (a : change_of e ≡ Aside)
    (r : Reads (state_of w) (state_of u))
    (m : Alike w.records u.records) where
  nothing_made : (b : Bool) → cond b (nothing Values) (nothing Values) ≡ nothing Values
  nothing_made true = refl
  nothing_made false = refl

  beside_queues : (new : List Queue) → u.objects.queues ≡ new → Queues e w.objects.queues new
      → LeavesQueues (queueing_of e) → Goes Values name w u
  beside_queues new o (QueuesRest other c p) l =
      passes Values name e w u s q (o ∙ p) c (not_cancel e a) (not_fire e a) r m
  beside_queues new o (QueueMade made size backlog p) l = record {
    goes_on = λ k.
        let more = new_queue made size backlog in
        let same = ap queueing_of p in
        served_rest Values name e w u s q k (ap (puts_by name) same, ap (gets_by name) same) (record {
          counted = omega (
            arith,
            ap (named Values name) o,
            sum_by_push (named_of Values name) w.objects.queues more,
            ap (made_by name) same,
          );
        })
        (ap (line_of Values name) o ∙ line_push Values name more w.objects.queues (nothing_made (bytes_eq made name)))
        tt (subst (λ (queues : List Queue). Fewer Values w.objects.queues queues) (sym o)
        (fewer_push Values more w.objects.queues refl)) r m
        (λ j d i c. absurd (not_cancelled d w.journal.entries e (not_cancel e a) c)) (λ d t. not_fire e a d t.fires);
  }
  beside_queues new o (QueuePut key value p g n h) l = absurd (subst (λ x. LeavesQueues (queueing_of x)) h l)
  beside_queues new o (QueueGot key d p g h) l = absurd (subst (λ x. LeavesQueues (queueing_of x)) h l)

  beside_locks : (new : List Semaphore) → u.objects.semaphores ≡ new → Locks e w.objects.semaphores new
      → LeavesTokens (holding_of e) → Goes Tokens name w u
  beside_locks new o (LocksRest other c p) l =
      passes Tokens name e w u s q (o ∙ p) c (not_cancel e a) (not_fire e a) r m
  beside_locks new o (LockMade made p) l = record {
    goes_on = λ k.
        made_served name made 1 e w u (ap holding_of p)
        (λ told same. subst (λ x. granted_in.Next name told (granted_in.tokens 0 0 [] None) x
        (granted_in.tokens 1 1 [] None)) (ap entry.Lock (sym same) ∙ sym p) granted_in.MakesLock)
        (not_cancel e a) (not_fire e a) s q o r m k;
  }
  beside_locks new o (SemaphoreMade made free p) l = record {
    goes_on = λ k.
        made_served name made free e w u (ap holding_of p)
        (λ told same. subst (λ x. granted_in.Next name told (granted_in.tokens 0 0 [] None) x
        (granted_in.tokens free free [] None)) (ap (λ n. entry.Semaphore n free) (sym same) ∙ sym p)
        (granted_in.MakesSemaphore free))
        (not_cancel e a) (not_fire e a) s q o r m k;
  }
  beside_locks new o (LockAsked key d p g h) l = absurd (subst (λ x. LeavesTokens (holding_of x)) h l)
  beside_locks new o (LockReleased key p g n h) l = absurd (subst (λ x. LeavesTokens (holding_of x)) h l)

  aside_by : (S : Sought) → Beside e w.objects u.objects → LeavesLines e → Goes S name w u
  aside_by Values b l = beside_queues u.objects.queues refl b.queues l.0
  aside_by Tokens b l = beside_locks u.objects.semaphores refl b.locks l.1

-- what isn't logged, and leaves them
arranged : (S : Sought) (name : List ℕ) (change : Objects → Objects) (w : World)
    → owners S (change w.objects) ≡ owners S w.objects → Goes S name w (record w { objects = change w.objects })
arranged S name change w q = record {
  goes_on = λ k. record {
    back = k.back;
    made = k.made ∙ ap (named S name) (sym q);
    sound = subst (λ (all : List (Owner S)). AreSound S all) (sym q) k.sound;
    waiters = λ t.
        subst (λ (all : List (Owner S)). Waiters S all w.records w.journal.entries) (sym q) (k.waiters t);
    leads = λ c t.
        subst (λ (all : List (Owner S)). Leads S name w.journal.entries (line_of S name all)) (sym q) (k.leads c t);
    some = k.some;
  };
}

lines_stay : (S : Sought) (old new : Objects) → LinesStay old new → owners S new ≡ owners S old
lines_stay Values old new h = h.0
lines_stay Tokens old new h = h.1

named_same : (S : Sought) (name : Option (List ℕ)) (d : ℕ) (objects : Objects)
    → owners S (naming_where name d objects) ≡ owners S objects
named_same Values None d objects = refl
named_same Values (Some name) d objects = refl
named_same Tokens None d objects = refl
named_same Tokens (Some name) d objects = refl

naming_same : (S : Sought) (name : List ℕ) (d : ℕ) (objects : Objects)
    → owners S (naming name d objects) ≡ owners S objects
naming_same Values name d objects = refl
naming_same Tokens name d objects = refl

timed_same : (S : Sought) (time : ℕ) (objects : Objects) → owners S (with_time time objects) ≡ owners S objects
timed_same Values time objects = refl
timed_same Tokens time objects = refl

none_reached : (S : Sought) (r : Reached) → ReachesNoWaiter r → ReachesNone S r
none_reached Values (reached.ForItem d k) m = m
none_reached Values r m = tt
none_reached Tokens (reached.ForToken d l) m = m
none_reached Tokens r m = tt

-- one that is fired
module _ (S : Sought) (name : List ℕ) (d : ℕ) (w : World) (s : w.stopped ≡ false) where
  refuse_rests : (r : Kind) → fits w.journal (entry.Refuse d) ≡ true → slice_get w.records d ≡ Some r → r.fired ≡ true
      → Goes S name w (telling_in (entry.Refuse d) w.records w)
  refuse_rests r x g p =
      rests S name (entry.Refuse d) w _ s refl refl (refl, refl) (λ of q. absurd cc) (λ n q. absurd cc)
      (reads.refuses d r (state_of w) x g p) (alike_same w.records)

  swallow_rests : (r : Kind) → fits w.journal (entry.Swallow d) ≡ true → slice_get w.records d ≡ Some r
      → r.swallows ≡ true
      → Goes S name w (telling_in (entry.Swallow d) (slice_set w.records d (with_swallows false r)) w)
  swallow_rests r x g p =
      rests S name (entry.Swallow d) w _ s refl refl (refl, refl) (λ of q. absurd cc) (λ n q. absurd cc)
      (reads.swallows d r (state_of w) x g p) (alike_unmarked d r w.records g)

  fire_rests : (value : Value) (r : Kind) → fits w.journal (entry.Fire d value) ≡ true
      → slice_get w.records d ≡ Some r → r.fired ≡ false
      → Goes S name w (telling_in (entry.Fire d value) (slice_set w.records d (with_firing value r)) w)
  fire_rests value r x g p = record {
    goes_on = λ k. plain S name (entry.Fire d value) w _ s refl refl (beside S _ (refl, refl)) (λ of q. absurd cc)
        (not_taken S name d value r w s g p k) (reads.fires d value r (state_of w) x g p)
        (alike_set d r (with_firing value r) w.records g refl refl) k;
  }

  swallows_rests : WasCancelled d w → (r : Kind) → fits w.journal (entry.Fire d cancelled) ≡ true
      → slice_get w.records d ≡ Some r → r.fired ≡ false
      → Goes S name w (telling_in (entry.Fire d cancelled)
      (swallow_next d (slice_set w.records d (with_firing cancelled r))) w)
  swallows_rests c r x g p = record {
    goes_on = λ k. plain S name (entry.Fire d cancelled) w _ s refl refl (beside S _ (refl, refl)) (λ of q. absurd cc)
        (not_taken S name d cancelled r w s g p k) (reads.sets_swallows d r (state_of w) x g p)
        (alike_swallows d r w.records g (λ T j. plain_reached T c.of d j w.records c.reaches)) k;
  }

  -- whom a cancel reaches is answered, where that is logged
  reply_by : (b c : Bool) (r : Reached) (u v : World) → b ≡ false → c ≡ true
      → ReachesNone S (cond {A = Reached × World} b (reached.Nothing, w) (cond {A = Reached × World} c (r, u)
      (reached.Nothing, v))).0
      → ReachesNone S r
  reply_by true c r u v p q m = absurd cc
  reply_by false true r u v p q m = m
  reply_by false false r u v p q m = absurd cc

  reply : fits w.journal (entry.Cancel d) ≡ true → ReachesNone S (cancel d w).0
      → ReachesNone S (reached_from d w.records)
  unfolding cancel
  reply x m = reply_by w.stopped (fits w.journal (entry.Cancel d)) (reached_from d w.records) _ _ s x m

  cancel_rests : ReachesNone S (cancel d w).0 → fits w.journal (entry.Cancel d) ≡ true
      → Goes S name w (record w { journal = with_entry w.journal (entry.Cancel d) })
  cancel_rests m x = record { goes_on = λ k. cancel_served S name d w s x (reply x m) k }

-- 2. Steps.

module _ (S : Sought) (name : List ℕ) where
  after_fire : (d : ℕ) (value : Value) (w : World) → w.stopped ≡ false → Goes S name w (fire d value w).1
  unfolding fire
  after_fire d value w s =
      unless_and w (Goes S name w) (stays S name w) (stops S name w) w.stopped follow.Nothing _
      (fire_cases w (λ answer t. Goes S name w (fired answer t w).1) (stops S name w) d value _ refl
      (λ g. stays S name w) (λ r x g q. swallow_rests S name d w s r x g q)
      (λ r x g p q. refuse_rests S name d w s r x g p) (λ r x g p. fire_rests S name d w s value r x g p))

  fire_goes_on : (d : ℕ) (value : Value) (w : World) → Goes S name w (fire d value w).1
  fire_goes_on d value w =
      live (Goes S name w) w (fire d value w).1 (stays S name w) (fire_stays d value w) (after_fire d value w)

  after_swallows : (d : ℕ) (w : World) → WasCancelled d w → w.stopped ≡ false → Goes S name w (fire_then_swallow d w)
  unfolding fire_then_swallow
  after_swallows d w c s =
      unless w (Goes S name w) (stays S name w) (stops S name w) w.stopped _
      (fire_cases w (λ answer t. Goes S name w (fired_then_swallows d answer t w)) (stops S name w) d cancelled _ refl
      (λ g. rw g (stays S name w)) (λ r x g q. swallow_rests S name d w s r x g q)
      (λ r x g p q. refuse_rests S name d w s r x g p) (λ r x g p. swallows_rests S name d w s c r x g p))

  cancel_goes_on : (d : ℕ) (w : World) → ReachesNone S (cancel d w).0 → Goes S name w (cancel d w).1
  cancel_goes_on d w m =
      live (Goes S name w) w (cancel d w).1 (stays S name w) (cancel_stays d w)
      (λ s. cancel_cases w (Goes S name w) (stays S name w) (stops S name w) d (λ x. cancel_rests S name d w s m x))

  -- a Deferred that got a value, or was granted a token, is fired
  handed_goes : (o : Option (ℕ × Value)) (w : World) → Goes S name w (handed o w)
  handed_goes None w = stays S name w
  handed_goes (Some who) w = fire_goes_on who.0 who.1 w

  handed_to_goes : (d : ℕ) (o : Option Value) (w : World) → Goes S name w (handed_to d o w)
  handed_to_goes d None w = stays S name w
  handed_to_goes d (Some value) w = fire_goes_on d value w

  granted_goes : (o : Option ℕ) (lock : List ℕ) (w : World) → Goes S name w (granted o lock w)
  granted_goes None lock w = stays S name w
  granted_goes (Some d) lock w = fire_goes_on d (Text lock) w

granted_stays : (o : Option ℕ) (lock : List ℕ) (w : World) → w.stopped ≡ true → granted o lock w ≡ w
granted_stays None lock w h = refl
granted_stays (Some d) lock w h = fire_stays d (Text lock) w h

same_lock : (s t : Semaphore) → Some s ≡ Some t → s ≡ t
same_lock s t e = cc

-- those of a queue and of a lock, with the firing after each
module _ (name : List ℕ) where
  put_goes : (S : Sought) (key : ℕ) (value : Value) (w : World)
      → (let a = put_into key value w in Goes S name w (handed a.0 a.1))
  put_goes Values key value w =
      put_into_cases w (λ o u. Goes Values name w (handed o u)) (stays Values name w) (stops Values name w) key value
      (λ q s x g m. record { goes_on = put_served name key value q w s x g })
  put_goes Tokens key value w =
      put_into_cases w (λ o u. Goes Tokens name w (handed o u)) (stays Tokens name w) (stops Tokens name w) key value
      (λ q s x g m. joins Tokens name w _ _
      (passes Tokens name (entry.Put q.name value) w _ s refl refl refl (λ of p. absurd cc) (λ n p. absurd cc)
      (reads.asides (entry.Put q.name value) (state_of w) refl x) (alike_same w.records))
      (handed_goes Tokens name (receiver q.waiting value) _))

  get_goes : (S : Sought) (key d : ℕ) (w : World) → (w.stopped ≡ false → IsMade (canceller.Item key) d w.records)
      → (let a = get_from key d w in Goes S name w (handed_to d a.0 a.1))
  get_goes Values key d w i =
      get_from_cases w (λ o u. Goes Values name w (handed_to d o u)) (stays Values name w) (stops Values name w) key d
      (λ q s x g. record { goes_on = get_served name key d q w s x g (i s) })
  get_goes Tokens key d w i =
      get_from_cases w (λ o u. Goes Tokens name w (handed_to d o u)) (stays Tokens name w) (stops Tokens name w) key d
      (λ q s x g. joins Tokens name w _ _
      (passes Tokens name (entry.Get q.name d) w _ s refl refl refl (λ of p. absurd cc) (λ n p. absurd cc)
      (reads.asides (entry.Get q.name d) (state_of w) refl x) (alike_same w.records))
      (handed_to_goes Tokens name d (slice_get q.stored 0) _))

  ask_goes : (S : Sought) (l d : ℕ) (s : Semaphore) (w : World) → slice_get w.objects.semaphores l ≡ Some s
      → (w.stopped ≡ false → IsMade (canceller.Token l) d w.records)
      → Goes S name w (granted (asking d s) s.name (ask l d w))
  ask_goes Values l d s w g i =
      joins Values name w (ask l d w) _
      (live (Goes Values name w) w (ask l d w) (stays Values name w) (ask_stays l d w)
      (λ t. ask_cases w (Goes Values name w) (stays Values name w) (stops Values name w) l d
      (λ o x h. passes Values name (entry.Acquire o.name d) w _ t refl refl refl (λ of p. absurd cc) (λ n p. absurd cc)
      (reads.asides (entry.Acquire o.name d) (state_of w) refl x) (alike_same w.records))))
      (granted_goes Values name (asking d s) s.name (ask l d w))
  ask_goes Tokens l d s w g i =
      live (Goes Tokens name w) w (granted (asking d s) s.name (ask l d w)) (stays Tokens name w)
      (λ t. ap (granted (asking d s) s.name) (ask_stays l d w t) ∙ granted_stays (asking d s) s.name w t)
      (λ t. ask_cases w (λ u. Goes Tokens name w (granted (asking d s) s.name u))
      (granted_goes Tokens name (asking d s) s.name w)
      (joins Tokens name w (with_stop w) _ (stops Tokens name w)
      (granted_goes Tokens name (asking d s) s.name (with_stop w))) l d
      (λ o x h. subst (λ (y : Semaphore). Goes Tokens name w (granted (asking d y) y.name (record w {
        objects = with_lock l (asked d o) w.objects;
        journal = with_entry w.journal (entry.Acquire o.name d);
      }))) (same_lock o s (sym h ∙ g)) (record { goes_on = ask_served name l d o w t x h (i t) })))

  release_goes : (S : Sought) (l : ℕ) (s : Semaphore) (w : World) → slice_get w.objects.semaphores l ≡ Some s
      → Goes S name w (granted (first_waiting s) s.name (release l w))
  release_goes Values l s w g =
      joins Values name w (release l w) _
      (live (Goes Values name w) w (release l w) (stays Values name w) (release_stays l w)
      (λ t. release_cases w (Goes Values name w) (stays Values name w) (stops Values name w) l
      (λ o x h u. passes Values name (entry.Release o.name) w _ t refl refl refl (λ of p. absurd cc) (λ n p. absurd cc)
      (reads.asides (entry.Release o.name) (state_of w) refl x) (alike_same w.records))))
      (granted_goes Values name (first_waiting s) s.name (release l w))
  release_goes Tokens l s w g =
      live (Goes Tokens name w) w (granted (first_waiting s) s.name (release l w)) (stays Tokens name w)
      (λ t. ap (granted (first_waiting s) s.name) (release_stays l w t) ∙ granted_stays (first_waiting s) s.name w t)
      (λ t. release_cases w (λ u. Goes Tokens name w (granted (first_waiting s) s.name u))
      (granted_goes Tokens name (first_waiting s) s.name w)
      (joins Tokens name w (with_stop w) _ (stops Tokens name w)
      (granted_goes Tokens name (first_waiting s) s.name (with_stop w))) l
      (λ o x h u. subst (λ (y : Semaphore). Goes Tokens name w (granted (first_waiting y) y.name (record w {
        objects = with_lock l (released o) w.objects;
        journal = with_entry w.journal (entry.Release o.name);
      }))) (same_lock o s (sym h ∙ g)) (record { goes_on = release_served name l o w u t x h })))

  -- one that waits for something else leaves
  queue_locks : (k : ℕ) (change : Queue → Queue) (o : Option Queue) (objects : Objects)
      → (queue_changed k change o objects).semaphores ≡ objects.semaphores
  queue_locks k change None objects = refl
  queue_locks k change (Some q) objects = refl

  lock_queues : (l : ℕ) (change : Semaphore → Semaphore) (o : Option Semaphore) (objects : Objects)
      → (lock_changed l change o objects).queues ≡ objects.queues
  lock_queues l change None objects = refl
  lock_queues l change (Some s) objects = refl

  withdraw_goes : (S : Sought) (of d k : ℕ) (w : World) → (cancel of w).0 ≡ reached.ForItem d k
      → Goes S name w (fire d cancelled (withdraw k d (cancel of w).1)).1
  withdraw_goes Values of d k w e = record { goes_on = leave_served Values name of d k w e }
  withdraw_goes Tokens of d k w e =
      let u = (cancel of w).1 in
      let change : Objects → Objects =
      λ objects. queue_changed k (withdrawn d) (slice_get objects.queues k) objects in
      joins Tokens name w u _ (cancel_goes_on Tokens name of w (subst (ReachesNone Tokens) (sym e) tt))
      (joins Tokens name u (withdraw k d u) _
      (arrange_cases u (Goes Tokens name u) (stays Tokens name u) (stops Tokens name u) change
      (arranged Tokens name change u (queue_locks k (withdrawn d) (slice_get u.objects.queues k) u.objects)))
      (fire_goes_on Tokens name d cancelled (withdraw k d u)))

  forget_goes : (S : Sought) (of d l : ℕ) (w : World) → (cancel of w).0 ≡ reached.ForToken d l
      → Goes S name w (fire d cancelled (forget l d (cancel of w).1)).1
  forget_goes Tokens of d l w e = record { goes_on = leave_served Tokens name of d l w e }
  forget_goes Values of d l w e =
      let u = (cancel of w).1 in
      let change : Objects → Objects =
      λ objects. lock_changed l (forgotten d) (slice_get objects.semaphores l) objects in
      joins Values name w u _ (cancel_goes_on Values name of w (subst (ReachesNone Values) (sym e) tt))
      (joins Values name u (forget l d u) _
      (arrange_cases u (Goes Values name u) (stays Values name u) (stops Values name u) change
      (arranged Values name change u (lock_queues l (forgotten d) (slice_get u.objects.semaphores l) u.objects)))
      (fire_goes_on Values name d cancelled (forget l d u)))

-- so it is at first
first_served : (S : Sought) (name : List ℕ) (classes : List Class) (declared : List NamedBody) (ends_throw : Bool)
    (limit : ℕ) (settings : Settings) (cooperators : List NamedCooperator)
    → Served S name (first_world classes declared ends_throw limit settings cooperators)
first_served Values name classes declared ends_throw limit settings cooperators = record {
  back = λ d. refl;
  made = refl;
  sound = tt;
  waiters = λ t. record { each = λ k d q g h. absurd (none-some q g) };
  leads = λ c t. begins Values name;
  some = λ c. (nothing Values, begins Values name);
}
first_served Tokens name classes declared ends_throw limit settings cooperators = record {
  back = λ d. refl;
  made = refl;
  sound = record { each = λ l s g. absurd (none-some s g) };
  waiters = λ t. record { each = λ k d s g h. absurd (none-some s g) };
  leads = λ c t. begins Tokens name;
  some = λ c. (nothing Tokens, begins Tokens name);
}

-- each step
module _ (S : Sought) (name : List ℕ) where
  calmly : Calm (Goes S name)
  calmly = record {
    quiet = record {
      stays = stays S name;
      joins = joins S name;
      by_stop = stops S name;
      by_make = λ given canceller w.
          live (Goes S name w) w (make given canceller w) (stays S name w) (make_stays given canceller w)
          (λ s. make_cases w (Goes S name w) (stays S name w) (stops S name w) given canceller
          (λ x.
          rests S name (entry.New (length w.records) given) w _ s refl (named_same S given (length w.records) w.objects)
          (refl, refl) (λ of q. absurd cc) (λ n q. absurd cc) (reads.news given canceller (state_of w) x)
          (alike_push given canceller w.records)));
      by_cancel = λ d w m. cancel_goes_on S name d w (none_reached S (cancel d w).0 m);
      by_pause = λ d w.
          live (Goes S name w) w (pause d w) (stays S name w) (pause_stays d w)
          (λ s. pause_cases w (Goes S name w) (stays S name w) (stops S name w) d
          (λ r x g. rests S name (entry.Pause d) w _ s refl refl (refl, refl) (λ of q. absurd cc) (λ n q. absurd cc)
          (reads.pauses d r (state_of w) x g) (alike_set d r (with_pauses (r.pauses + 1) r) w.records g refl refl)));
      by_aside = λ e change w a l c t b n.
          live (Goes S name w) w (aside e change w) (stays S name w) (aside_stays e change w)
          (λ s. aside_cases w (Goes S name w) (stays S name w) (stops S name w) e change
          (λ x. aside_by name e w (record w { objects = change w.objects; journal = with_entry w.journal e }) s refl a
          (reads.asides e (state_of w) a x) (alike_same w.records) S b l));
      by_arrange = λ change w q s l t n.
          arrange_cases w (Goes S name w) (stays S name w) (stops S name w) change
          (arranged S name change w (lines_stay S w.objects (change w.objects) q));
      by_submit = λ d pool work w.
          live (Goes S name w) w (submit d pool work w) (stays S name w) (submit_stays d pool work w)
          (λ s. submit_cases w (Goes S name w) (stays S name w) (stops S name w) d pool work
          (λ x. rests S name (entry.Job (length w.works) d) w _ s refl refl (refl, refl) (λ of q. absurd cc)
          (λ n q. absurd cc) (reads.asides (entry.Job (length w.works) d) (state_of w) refl x)
          (alike_same w.records)));
    };
    stops = stops S name;
    by_put = put_goes name S;
    by_get = get_goes name S;
    by_withdraw = withdraw_goes name S;
    by_ask = ask_goes name S;
    by_release = λ l s w g u. release_goes name S l s w g;
    by_forget = forget_goes name S;
    by_name = λ d given w.
        let e = entry.Name d (Some given) in
        live (Goes S name w) w (aside e (naming given d) w) (stays S name w) (aside_stays e (naming given d) w)
        (λ s. aside_cases w (Goes S name w) (stays S name w) (stops S name w) e (naming given d)
        (λ x. rests S name e w _ s refl (naming_same S given d w.objects) (refl, refl) (λ of q. absurd cc)
        (λ n q. absurd cc) (reads.asides e (state_of w) refl x) (alike_same w.records)));
    by_append = λ d pair w.
        live (Goes S name w) w (append d pair w) (stays S name w) (append_stays d pair w)
        (λ s. append_cases w (Goes S name w) (stays S name w) (stops S name w) d pair
        (λ r x g. rests S name (entry.Add d) w _ s refl refl (refl, refl) (λ of q. absurd cc) (λ n q. absurd cc)
        (reads.adds d pair r (state_of w) x g) (alike_set d r (with_item (item.Pair pair) r) w.records g refl refl)));
    by_fire = fire_goes_on S name;
    by_fire_then_swallow = λ d w c.
        live (Goes S name w) w (fire_then_swallow d w) (stays S name w) (fire_then_swallow_stays d w)
        (after_swallows S name d w c);
    by_unpause = λ d w.
        live (Goes S name w) w (unpause d w).1 (stays S name w) (unpause_stays d w)
        (λ s. unpause_cases w (Goes S name w) (stays S name w) (stops S name w) d
        (λ r x g p. rests S name (entry.Unpause d) w _ s refl refl (refl, refl) (λ of q. absurd cc) (λ n q. absurd cc)
        (reads.unpauses d r (state_of w) x g p) (alike_set d r (with_pauses (r.pauses - 1) r) w.records g refl refl)));
  }

  -- a pair that is passed by is dropped, and nothing is logged
  dropped : (d : ℕ) (r : Kind) (pair : Pair) (rest : List (Item Pair)) (w : World) → slice_get w.records d ≡ Some r
      → r.items ≡ item.Pair pair ∷ rest
      → Goes S name w (with_state (slice_set w.records d (record r { items = rest }), w.journal) w)
  dropped d r pair rest w g e = record {
    goes_on = λ k.
        let left : Kind = record r { items = rest } in
        let alike = alike_set d r left w.records g refl refl in
        record {
          back = (reads.drops d r pair rest (state_of w) g e).goes_on k.back;
          made = k.made;
          sound = k.sound;
          waiters = λ t. record {
            each = λ j n q h v.
                let x = (k.waiters t).each j n q h v in
                record {
                  leaves = alike.leaves S j n x.leaves;
                  fresh = alike.fresh S j n x.leaves x.fresh;
                  fired = λ c. set_at fired_of n d r left w.records g refl ∙ x.fired c;
                };
          };
          leads = k.leads;
          some = k.some;
        };
  }

  settles : Settles (Goes S name)
  settles = record {
    calm = calmly;
    drops = λ d r pair rest w g e a s. dropped d r pair rest w g e;
    runs = λ d r pair rest w x g e a s.
        rests S name (entry.Run d) w _ s refl refl (refl, refl) (λ of q. absurd cc) (λ n q. absurd cc)
        (reads.runs d pair r rest (state_of w) x g e)
        (alike_set d r (record r { items = rest; running = true }) w.records g refl refl);
    hands = λ d c r rest w x g e a s.
        let left : Kind = record r { items = rest; value = Null } in
        let first = slice_set w.records d left in
        rests S name (entry.Hand d c r.value) w _ s refl refl (refl, refl) (λ of q. absurd cc) (λ n q. absurd cc)
        (reads.hands d c r rest (state_of w) x g e)
        (alike_join w.records first (changing c (with_handed r.value) first)
        (alike_set d r left w.records g refl refl)
        (alike_changing c (with_handed r.value) first (λ y. refl) (λ y. refl)));
    sets = λ d value r w x g p s.
        rests S name (entry.Set d value) w _ s refl refl (refl, refl) (λ of q. absurd cc) (λ n q. absurd cc)
        (reads.sets d value r (state_of w) x g) (alike_set d r (with_result value r) w.records g refl refl);
    waits = λ d e r given w x g i p q s.
        let first = changing e (with_item (item.HandOver d)) w.records in
        rests S name (entry.Wait d e) w _ s refl refl (refl, refl) (λ of q. absurd cc) (λ n q. absurd cc)
        (reads.waits d e r given (state_of w) x g i)
        (alike_join w.records first (changing d (chaining.with_wait e) first)
        (alike_changing e (with_item (item.HandOver d)) w.records (λ y. refl) (λ y. refl))
        (alike_changing d (chaining.with_wait e) first (λ y. refl) (λ y. refl)));
    takes = λ d e r given w x g i p q s.
        let first = changing e chaining.without_value w.records in
        rests S name (entry.Take d e given.value) w _ s refl refl (refl, refl) (λ of q. absurd cc) (λ n q. absurd cc)
        (reads.takes d e r given (state_of w) x g i q)
        (alike_join w.records first (changing d (with_result given.value) first)
        (alike_changing e chaining.without_value w.records (λ y. refl) (λ y. refl))
        (alike_changing d (with_result given.value) first (λ y. refl) (λ y. refl)));
    advances = λ ticks w x s.
        rests S name (entry.Advance _) w _ s refl (timed_same S _ w.objects) (refl, refl) (λ of q. absurd cc)
        (λ n q. absurd cc)
        (reads.asides (entry.Advance _) (state_of w) refl x) (alike_same w.records);
  }

  -- so it is in a run
  world_served : (script : Script) (batches : List Batch) (w : World) → Means script batches w → Served S name w
  world_served script batches w m =
      (means_keeps (Goes S name) settles script batches w m).goes_on
      (first_served S name script.classes script.bodies script.ends_throw script.limit script.cooperator
      script.cooperators)

  served_stopped : (w : World) → Served S name w → made_so S name w.journal.entries ≤ 1 → (b : Bool) → w.stopped ≡ b
      → (after : Shape S) × Leads S name w.journal.entries after
      × (w.stopped ≡ false → IsSettled S after)
  served_stopped w k c true s =
      let x = k.some c in (x.0, x.1, λ t. let wrong : true ≡ false = sym s ∙ t in absurd cc)
  served_stopped w k c false s =
      (line_of S name (owners S w.objects), k.leads c s, λ t. line_settled S name (owners S w.objects))

-- and so its report logs it
pub queues_serve_in_order : QueuesServeInOrder
queues_serve_in_order script report r name =
    let w = r.world in
    let m = (scripts_mean_what_is_defined script report.batches w).1 r.means in
    let law : queues_made name w.journal.entries ≤ 1 → ServesInOrder name w.journal.entries w.stopped =
    λ c. let x = served_stopped Values name w (world_served Values name script report.batches w m) c _ refl in
    record { after = x.0; leads = x.1; fired = x.2 } in
    subst (λ (j : Written). queues_made name j.entries ≤ 1 → ServesInOrder name j.entries report.stopped)
    (sym r.tells.journal)
    (subst (λ b. queues_made name w.journal.entries ≤ 1 → ServesInOrder name w.journal.entries b)
    (sym r.tells.stopped) law)

pub locks_serve_in_order : LocksServeInOrder
locks_serve_in_order script report r name =
    let w = r.world in
    let m = (scripts_mean_what_is_defined script report.batches w).1 r.means in
    let law : locks_made name w.journal.entries ≤ 1 → GrantsInOrder name w.journal.entries w.stopped =
    λ c. let x = served_stopped Tokens name w (world_served Tokens name script report.batches w m) c _ refl in
    record { after = x.0; leads = x.1; fired = x.2 } in
    subst (λ (j : Written). locks_made name j.entries ≤ 1 → GrantsInOrder name j.entries report.stopped)
    (sym r.tells.journal)
    (subst (λ b. locks_made name w.journal.entries ≤ 1 → GrantsInOrder name w.journal.entries b)
    (sym r.tells.stopped) law)
