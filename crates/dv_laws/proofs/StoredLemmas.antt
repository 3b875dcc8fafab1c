-- A queue stores no more values than it may, and none while somebody waits for one.
use Rattle.std.proofs.Common.{◌≡◌, inl, inr, ⊎_elim, ℕ, zero, suc, ◌+◌, ◌≤◌, ◌<◌, ◌++◌, Bool, true, false, nat_eq, List}
use Rattle.std.proofs.Common.{[], ◌∷◌, Option, None, Some, refl, sym, ap, subst, ◌∙◌, arith, slice_get, slice_set, cond}
use Rattle.std.proofs.Common.{length, sum_by}
use Rattle.std.specs.Prelude.{bytes_eq}
use Rattle.std.specs.Set.{remove_key}
use Rattle.std.proofs.lemmas.Bool.{ltb-true}
use Rattle.std.proofs.lemmas.List.{length_push}
use Rattle.std.proofs.lemmas.List.Sums.{sum_by_push, sum_by-set, sum_by-cons}
use Rattle.std.proofs.lemmas.Option.{none-some, slice_get_within, get_or_from_slice_get}
use Rattle.dv_value.specs.declared.value.Value.{Value}
use Rattle.dv_journal.specs.declared.entry.Entry.{Entry}
use Rattle.dv_journal.specs.declared.entry.Entry.TheVariants as entry
use Rattle.dv_objects.specs.Objects.{Objects, naming_where}
use Rattle.dv_objects.specs.Refusals.{cancelled}
use Rattle.dv_posts.specs.Batches.{Batch}
use Rattle.dv_loop.specs.Meaning.{Means}
use Rattle.dv_loop.proofs.Leading.{scripts_mean_what_is_defined}
use Rattle.dv_prims.specs.Laws.{StoresOrIsWaitedFor}
use Rattle.dv_prims.specs.Queue.{Queue, new_queue, has_room, may_put_by, put_to, got_from, withdrawn}
use Rattle.dv_prims.specs.Tokens.{without}
use Rattle.dv_script.specs.declared.script.Script.{Script}
use Rattle.dv_world.specs.World.{World}
use Rattle.dv_laws.specs.Stored.{Unqueued, queueing_of, room_in, unbound_in, puts_by, gets_by, room_by, unbound_by}
use Rattle.dv_laws.specs.Stored.{puts, gets, room, unbound, StoresWithinItsRoom, QueuesKeepTheirSize}
use Rattle.dv_laws.specs.Stored.{NothingIsStoredWhileAnyWaits}
use Rattle.dv_laws.proofs.At.{places_on, no_places}
use Rattle.dv_laws.proofs.Beside.{Queues, QueuesRest, QueueMade, QueuePut, QueueGot, QueuesKept, SameQueues}
use Rattle.dv_laws.proofs.Beside.{QueueForgets}
use Rattle.dv_laws.proofs.ReadBackLemmas.{get_set}
use Rattle.dv_laws.proofs.Still.{Still, calm}
use Rattle.dv_laws.proofs.Settles.{Settles, means_keeps, reported}

-- 1. Queues: what those of a name store, who waits, and what room they have.

abbrev stored_of : List ℕ → Queue → ℕ
stored_of name q = cond (bytes_eq q.name name) (length q.stored) 0

abbrev waits_of : List ℕ → Queue → ℕ
waits_of name q = cond (bytes_eq q.name name) (length q.waiting) 0

abbrev room_of : List ℕ → Queue → ℕ
room_of name q = cond (bytes_eq q.name name) (room_in q.size) 0

abbrev unbound_of : List ℕ → Queue → ℕ
unbound_of name q = cond (bytes_eq q.name name) (unbound_in q.size) 0

set_counts : (f : Queue → ℕ) (queues : List Queue) (k : ℕ) (p q : Queue) → slice_get queues k ≡ Some p
    → sum_by f (slice_set queues k q) + f p ≡ sum_by f queues + f q
set_counts f queues k p q h = omega (
  arith,
  sum_by-set f queues k q p (slice_get_within queues k p h),
  ap f (get_or_from_slice_get queues k p p h),
)

-- it stores no more than it may, and nothing while somebody waits
record Fine (q : Queue) : Type 0 where
  within : unbound_in q.size ≡ 0 → length q.stored ≤ room_in q.size
  either : StoresOrIsWaitedFor q

-- what a step leaves of a queue: its name and its size, and one more or one less of what is stored or waits
record Changed (p q : Queue) (put got : ℕ) : Type 0 where
  named : q.name ≡ p.name
  sized : q.size ≡ p.size
  flow : put + length q.waiting + length p.stored ≤ got + length q.stored + length p.waiting
  fine : Fine p → Fine q

room_left : (n : ℕ) (size : Option ℕ) → has_room n size ≡ true → unbound_in size ≡ 0 → n + 1 ≤ room_in size
room_left n None h u = absurd (omega (arith, u))
room_left n (Some most) h u = let less : n < most = ltb-true n most h in omega (arith, less)

put_by : (ws : List ℕ) (value : Value) (q : Queue) → q.waiting ≡ ws → may_put_by ws q ≡ true
    → Changed q (put_to ws value q) 1 0
put_by [] value q e m = record {
  named = refl;
  sized = refl;
  flow = omega (arith, length_push q.stored value);
  fine = λ f. record {
    within = λ u. omega (arith, length_push q.stored value, room_left (length q.stored) q.size m u);
    either = inr e;
  };
}
put_by (first ∷ rest) value q e m =
    let more : length q.waiting ≡ length (first ∷ rest) = ap length e in
    record {
      named = refl;
      sized = refl;
      flow = omega (arith, more);
      fine = λ f. record {
        within = f.within;
        either = ⊎_elim (λ s. inl s) (λ w. let none : first ∷ rest ≡ [] = sym e ∙ w in absurd cc) f.either;
      };
    }

got_by : (vs : List Value) (d : ℕ) (q : Queue) → q.stored ≡ vs → Changed q (got_from vs d q) 0 1
got_by [] d q e = record {
  named = refl;
  sized = refl;
  flow = omega (arith, length_push q.waiting d);
  fine = λ f. record { within = f.within; either = inl e };
}
got_by (first ∷ rest) d q e =
    let more : length q.stored ≡ length (first ∷ rest) = ap length e in
    record {
      named = refl;
      sized = refl;
      flow = omega (arith, more);
      fine = λ f. record {
        within = λ u. omega (arith, more, f.within u);
        either = ⊎_elim (λ s. let none : first ∷ rest ≡ [] = sym e ∙ s in absurd cc) (λ w. inr w) f.either;
      };
    }

shorter_by : (b : Bool) (w : ℕ) (ws rest : List ℕ) → length rest ≤ length ws
    → length (cond b ws (w ∷ rest)) ≤ length (w ∷ ws)
shorter_by true w ws rest h = omega arith
shorter_by false w ws rest h = omega (arith, h)

shorter : (d : ℕ) (ws : List ℕ) → length (without d ws) ≤ length ws
shorter d [] = omega arith
shorter d (w ∷ ws) = shorter_by (nat_eq d w) w ws (remove_key (nat_eq d) ws) (shorter d ws)

forgets : (d : ℕ) (q : Queue) → Changed q (withdrawn d q) 0 0
forgets d q = record {
  named = refl;
  sized = refl;
  flow = omega (arith, shorter d q.waiting);
  fine = λ f. record { within = f.within; either = ⊎_elim (λ s. inl s) (λ w. inr (ap (without d) w)) f.either };
}

-- all queues
record Sound (queues : List Queue) : Type 0 where
  each : (k : ℕ) (q : Queue) → slice_get queues k ≡ Some q → Fine q

set_by : (b : Bool) (p q : Queue) (o : Option Queue) → Fine p → (o ≡ Some q → Fine q) → cond b (Some p) o ≡ Some q
    → Fine q
set_by true p q o h k e = let same : p ≡ q = cc in subst (λ (x : Queue). Fine x) same h
set_by false p q o h k e = k e

sound_set : (k : ℕ) (p q : Queue) (queues : List Queue) → slice_get queues k ≡ Some p → Fine q → Sound queues
    → Sound (slice_set queues k q)
sound_set k p q queues h f s = record {
  each = λ n z e. set_by (nat_eq k n) q z (slice_get queues n) f (s.each n z) (sym (get_set queues k n p q h) ∙ e);
}

pushed_by : (n : ℕ) (p q : Queue) (queues : List Queue) → Fine p
    → ((k : ℕ) (z : Queue) → slice_get queues k ≡ Some z → Fine z) → slice_get (queues ++ p ∷ []) n ≡ Some q → Fine q
pushed_by zero p q [] h k e = let same : p ≡ q = cc in subst (λ (x : Queue). Fine x) same h
pushed_by (suc n) p q [] h k e = absurd cc
pushed_by zero p q (c ∷ queues) h k e = k 0 q e
pushed_by (suc n) p q (c ∷ queues) h k e = pushed_by n p q queues h (λ j z r. k (suc j) z r) e

-- where each has a bound, they store no more than they have room for
within_by : (b : Bool) (stored room unbound : ℕ) → (unbound ≡ 0 → stored ≤ room) → cond {A = ℕ} b unbound 0 ≡ 0
    → cond {A = ℕ} b stored 0 ≤ cond b room 0
within_by true stored room unbound h u = h u
within_by false stored room unbound h u = omega arith

all_within : (name : List ℕ) (queues : List Queue) → ((k : ℕ) (q : Queue) → slice_get queues k ≡ Some q → Fine q)
    → sum_by (unbound_of name) queues ≡ 0 → sum_by (stored_of name) queues ≤ sum_by (room_of name) queues
all_within name [] s u = omega arith
all_within name (q ∷ queues) s u =
    let first : unbound_of name q ≡ 0 = omega (arith, u, sum_by-cons (unbound_of name) q queues) in
    let others : sum_by (unbound_of name) queues ≡ 0 = omega (arith, u, sum_by-cons (unbound_of name) q queues) in
    omega (
      arith,
      sum_by-cons (stored_of name) q queues,
      sum_by-cons (room_of name) q queues,
      within_by (bytes_eq q.name name) (length q.stored) (room_in q.size) (unbound_in q.size) (s 0 q refl).within first,
      all_within name queues (λ k z e. s (suc k) z e) others,
    )

-- 2. What is logged of queues.

record Kept (name : List ℕ) (queues : List Queue) (entries : List Entry) : Type 0 where
  flow : puts name entries + sum_by (waits_of name) queues ≤ gets name entries + sum_by (stored_of name) queues
  rooms : room name entries ≡ sum_by (room_of name) queues
  unbounds : unbound name entries ≡ sum_by (unbound_of name) queues
  sound : Sound queues
  law : StoresWithinItsRoom name entries

-- how an entry logs what queues then have
record Tells (name : List ℕ) (e : Entry) (old new : List Queue) : Type 0 where
  flow : puts_by name (queueing_of e) + sum_by (waits_of name) new + sum_by (stored_of name) old
      ≤ gets_by name (queueing_of e) + sum_by (stored_of name) new + sum_by (waits_of name) old
  rooms : sum_by (room_of name) new ≡ sum_by (room_of name) old + room_by name (queueing_of e)
  unbounds : sum_by (unbound_of name) new ≡ sum_by (unbound_of name) old + unbound_by name (queueing_of e)
  sound : Sound old → Sound new

tells : (name : List ℕ) (e : Entry) (old new : List Queue) (entries : List Entry) → Tells name e old new
    → Kept name old entries → Kept name new (entries ++ e ∷ [])
tells name e old new entries t k =
    let flow : puts name (entries ++ e ∷ []) + sum_by (waits_of name) new
    ≤ gets name (entries ++ e ∷ []) + sum_by (stored_of name) new =
    omega (
      arith,
      sum_by_push (λ x. puts_by name (queueing_of x)) entries e,
      sum_by_push (λ x. gets_by name (queueing_of x)) entries e,
      k.flow,
      t.flow,
    ) in
    let rooms : room name (entries ++ e ∷ []) ≡ sum_by (room_of name) new =
    omega (arith, sum_by_push (λ x. room_by name (queueing_of x)) entries e, k.rooms, t.rooms) in
    let unbounds : unbound name (entries ++ e ∷ []) ≡ sum_by (unbound_of name) new =
    omega (arith, sum_by_push (λ x. unbound_by name (queueing_of x)) entries e, k.unbounds, t.unbounds) in
    let sound = t.sound k.sound in
    record {
      flow = flow;
      rooms = rooms;
      unbounds = unbounds;
      sound = sound;
      law =
          places_on (λ told. unbound name told ≡ 0 → puts name told ≤ gets name told + room name told) e entries k.law
          (λ u. omega (arith, flow, rooms, all_within name new sound.each (sym unbounds ∙ u)));
    }

of_entry : (name : List ℕ) (e x : Entry) (new : List Queue) (entries : List Entry) → e ≡ x
    → Kept name new (entries ++ x ∷ []) → Kept name new (entries ++ e ∷ [])
of_entry name e x new entries q k = subst (λ y. Kept name new (entries ++ y ∷ [])) (sym q) k

rests : (name : List ℕ) (e : Entry) (old new : List Queue) → queueing_of e ≡ Unqueued → new ≡ old → Tells name e old new
rests name e old new a p = record {
  flow = omega (
    arith,
    ap (puts_by name) a,
    ap (gets_by name) a,
    ap (λ queues. sum_by (waits_of name) queues) p,
    ap (λ queues. sum_by (stored_of name) queues) p,
  );
  rooms = omega (arith, ap (room_by name) a, ap (λ queues. sum_by (room_of name) queues) p);
  unbounds = omega (arith, ap (unbound_by name) a, ap (λ queues. sum_by (unbound_of name) queues) p);
  sound = λ s. subst (λ (queues : List Queue). Sound queues) (sym p) s;
}

makes : (name made : List ℕ) (size backlog : Option ℕ) (old : List Queue)
    → Tells name (entry.Queue made size backlog) old (old ++ new_queue made size backlog ∷ [])
makes name made size backlog old =
    let q = new_queue made size backlog in
    record {
      flow =
          omega
          (arith, sum_by_push (waits_of name) old q, sum_by_push (stored_of name) old q, none (bytes_eq made name));
      rooms = omega (arith, sum_by_push (room_of name) old q);
      unbounds = omega (arith, sum_by_push (unbound_of name) old q);
      sound = λ s. record {
        each = λ k z e. pushed_by k q z old (record { within = λ u. omega arith; either = inl refl }) s.each e;
      };
    }
  where
    none : (b : Bool) → cond {A = ℕ} b 0 0 ≡ 0
    none true = refl
    none false = refl

-- a queue that changes, by whether it has the name
flow_by : (b : Bool) (put got stored waits new_stored new_waits : ℕ)
    → put + new_waits + stored ≤ got + new_stored + waits
    → cond b put 0 + cond b new_waits 0 + cond b stored 0 ≤ cond b got 0 + cond b new_stored 0 + cond b waits 0
flow_by true put got stored waits new_stored new_waits h = omega (arith, h)
flow_by false put got stored waits new_stored new_waits h = omega arith

changes : (name : List ℕ) (e : Entry) (k : ℕ) (p q : Queue) (put got : ℕ) (old : List Queue) → slice_get old k ≡ Some p
    → Changed p q put got → puts_by name (queueing_of e) ≡ cond (bytes_eq p.name name) put 0
    → gets_by name (queueing_of e) ≡ cond (bytes_eq p.name name) got 0
    → room_by name (queueing_of e) ≡ 0 → unbound_by name (queueing_of e) ≡ 0 → Tells name e old (slice_set old k q)
changes name e k p q put got old g c a b r u = record {
  flow = omega (
    arith,
    a,
    b,
    set_counts (waits_of name) old k p q g,
    set_counts (stored_of name) old k p q g,
    ap {B = ℕ} (λ n. cond (bytes_eq n name) (length q.waiting) 0) c.named,
    ap {B = ℕ} (λ n. cond (bytes_eq n name) (length q.stored) 0) c.named,
    flow_by (bytes_eq p.name name) put got (length p.stored) (length p.waiting) (length q.stored)
        (length q.waiting) c.flow,
  );
  rooms = omega (
    arith,
    r,
    set_counts (room_of name) old k p q g,
    ap {B = ℕ} (λ n. cond (bytes_eq n name) (room_in q.size) 0) c.named,
    ap {B = ℕ} (λ s. cond (bytes_eq p.name name) (room_in s) 0) c.sized,
  );
  unbounds = omega (
    arith,
    u,
    set_counts (unbound_of name) old k p q g,
    ap {B = ℕ} (λ n. cond (bytes_eq n name) (unbound_in q.size) 0) c.named,
    ap {B = ℕ} (λ s. cond (bytes_eq p.name name) (unbound_in s) 0) c.sized,
  );
  sound = λ s. sound_set k p q old g (c.fine (s.each k p g)) s;
}

no_count : (b : Bool) → 0 ≡ cond {A = ℕ} b 0 0
no_count true = refl
no_count false = refl

queued : (name : List ℕ) (e : Entry) (old new : List Queue) (entries : List Entry) → Queues e old new
    → Kept name old entries → Kept name new (entries ++ e ∷ [])
queued name e old new entries (QueuesRest other a p) k = tells name e old other entries (rests name e old other a p) k
queued name e old new entries (QueueMade made size backlog q) k =
    of_entry name e _ _ entries q
    (tells name (entry.Queue made size backlog) old _ entries (makes name made size backlog old) k)
queued name e old new entries (QueuePut j value p g m q) k =
    of_entry name e _ _ entries q (tells name (entry.Put p.name value) old _ entries
    (changes name (entry.Put p.name value) j p (put_to p.waiting value p) 1 0 old g
    (put_by p.waiting value p refl m) refl (no_count (bytes_eq p.name name)) refl refl) k)
queued name e old new entries (QueueGot j d p g q) k =
    of_entry name e _ _ entries q (tells name (entry.Get p.name d) old _ entries (changes name (entry.Get p.name d) j p
    (got_from p.stored d p) 0 1 old g (got_by p.stored d p refl) (no_count (bytes_eq p.name name)) refl refl refl) k)

kept : (name : List ℕ) (old new : List Queue) (entries : List Entry) → QueuesKept old new → Kept name old entries
    → Kept name new entries
kept name old new entries (SameQueues other p) k = subst (λ (queues : List Queue). Kept name queues entries) (sym p) k
kept name old new entries (QueueForgets j d p g) k =
    let c = forgets d p in
    let q = withdrawn d p in
    record {
      flow = omega (
        arith,
        k.flow,
        set_counts (waits_of name) old j p q g,
        set_counts (stored_of name) old j p q g,
        flow_by (bytes_eq p.name name) 0 0 (length p.stored) (length p.waiting) (length q.stored)
            (length q.waiting) c.flow,
        no_count (bytes_eq p.name name),
      );
      rooms = omega (arith, k.rooms, set_counts (room_of name) old j p q g);
      unbounds = omega (arith, k.unbounds, set_counts (unbound_of name) old j p q g);
      sound = sound_set j p q old g (c.fine (k.sound.each j p g)) k.sound;
      law = k.law;
    }

-- if it was so before, it is so after
record Goes (name : List ℕ) (w u : World) : Type 0 where
  goes_on : Kept name w.objects.queues w.journal.entries → Kept name u.objects.queues u.journal.entries

plain : (name : List ℕ) (e : Entry) (w u : World) → queueing_of e ≡ Unqueued → u.objects.queues ≡ w.objects.queues
    → u.journal.entries ≡ w.journal.entries ++ e ∷ [] → Goes name w u
plain name e w u a p q = record {
  goes_on = λ k. rw (p, q) (tells name e w.objects.queues w.objects.queues w.journal.entries
      (rests name e w.objects.queues w.objects.queues a refl) k);
}

named_same : (name : Option (List ℕ)) (d : ℕ) (objects : Objects)
    → (naming_where name d objects).queues ≡ objects.queues
named_same None d objects = refl
named_same (Some name) d objects = refl

-- each entry logs it
still : (name : List ℕ) → Still (Goes name)
still name = record {
  stays = λ w. record { goes_on = λ k. k };
  joins = λ u v w p q. record { goes_on = λ k. q.goes_on (p.goes_on k) };
  stops = λ w. record { goes_on = λ k. k };
  news =
      λ given canceller w x.
      plain name (entry.New (length w.records) given) w _ refl (named_same given _ w.objects) refl;
  asides = λ e change w a c l b x. record { goes_on = λ k. queued name e _ _ w.journal.entries b.queues k };
  arranges = λ change w s l b. record { goes_on = λ k. kept name _ _ w.journal.entries b.queues k };
  submits = λ d pool work w x. plain name (entry.Job (length w.works) d) w _ refl refl refl;
  refuses = λ d r w x h p q. plain name (entry.Refuse d) w _ refl refl refl;
  swallows = λ d r w x h p. plain name (entry.Swallow d) w _ refl refl refl;
  cancels = λ d w x. plain name (entry.Cancel d) w _ refl refl refl;
  sets_swallows = λ d r w x h f c. plain name (entry.Fire d cancelled) w _ refl refl refl;
  fires = λ d value r w x h f. plain name (entry.Fire d value) w _ refl refl refl;
  adds = λ d pair r w x h. plain name (entry.Add d) w _ refl refl refl;
  pauses = λ d r w x h. plain name (entry.Pause d) w _ refl refl refl;
  unpauses = λ d r w x h p. plain name (entry.Unpause d) w _ refl refl refl;
}

settles : (name : List ℕ) → Settles (Goes name)
settles name = record {
  calm = calm _ (still name);
  drops = λ d r pair rest w h e a s. record { goes_on = λ k. k };
  runs = λ d r pair rest w x h e a s. plain name (entry.Run d) w _ refl refl refl;
  hands = λ d c r rest w x h e a s. plain name (entry.Hand d c r.value) w _ refl refl refl;
  sets = λ d value r w x h p s. plain name (entry.Set d value) w _ refl refl refl;
  waits = λ d e r given w x h i p q s. plain name (entry.Wait d e) w _ refl refl refl;
  takes = λ d e r given w x h i p q s. plain name (entry.Take d e given.value) w _ refl refl refl;
  advances = λ ticks w x s. plain name (entry.Advance _) w _ refl refl refl;
}

-- so it is in a run
world_kept : (name : List ℕ) (script : Script) (batches : List Batch) (w : World) → Means script batches w
    → Kept name w.objects.queues w.journal.entries
world_kept name script batches w m =
    (means_keeps (Goes name) (settles name) script batches w m).goes_on (record {
      flow = omega arith;
      rooms = refl;
      unbounds = refl;
      sound = record { each = λ k q h. absurd (none-some q h) };
      law =
          no_places (λ told. unbound name told ≡ 0
          → puts name told ≤ gets name told + room name told) (λ u. omega arith);
    })

pub none_stored_while_any_waits : NothingIsStoredWhileAnyWaits
none_stored_while_any_waits script batches w h k q g =
    ((world_kept [] script batches w ((scripts_mean_what_is_defined script batches w).1 h)).sound.each k q g).either

-- and so its report logs it
pub queues_keep_their_size : QueuesKeepTheirSize
queues_keep_their_size script report r name =
    reported (StoresWithinItsRoom name) (λ script batches w m. (world_kept name script batches w m).law) script report r
