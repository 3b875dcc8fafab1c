-- No more tokens of a lock are released than were asked for, and all are held before anybody waits.
use Rattle.std.proofs.Common.{◌≡◌, ℕ, zero, suc, ◌+◌, ◌≤◌, ◌<◌, ◌++◌, Bool, true, false, nat_eq, List, [], ◌∷◌, Option}
use Rattle.std.proofs.Common.{None, Some, refl, sym, ap, subst, ◌∙◌, arith, slice_get, slice_set, cond, length, sum_by}
use Rattle.std.specs.Prelude.{bytes_eq, nat_lt, if◌then◌else◌}
use Rattle.std.specs.Set.{remove_key}
use Rattle.std.proofs.lemmas.Bool.{ltb-true}
use Rattle.std.proofs.lemmas.Bool.Decides.{nat_tests}
use Rattle.std.proofs.lemmas.List.{length_push}
use Rattle.std.proofs.lemmas.List.Sums.{sum_by_push, sum_by-set}
use Rattle.std.proofs.lemmas.Option.{none-some, slice_get_within, get_or_from_slice_get}
use Rattle.dv_journal.specs.declared.entry.Entry.{Entry}
use Rattle.dv_journal.specs.declared.entry.Entry.TheVariants as entry
use Rattle.dv_objects.specs.Objects.{Objects, naming_where}
use Rattle.dv_objects.specs.Refusals.{cancelled}
use Rattle.dv_posts.specs.Batches.{Batch}
use Rattle.dv_loop.specs.Meaning.{Means}
use Rattle.dv_loop.proofs.Leading.{scripts_mean_what_is_defined}
use Rattle.dv_prims.specs.Laws.{GivesAllBeforeAnyWaits}
use Rattle.dv_prims.specs.Tokens.{Semaphore, new_semaphore, is_unheld, has_free, asked, released, released_to}
use Rattle.dv_prims.specs.Tokens.{forgotten, without}
use Rattle.dv_script.specs.declared.script.Script.{Script}
use Rattle.dv_world.specs.World.{World}
use Rattle.dv_laws.specs.Tokens.{Unheld, MakesTokens, holding_of, asks_by, releases_by, asks, releases}
use Rattle.dv_laws.specs.Tokens.{TokensAreAskedFor}
use Rattle.dv_laws.specs.Tokens.{AllAreHeldBeforeAnyWaits}
use Rattle.dv_laws.specs.Places.{AtEachPlace}
use Rattle.dv_laws.proofs.At.{places_on, no_places}
use Rattle.dv_laws.proofs.Beside.{Locks, LocksRest, LockMade, SemaphoreMade, LockAsked, LockReleased, LocksKept}
use Rattle.dv_laws.proofs.Beside.{SameLocks}
use Rattle.dv_laws.proofs.Beside.{LockForgets}
use Rattle.dv_laws.proofs.ReadBackLemmas.{get_set}
use Rattle.dv_laws.proofs.Still.{Still, calm}
use Rattle.dv_laws.proofs.Settles.{Settles, means_keeps, reported}

-- 1. Locks: those that hold a token of one of this name or wait for one, and that all tokens are held before anybody
-- waits.

abbrev holders : Semaphore → ℕ
holders s = s.given + length s.waiting

abbrev held_of : List ℕ → Semaphore → ℕ
held_of name s = cond (bytes_eq s.name name) (holders s) 0

abbrev held : List ℕ → List Semaphore → ℕ
held name locks = sum_by (held_of name) locks

set_counts : (f : Semaphore → ℕ) (locks : List Semaphore) (l : ℕ) (s t : Semaphore) → slice_get locks l ≡ Some s
    → sum_by f (slice_set locks l t) + f s ≡ sum_by f locks + f t
set_counts f locks l s t h =
    omega (arith, sum_by-set f locks l t s (slice_get_within locks l s h), ap f (get_or_from_slice_get locks l s s h))

-- what counts of a name, by whether it is that one
more_by : (c : Bool) (x y : ℕ) → y ≤ x + 1 → cond c y 0 ≤ cond c x 0 + cond c 1 0
more_by true x y h = omega (arith, h)
more_by false x y h = omega arith

less_by : (c : Bool) (x y : ℕ) → y + 1 ≤ x → cond c y 0 + cond c 1 0 ≤ cond c x 0
less_by true x y h = omega (arith, h)
less_by false x y h = omega arith

same_by : (c : Bool) (x y : ℕ) → y ≤ x → cond c y 0 ≤ cond c x 0
same_by true x y h = omega (arith, h)
same_by false x y h = omega arith

pub record Asked (s t : Semaphore) : Type 0 where
  named : t.name ≡ s.name
  more : holders t ≤ holders s + 1
  pub gives : GivesAllBeforeAnyWaits s → GivesAllBeforeAnyWaits t

pub not_below : (a b : ℕ) → nat_lt a b ≡ false → b ≤ a
not_below a b h = grind (arith, nat_tests)

pub asked_by : (b : Bool) (d : ℕ) (s : Semaphore) → has_free s ≡ b
    → Asked s (if b then record s { given = s.given + 1 } else record s { waiting = s.waiting ++ d ∷ [] })
asked_by true d s e =
    let free : s.given < s.tokens = ltb-true s.given s.tokens e in
    record {
      named = refl;
      more = omega arith;
      gives = λ g. (omega (arith, free), λ h. absurd (omega (arith, free, g.1 h)));
    }
asked_by false d s e =
    let full : s.tokens ≤ s.given = not_below s.given s.tokens e in
    record {
      named = refl;
      more = omega (arith, length_push s.waiting d);
      gives = λ g. (g.0, λ h. omega (arith, full, g.0));
    }

pub is_asked : (d : ℕ) (s : Semaphore) → Asked s (asked d s)
is_asked d s = asked_by (has_free s) d s refl

pub record Released (s t : Semaphore) : Type 0 where
  named : t.name ≡ s.name
  less : holders t + 1 ≤ holders s
  pub gives : GivesAllBeforeAnyWaits s → GivesAllBeforeAnyWaits t

pub some_given : (n : ℕ) → nat_eq n 0 ≡ false → 1 ≤ n
some_given n h = grind (arith, nat_tests)

pub released_by : (ws : List ℕ) (s : Semaphore) → s.waiting ≡ ws → is_unheld s ≡ false → Released s (released_to ws s)
released_by [] s e u =
    let none : length s.waiting ≡ 0 = ap length e in
    let some : 1 ≤ s.given = some_given s.given u in
    record {
      named = refl;
      less = omega (arith, some);
      gives = λ g. (omega (arith, g.0), λ h. absurd (omega (arith, none, h)));
    }
released_by (first ∷ rest) s e u =
    let more : length s.waiting ≡ length (first ∷ rest) = ap length e in
    record { named = refl; less = omega (arith, more); gives = λ g. (g.0, λ h. g.1 (omega (arith, more))) }

pub is_released : (s : Semaphore) → is_unheld s ≡ false → Released s (released s)
is_released s u = released_by s.waiting s refl u

-- one that waits no longer
shorter_by : (b : Bool) (w : ℕ) (ws rest : List ℕ) → length rest ≤ length ws
    → length (cond b ws (w ∷ rest)) ≤ length (w ∷ ws)
shorter_by true w ws rest h = omega arith
shorter_by false w ws rest h = omega (arith, h)

pub shorter : (d : ℕ) (ws : List ℕ) → length (without d ws) ≤ length ws
shorter d [] = omega arith
shorter d (w ∷ ws) = shorter_by (nat_eq d w) w ws (remove_key (nat_eq d) ws) (shorter d ws)

pub forgotten_gives : (d : ℕ) (s : Semaphore) → GivesAllBeforeAnyWaits s → GivesAllBeforeAnyWaits (forgotten d s)
forgotten_gives d s g = (g.0, λ h. g.1 (omega (arith, shorter d s.waiting, h)))

-- all locks
pub record Sound (locks : List Semaphore) : Type 0 where
  pub each : (l : ℕ) (s : Semaphore) → slice_get locks l ≡ Some s → GivesAllBeforeAnyWaits s

set_by : (b : Bool) (y s : Semaphore) (o : Option Semaphore) → GivesAllBeforeAnyWaits y
    → (o ≡ Some s → GivesAllBeforeAnyWaits s) → cond b (Some y) o ≡ Some s → GivesAllBeforeAnyWaits s
set_by true y s o h k q = let same : y ≡ s = cc in subst (λ (x : Semaphore). GivesAllBeforeAnyWaits x) same h
set_by false y s o h k q = k q

pub sound_set : (l : ℕ) (s y : Semaphore) (locks : List Semaphore) → slice_get locks l ≡ Some s
    → GivesAllBeforeAnyWaits y
    → Sound locks → Sound (slice_set locks l y)
sound_set l s y locks h g k = record {
  each = λ n z q. set_by (nat_eq l n) y z (slice_get locks n) g (k.each n z) (sym (get_set locks l n s y h) ∙ q);
}

pushed_by : (n : ℕ) (y s : Semaphore) (locks : List Semaphore) → GivesAllBeforeAnyWaits y
    → ((l : ℕ) (z : Semaphore) → slice_get locks l ≡ Some z → GivesAllBeforeAnyWaits z)
    → slice_get (locks ++ y ∷ []) n ≡ Some s → GivesAllBeforeAnyWaits s
pushed_by zero y s [] h k q = let same : y ≡ s = cc in subst (λ (x : Semaphore). GivesAllBeforeAnyWaits x) same h
pushed_by (suc n) y s [] h k q = absurd cc
pushed_by zero y s (c ∷ locks) h k q = k 0 s q
pushed_by (suc n) y s (c ∷ locks) h k q = pushed_by n y s locks h (λ l z r. k (suc l) z r) q

pub sound_push : (name : List ℕ) (tokens : ℕ) (locks : List Semaphore) → Sound locks
    → Sound (locks ++ new_semaphore name tokens ∷ [])
sound_push name tokens locks k =
    let s = new_semaphore name tokens in
    record { each = λ l x q. pushed_by l s x locks (omega arith, λ h. absurd (omega (arith, h))) k.each q }

-- 2. What is logged of locks.

record Held (name : List ℕ) (locks : List Semaphore) (entries : List Entry) : Type 0 where
  counted : releases name entries + held name locks ≤ asks name entries
  sound : Sound locks
  law : AtEachPlace (λ told. releases name told ≤ asks name told) entries

-- one more entry
counts : (name : List ℕ) (e : Entry) (old new : List Semaphore) (entries : List Entry) → Held name old entries
    → releases_by name (holding_of e) + held name new ≤ held name old + asks_by name (holding_of e) → Sound new
    → Held name new (entries ++ e ∷ [])
counts name e old new entries k m s =
    let counted : releases name (entries ++ e ∷ []) + held name new ≤ asks name (entries ++ e ∷ []) = omega (
      arith,
      sum_by_push (λ x. releases_by name (holding_of x)) entries e,
      sum_by_push (λ x. asks_by name (holding_of x)) entries e,
      k.counted,
      m,
    ) in
    record {
      counted = counted;
      sound = s;
      law = places_on (λ told. releases name told ≤ asks name told) e entries k.law (omega (arith, counted));
    }

of_entry : (name : List ℕ) (e x : Entry) (new : List Semaphore) (entries : List Entry) → e ≡ x
    → Held name new (entries ++ x ∷ []) → Held name new (entries ++ e ∷ [])
of_entry name e x new entries q k = subst (λ y. Held name new (entries ++ y ∷ [])) (sym q) k

rests : (name : List ℕ) (e : Entry) (old new : List Semaphore) (entries : List Entry) → holding_of e ≡ Unheld
    → new ≡ old → Held name old entries → Held name new (entries ++ e ∷ [])
rests name e old new entries a p k =
    counts name e old new entries k (omega (arith, ap (held name) p, ap (releases_by name) a, ap (asks_by name) a))
    (subst (λ (locks : List Semaphore). Sound locks) (sym p) k.sound)

makes : (name : List ℕ) (e : Entry) (made : List ℕ) (tokens : ℕ) (old : List Semaphore) (entries : List Entry)
    → holding_of e ≡ MakesTokens made tokens → Held name old entries
    → Held name (old ++ new_semaphore made tokens ∷ []) (entries ++ e ∷ [])
makes name e made tokens old entries a k =
    let s = new_semaphore made tokens in
    counts name e old (old ++ s ∷ []) entries k (omega
    (arith, sum_by_push (held_of name) old s, none (bytes_eq made name), ap (releases_by name) a, ap (asks_by name) a))
    (sound_push made tokens old k.sound)
  where
    none : (b : Bool) → cond {A = ℕ} b 0 0 ≡ 0
    none true = refl
    none false = refl

asks_for : (name : List ℕ) (l d : ℕ) (s : Semaphore) (old : List Semaphore) (entries : List Entry)
    → slice_get old l ≡ Some s → Held name old entries
    → Held name (slice_set old l (asked d s)) (entries ++ entry.Acquire s.name d ∷ [])
asks_for name l d s old entries g k =
    let t = asked d s in
    let a = is_asked d s in
    counts name (entry.Acquire s.name d) old (slice_set old l t) entries k
    (omega (
      arith,
      set_counts (held_of name) old l s t g,
      ap {B = ℕ} (λ n. cond (bytes_eq n name) (holders t) 0) a.named,
      more_by (bytes_eq s.name name) (holders s) (holders t) a.more,
    ))
    (sound_set l s t old g (a.gives (k.sound.each l s g)) k.sound)

releases_one : (name : List ℕ) (l : ℕ) (s : Semaphore) (old : List Semaphore) (entries : List Entry)
    → slice_get old l ≡ Some s → is_unheld s ≡ false → Held name old entries
    → Held name (slice_set old l (released s)) (entries ++ entry.Release s.name ∷ [])
releases_one name l s old entries g u k =
    let t = released s in
    let r = is_released s u in
    counts name (entry.Release s.name) old (slice_set old l t) entries k
    (omega (
      arith,
      set_counts (held_of name) old l s t g,
      ap {B = ℕ} (λ n. cond (bytes_eq n name) (holders t) 0) r.named,
      less_by (bytes_eq s.name name) (holders s) (holders t) r.less,
    ))
    (sound_set l s t old g (r.gives (k.sound.each l s g)) k.sound)

locked : (name : List ℕ) (e : Entry) (old new : List Semaphore) (entries : List Entry) → Locks e old new
    → Held name old entries → Held name new (entries ++ e ∷ [])
locked name e old new entries (LocksRest other a p) k = rests name e old other entries a p k
locked name e old new entries (LockMade made q) k = makes name e made 1 old entries (ap holding_of q) k
locked name e old new entries (SemaphoreMade made tokens q) k =
    makes name e made tokens old entries (ap holding_of q) k
locked name e old new entries (LockAsked l d s g q) k =
    of_entry name e _ _ entries q (asks_for name l d s old entries g k)
locked name e old new entries (LockReleased l s g u q) k =
    of_entry name e _ _ entries q (releases_one name l s old entries g u k)

kept : (name : List ℕ) (old new : List Semaphore) (entries : List Entry) → LocksKept old new → Held name old entries
    → Held name new entries
kept name old new entries (SameLocks other p) k = subst (λ (locks : List Semaphore). Held name locks entries) (sym p) k
kept name old new entries (LockForgets l d s g) k =
    let t = forgotten d s in
    record {
      counted = omega (
        arith,
        k.counted,
        set_counts (held_of name) old l s t g,
        same_by (bytes_eq s.name name) (holders s) (holders t) (omega (arith, shorter d s.waiting)),
      );
      sound = sound_set l s t old g (forgotten_gives d s (k.sound.each l s g)) k.sound;
      law = k.law;
    }

-- if it was so before, it is so after
record Goes (name : List ℕ) (w u : World) : Type 0 where
  goes_on : Held name w.objects.semaphores w.journal.entries → Held name u.objects.semaphores u.journal.entries

plain : (name : List ℕ) (e : Entry) (w u : World) → holding_of e ≡ Unheld → u.objects.semaphores ≡ w.objects.semaphores
    → u.journal.entries ≡ w.journal.entries ++ e ∷ [] → Goes name w u
plain name e w u a p q = record {
  goes_on = λ k. rw (p, q) (rests name e w.objects.semaphores w.objects.semaphores w.journal.entries a refl k);
}

named_same : (name : Option (List ℕ)) (d : ℕ) (objects : Objects)
    → (naming_where name d objects).semaphores ≡ objects.semaphores
named_same None d objects = refl
named_same (Some name) d objects = refl

-- each entry logs it
still : (name : List ℕ) → Still (Goes name)
still name = record {
  stays = λ w. record { goes_on = λ k. k };
  joins = λ u v w p q. record { goes_on = λ k. q.goes_on (p.goes_on k) };
  stops = λ w. record { goes_on = λ k. k };
  news =
      λ given canceller w x.
      plain name (entry.New (length w.records) given) w _ refl (named_same given _ w.objects) refl;
  asides = λ e change w a c l b x. record { goes_on = λ k. locked name e _ _ w.journal.entries b.locks k };
  arranges = λ change w s l b. record { goes_on = λ k. kept name _ _ w.journal.entries b.locks k };
  submits = λ d pool work w x. plain name (entry.Job (length w.works) d) w _ refl refl refl;
  refuses = λ d r w x h p q. plain name (entry.Refuse d) w _ refl refl refl;
  swallows = λ d r w x h p. plain name (entry.Swallow d) w _ refl refl refl;
  cancels = λ d w x. plain name (entry.Cancel d) w _ refl refl refl;
  sets_swallows = λ d r w x h f c. plain name (entry.Fire d cancelled) w _ refl refl refl;
  fires = λ d value r w x h f. plain name (entry.Fire d value) w _ refl refl refl;
  adds = λ d pair r w x h. plain name (entry.Add d) w _ refl refl refl;
  pauses = λ d r w x h. plain name (entry.Pause d) w _ refl refl refl;
  unpauses = λ d r w x h p. plain name (entry.Unpause d) w _ refl refl refl;
}

settles : (name : List ℕ) → Settles (Goes name)
settles name = record {
  calm = calm _ (still name);
  drops = λ d r pair rest w h e a s. record { goes_on = λ k. k };
  runs = λ d r pair rest w x h e a s. plain name (entry.Run d) w _ refl refl refl;
  hands = λ d c r rest w x h e a s. plain name (entry.Hand d c r.value) w _ refl refl refl;
  sets = λ d value r w x h p s. plain name (entry.Set d value) w _ refl refl refl;
  waits = λ d e r given w x h i p q s. plain name (entry.Wait d e) w _ refl refl refl;
  takes = λ d e r given w x h i p q s. plain name (entry.Take d e given.value) w _ refl refl refl;
  advances = λ ticks w x s. plain name (entry.Advance _) w _ refl refl refl;
}

-- so it is in a run
world_held : (name : List ℕ) (script : Script) (batches : List Batch) (w : World) → Means script batches w
    → Held name w.objects.semaphores w.journal.entries
world_held name script batches w m =
    (means_keeps (Goes name) (settles name) script batches w m).goes_on (record {
      counted = omega arith;
      sound = record { each = λ l s h. absurd (none-some s h) };
      law = no_places (λ told. releases name told ≤ asks name told) (omega arith);
    })

pub all_held_first : AllAreHeldBeforeAnyWaits
all_held_first script batches w h l s g =
    (world_held [] script batches w ((scripts_mean_what_is_defined script batches w).1 h)).sound.each l s g

-- and so its report logs it
pub tokens_asked_for : TokensAreAskedFor
tokens_asked_for script report r name =
    reported (AtEachPlace (λ told. releases name told ≤ asks name told))
    (λ script batches w m. (world_held name script batches w m).law) script report r
