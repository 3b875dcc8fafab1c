-- Time never falls.
use Rattle.std.proofs.Common.{◌≡◌, ℕ, ◌+◌, ◌≤◌, ◌++◌, min, List, [], ◌∷◌, Option, None, Some, refl, sym, subst, arith}
use Rattle.std.proofs.Common.{length}
use Rattle.dv_journal.specs.declared.entry.Entry.{Entry}
use Rattle.dv_journal.specs.declared.entry.Entry.TheVariants as entry
use Rattle.dv_clock.specs.declared.limits.TheConstants.{MOST_TICKS}
use Rattle.dv_script.specs.declared.script.Script.{Script}
use Rattle.dv_objects.specs.Objects.{Objects, naming_where}
use Rattle.dv_objects.specs.Refusals.{cancelled}
use Rattle.dv_posts.specs.Batches.{Batch}
use Rattle.dv_loop.specs.Meaning.{Means}
use Rattle.dv_world.specs.World.{World}
use Rattle.dv_laws.specs.Once.{Stands}
use Rattle.dv_laws.specs.Times.{Timing, timing_of, Untimed, Advances, Schedules, IsNoEarlier, TimeGoesOn}
use Rattle.dv_laws.specs.Times.{TimeNeverFalls}
use Rattle.dv_laws.proofs.At.{split_last, entries_on, no_entries}
use Rattle.dv_clock.specs.Clock.{Clock}
use Rattle.dv_clock.specs.Due.{scheduling, entry_when_due}
use Rattle.dv_clock.specs.declared.due.Due.{Due}
use Rattle.dv_clock.specs.declared.due.Due.TheVariants as what
use Rattle.dv_laws.proofs.Clocks.{IsPlain, Clocks, Leaves, Adds, Runs, Cancels, Moves, Drops, Arranges, Stays, Loses}
use Rattle.std.proofs.lemmas.Option.{none-some}
use Rattle.dv_laws.proofs.Calm.{Regular}
use Rattle.dv_laws.proofs.Still.{Still, calm}
use Rattle.dv_laws.proofs.Settles.{Settles, means_keeps, reported}

-- what is logged about time in a world whose time is this: not that it goes on, and nothing that was due before
abbrev IsTold : ℕ → Timing → Type 0
IsTold time Untimed = Unit {0}
IsTold time (Advances later) = ⊥
IsTold time (Schedules due) = time ≤ due

plain_told : (time : ℕ) (e : Entry) → IsPlain e → IsTold time (timing_of e)
plain_told time e p = subst (λ x. IsTold time x) (sym p.0) tt

later_told : (time : ℕ) (due_for : Due) (due : ℕ) → time ≤ due → IsTold time (timing_of (scheduling due_for due))
later_told time (what.Call name key) due h = h
later_told time (what.Turn name key) due h = h
later_told time what.Tick due h = h
later_told time (what.TickIn name k) due h = h
later_told time (what.Delivery job key) due h = h
later_told time (what.Timeout d) due h = h

run_told : (time : ℕ) (due_for : Due) → IsTold time (timing_of (entry_when_due due_for))
run_told time (what.Call name key) = tt
run_told time (what.Turn name key) = tt
run_told time what.Tick = tt
run_told time (what.TickIn name k) = tt
run_told time (what.Delivery job key) = tt
run_told time (what.Timeout d) = tt

is_told : (time : ℕ) (e x : Entry) → e ≡ x → IsTold time (timing_of x) → IsTold time (timing_of e)
is_told time e x q h = subst (λ y. IsTold time (timing_of y)) (sym q) h

clocks_told : (e : Entry) (c d : Clock) → Clocks e c d → IsTold c.time (timing_of e)
clocks_told e c d (Leaves p) = plain_told c.time e p
clocks_told e c d (Adds due_for due q h) = is_told c.time e _ q (later_told c.time due_for due h)
clocks_told e c d (Runs call n q) = is_told c.time e _ q (run_told c.time call.what)
clocks_told e c d (Cancels number due name key g q) = is_told c.time e _ q tt
clocks_told e c d (Moves number before due name key g q h) = is_told c.time e _ q h
clocks_told e c d (Drops number p) = plain_told c.time e p

pub clocks_same : (e : Entry) (c d : Clock) → Clocks e c d → d.time ≡ c.time
clocks_same e c d (Leaves p) = refl
clocks_same e c d (Adds due_for due q h) = refl
clocks_same e c d (Runs call n q) = refl
clocks_same e c d (Cancels number due name key g q) = refl
clocks_same e c d (Moves number before due name key g q h) = refl
clocks_same e c d (Drops number p) = refl

pub arranged_same : (c d : Clock) → Arranges c d → d.time ≡ c.time
arranged_same c d Stays = refl
arranged_same c d (Loses number) = refl

-- the time is within its bound, and none to which it has gone on is later
record Timely (time : ℕ) (entries : List Entry) : Type 0 where
  within : time ≤ MOST_TICKS
  passed : (t : ℕ) → Stands (entry.Advance t) entries → t ≤ time
  goes : TimeGoesOn entries

abbrev IsTimely : World → Type 0
IsTimely w = Timely w.objects.clock.time w.journal.entries

record Keeps (w u : World) : Type 0 where
  loops : Regular w.objects.loops → Regular u.objects.loops
  goes_on : Regular w.objects.loops → IsTimely w → IsTimely u

-- what stands in a longer journal
stands_before : (e x : Entry) (entries : List Entry) (P : Type 0) → (Stands e entries → P) → (e ≡ x → P)
    → Stands e (entries ++ x ∷ []) → P
stands_before e x entries P h k s =
    split_last (λ l. P) e x entries s.before s.later
    (λ bs ls q. h (record { before = bs; later = ls; among = q })) k s.among

stands_nowhere : (e : Entry) (before later : List Entry) (P : Type 0) → [] ≡ before ++ e ∷ later → P
stands_nowhere e [] later P q = absurd cc
stands_nowhere e (b ∷ bs) later P q = absurd cc

-- what is logged is of no time before one that is past
told_later : (t time : ℕ) (timing : Timing) → t ≤ time → IsTold time timing → IsNoEarlier t timing
told_later t time Untimed h k = tt
told_later t time (Advances later) h k = absurd k
told_later t time (Schedules due) h k = omega (arith, h, k)

not_advanced : (time t : ℕ) (e : Entry) (P : Type 0) → IsTold time (timing_of e) → entry.Advance t ≡ e → P
not_advanced time t e P h q = absurd (subst (λ x. IsTold time (timing_of x)) (sym q) h)

-- an entry by which no time goes on
told_timely : (e : Entry) (time : ℕ) (entries : List Entry) → IsTold time (timing_of e) → Timely time entries
    → Timely time (entries ++ e ∷ [])
told_timely e time entries h k = record {
  within = k.within;
  passed = λ t s. stands_before (entry.Advance t) e entries _ (k.passed t) (not_advanced time t e _ h) s;
  goes =
      entries_on (λ told x. (t : ℕ) → Stands (entry.Advance t) told
      → IsNoEarlier t (timing_of x)) e entries k.goes (λ t s. told_later t time (timing_of e) (k.passed t s) h);
}

tells : (e : Entry) (w u : World) → IsTold w.objects.clock.time (timing_of e)
    → u.objects.clock.time ≡ w.objects.clock.time → u.journal.entries ≡ w.journal.entries ++ e ∷ []
    → u.objects.loops ≡ w.objects.loops → Keeps w u
tells e w u h s q l = record {
  loops = λ r. rw l r;
  goes_on = λ r k. rw (s, q) (told_timely e w.objects.clock.time w.journal.entries h k);
}

-- time goes on
advance_of : (t time : ℕ) → entry.Advance t ≡ entry.Advance time → t ≡ time
advance_of t time q = cc

advanced : (before time : ℕ) (entries : List Entry) → before ≤ time → time ≤ MOST_TICKS → Timely before entries
    → Timely time (entries ++ entry.Advance time ∷ [])
advanced before time entries h m k = record {
  within = m;
  passed =
      λ t s. stands_before (entry.Advance t) (entry.Advance time) entries (t ≤ time)
      (λ z. omega (arith, h, k.passed t z)) (λ q. omega (arith, advance_of t time q)) s;
  goes =
      entries_on (λ told x. (t : ℕ) → Stands (entry.Advance t) told
      → IsNoEarlier t (timing_of x)) (entry.Advance time) entries k.goes (λ t s. omega (arith, h, k.passed t s));
}

later_time : (time ticks : ℕ) → time ≤ MOST_TICKS → time ≤ min (time + ticks) MOST_TICKS
later_time time ticks h = omega (arith, h)

within_time : (time ticks : ℕ) → min (time + ticks) MOST_TICKS ≤ MOST_TICKS
within_time time ticks = omega arith

named_same : (name : Option (List ℕ)) (d : ℕ) (objects : Objects)
    → (naming_where name d objects).clock.time ≡ objects.clock.time
named_same None d objects = refl
named_same (Some name) d objects = refl

named_loops : (name : Option (List ℕ)) (d : ℕ) (objects : Objects) → (naming_where name d objects).loops ≡ objects.loops
named_loops None d objects = refl
named_loops (Some name) d objects = refl

-- each entry logs no time that is past
still : Still Keeps
still = record {
  stays = λ w. record { loops = λ r. r; goes_on = λ r k. k };
  joins =
      λ u v w p q. record { loops = λ r. q.loops (p.loops r); goes_on = λ r k. q.goes_on (p.loops r) (p.goes_on r k) };
  stops = λ w. record { loops = λ r. r; goes_on = λ r k. k };
  news =
      λ name canceller w x. tells (entry.New (length w.records) name) w _ tt (named_same name _ w.objects) refl
      (named_loops name _ w.objects);
  asides = λ e change w a c l b x. record {
    loops = l;
    goes_on = λ r k.
        rw (clocks_same e _ _ (c r)) (told_timely e w.objects.clock.time w.journal.entries (clocks_told e _ _ (c r)) k);
  };
  arranges = λ change w s l b. record { loops = l; goes_on = λ r k. rw (arranged_same _ _ s) k };
  submits = λ d pool work w x. tells (entry.Job (length w.works) d) w _ tt refl refl refl;
  refuses = λ d r w x h p q. tells (entry.Refuse d) w _ tt refl refl refl;
  swallows = λ d r w x h p. tells (entry.Swallow d) w _ tt refl refl refl;
  cancels = λ d w x. tells (entry.Cancel d) w _ tt refl refl refl;
  sets_swallows = λ d r w x h f c. tells (entry.Fire d cancelled) w _ tt refl refl refl;
  fires = λ d value r w x h f. tells (entry.Fire d value) w _ tt refl refl refl;
  adds = λ d pair r w x h. tells (entry.Add d) w _ tt refl refl refl;
  pauses = λ d r w x h. tells (entry.Pause d) w _ tt refl refl refl;
  unpauses = λ d r w x h p. tells (entry.Unpause d) w _ tt refl refl refl;
}

settles : Settles Keeps
settles = record {
  calm = calm _ still;
  drops = λ d r pair rest w h e a s. record { loops = λ z. z; goes_on = λ z k. k };
  runs = λ d r pair rest w x h e a s. tells (entry.Run d) w _ tt refl refl refl;
  hands = λ d c r rest w x h e a s. tells (entry.Hand d c r.value) w _ tt refl refl refl;
  sets = λ d value r w x h p s. tells (entry.Set d value) w _ tt refl refl refl;
  waits = λ d e r given w x h i p q s. tells (entry.Wait d e) w _ tt refl refl refl;
  takes = λ d e r given w x h i p q s. tells (entry.Take d e given.value) w _ tt refl refl refl;
  advances = λ ticks w x s. record {
    loops = λ r. r;
    goes_on =
        λ r k. advanced w.objects.clock.time (min (w.objects.clock.time + ticks) MOST_TICKS) w.journal.entries
        (later_time w.objects.clock.time ticks k.within) (within_time w.objects.clock.time ticks) k;
  };
}

world_timely : (script : Script) (batches : List Batch) (w : World) → Means script batches w
    → TimeGoesOn w.journal.entries
world_timely script batches w m =
    ((means_keeps Keeps settles script batches w m).goes_on (record { each = λ l x h. absurd (none-some x h) })
    (record {
      within = omega arith;
      passed = λ t s. stands_nowhere (entry.Advance t) s.before s.later _ s.among;
      goes = no_entries (λ told x. (t : ℕ) → Stands (entry.Advance t) told → IsNoEarlier t (timing_of x));
    })).goes

-- and so its report logs it
pub time_never_falls : TimeNeverFalls
time_never_falls script report r = reported TimeGoesOn world_timely script report r
