-- The pairs of a Deferred are used once each, and its sides run one at a time.
use Rattle.std.proofs.Common.{◌≡◌, ℕ, ◌+◌, ◌≤◌, ◌++◌, Bool, true, false, nat_eq, List, [], ◌∷◌, Option, None, Some}
use Rattle.std.proofs.Common.{refl, sym, ap, ◌∙◌, arith, slice_get, slice_set, cond, length, sum_by}
use Rattle.std.proofs.lemmas.Bool.{eqb-true}
use Rattle.std.proofs.lemmas.List.Sums.{sum_by_push, sum_by-cons}
use Rattle.dv_value.specs.declared.value.Value.{Null}
use Rattle.dv_journal.specs.declared.entry.Entry.{Entry}
use Rattle.dv_journal.specs.declared.entry.Entry.TheVariants as entry
use Rattle.dv_script.specs.declared.script.Script.{Script}
use Rattle.dv_store.specs.Callbacks.{with_handed, with_result}
use Rattle.dv_store.specs.Chaining as chaining
use Rattle.dv_store.specs.Fire as firing
use Rattle.dv_store.specs.Record.{with_item, new_record, changing}
use Rattle.dv_store.specs.declared.record.Item.{Item}
use Rattle.dv_store.specs.declared.record.Item.TheVariants as item
use Rattle.dv_objects.specs.Refusals.{cancelled}
use Rattle.dv_objects.specs.Pair.{Pair}
use Rattle.dv_posts.specs.Batches.{Batch}
use Rattle.dv_loop.specs.Meaning.{Means}
use Rattle.dv_loop.proofs.Kept.{Both, Kind, telling_of}
use Rattle.dv_world.specs.World.{World, Records, state_of}
use Rattle.dv_laws.specs.OneAtATime.{adding, running, ending, additions, runs, ends, UsesEachPairOnce, RunsOneAtATime}
use Rattle.dv_laws.specs.OneAtATime.{EachPairIsUsedOnce, SidesRunOneAtATime}
use Rattle.dv_laws.proofs.At.{counted_of, at, set_at, changing_at, first_at, push_at, set_by, changing_by, places_on}
use Rattle.dv_laws.proofs.At.{no_places}
use Rattle.dv_laws.proofs.Still.{Still, calm}
use Rattle.dv_laws.proofs.Settles.{Settles, running_of, not_running, means_keeps, reported}

-- how many pairs a Deferred still has
abbrev pub pair_of : Item Pair → ℕ
pair_of (item.Pair pair) = 1
pair_of (item.HandOver c) = 0

abbrev pub pairs_of : Kind → ℕ
pairs_of r = sum_by pair_of r.items

-- the pairs of n that were used, and those that it has, were added; of its sides that have run one runs, or all have
-- ended
pub record Used (n : ℕ) (s : Both) : Type 0 where
  added : runs n s.1.entries + at pairs_of n s.0 ≤ additions n s.1.entries
  pub sides : runs n s.1.entries ≡ ends n s.1.entries + at running_of n s.0
  once : UsesEachPairOnce n s.1.entries
  alone : RunsOneAtATime n s.1.entries

-- if it was so before, it is so after
record Uses (n : ℕ) (s t : Both) : Type 0 where
  goes_on : Used n s → Used n t

-- how an entry logs what the records then count
record Tells (n : ℕ) (e : Entry) (rs : Records) (s : Both) : Type 0 where
  pairs : running n e + at pairs_of n rs ≤ at pairs_of n s.0 + adding n e
  sides : running n e + at running_of n s.0 ≡ ending n e + at running_of n rs

-- at most one side of a Deferred runs
once_of : (r : Kind) → running_of r ≤ 1
once_of r = elim r.running as (λ b. ◌≤◌ (cond b 1 0) 1) [ true ↦ omega arith | false ↦ omega arith ]

once_found : (o : Option Kind) → counted_of running_of o ≤ 1
once_found None = omega arith
once_found (Some r) = once_of r

tells : (n : ℕ) (e : Entry) (rs : Records) (s : Both) → Tells n e rs s → Uses n s (telling_of e rs s)
tells n e rs s t = record {
  goes_on = λ k.
      let run = sum_by_push (running n) s.1.entries e in
      let end = sum_by_push (ending n) s.1.entries e in
      let add = sum_by_push (adding n) s.1.entries e in
      let added : runs n (s.1.entries ++ e ∷ []) + at pairs_of n rs ≤ additions n (s.1.entries ++ e ∷ []) =
      omega (arith, run, add, t.pairs, k.added) in
      let sides : runs n (s.1.entries ++ e ∷ []) ≡ ends n (s.1.entries ++ e ∷ []) + at running_of n rs =
      omega (arith, run, end, t.sides, k.sides) in
      record {
        added = added;
        sides = sides;
        once = places_on (λ told. runs n told ≤ additions n told) e s.1.entries k.once (omega (arith, added));
        alone = record {
          alone =
              places_on (λ told. runs n told ≤ ends n told + 1) e s.1.entries k.alone.alone
              (omega (arith, sides, once_found (slice_get rs n)));
          begun = places_on (λ told. ends n told ≤ runs n told) e s.1.entries k.alone.begun (omega (arith, sides));
        };
      };
}

-- an entry of what counts as before
plain : (n : ℕ) (e : Entry) (rs : Records) (s : Both) → running n e ≡ 0 → adding n e ≡ 0 → ending n e ≡ 0
    → at pairs_of n rs ≡ at pairs_of n s.0 → at running_of n rs ≡ at running_of n s.0 → Uses n s (telling_of e rs s)
plain n e rs s a b c p q = tells n e rs s (record { pairs = omega (arith, a, b, p); sides = omega (arith, a, c, q) })

-- a step that logs nothing changes nothing
untold : (n : ℕ) (s t : Both) → t.1.entries ≡ s.1.entries → at pairs_of n t.0 ≤ at pairs_of n s.0
    → at running_of n t.0 ≡ at running_of n s.0 → Uses n s t
untold n s t e p q = record {
  goes_on = λ k. record {
    added = rw e (omega (arith, k.added, p));
    sides = rw e (k.sides ∙ ap (λ x. ends n s.1.entries + x) (sym q));
    once = rw e k.once;
    alone = rw e k.alone;
  };
}

-- a pair more, a pair less, and what is to be handed over
pairs_pushed : (pair : Pair) (r : Kind) → pairs_of (with_item (item.Pair pair) r) ≡ pairs_of r + 1
pairs_pushed pair r = sum_by_push pair_of r.items (item.Pair pair)

pairs_kept : (c : ℕ) (r : Kind) → pairs_of (with_item (item.HandOver c) r) ≡ pairs_of r
pairs_kept c r = omega (arith, sum_by_push pair_of r.items (item.HandOver c))

pairs_first : (r : Kind) (first : Item Pair) (rest : List (Item Pair)) → r.items ≡ first ∷ rest
    → pairs_of r ≡ pair_of first + sum_by pair_of rest
pairs_first r first rest e = ap (λ items. sum_by pair_of items) e ∙ sum_by-cons pair_of first rest

-- a count of n after a record was set, by whether it is that of n
more_by : (f : Kind → ℕ) (b : Bool) (n d : ℕ) (r s : Kind) (l : Records) (j k : ℕ) → nat_eq d n ≡ b
    → slice_get l d ≡ Some r → f s + j ≡ f r + k → cond b (f s) (at f n l) + cond b j 0 ≡ at f n l + cond b k 0
more_by f true n d r s l j k e h p = rw (← (eqb-true d n e), h) p
more_by f false n d r s l j k e h p = refl

set_more : (f : Kind → ℕ) (n d : ℕ) (r s : Kind) (l : Records) (j k : ℕ) → slice_get l d ≡ Some r → f s + j ≡ f r + k
    → at f n (slice_set l d s) + cond (nat_eq d n) j 0 ≡ at f n l + cond (nat_eq d n) k 0
set_more f n d r s l j k h p = rw (set_by f n d r s l h) (more_by f _ n d r s l j k refl h p)

none_more : (b : Bool) → cond {A = ℕ} b 0 0 ≡ 0
none_more true = refl
none_more false = refl

-- a side that ran has ended
at_nothing : (o : Option Kind) → counted_of (λ r. 0) o ≡ 0
at_nothing None = refl
at_nothing (Some r) = refl

ended_by : (b : Bool) (n d : ℕ) (r : Kind) (rs l : Records) → nat_eq d n ≡ b → slice_get rs d ≡ Some r
    → r.running ≡ true → at running_of n l ≡ at running_of n rs
    → at running_of n rs ≡ cond b 1 0 + cond b (at (λ x. 0) n l) (at running_of n l)
ended_by true n d r rs l e h p q = rw (← (eqb-true d n e), h, p) (omega (arith, at_nothing (slice_get l d)))
ended_by false n d r rs l e h p q = omega (arith, q)

ran : (r : Kind) → r.running ≡ true → running_of r ≡ 1
ran r p = ap {B = ℕ} (λ b. cond b 1 0) p

-- each entry counts what it changes
still : (n : ℕ) → Still (λ w u. Uses n (state_of w) (state_of u))
still n = record {
  stays = λ w. record { goes_on = λ k. k };
  joins = λ u v w p q. record { goes_on = λ k. q.goes_on (p.goes_on k) };
  stops = λ w. record { goes_on = λ k. k };
  news = λ name canceller w x.
      let s = state_of w in
      plain n (entry.New (length w.records) name) _ s refl refl refl (push_at pairs_of n
      (new_record name canceller) w.records refl) (push_at running_of n (new_record name canceller) w.records refl);
  asides = λ e change w a c l b x. plain n e _ (state_of w) (rw a refl) (rw a refl) (rw a refl) refl refl;
  arranges = λ change w s l b. record { goes_on = λ k. k };
  submits = λ d pool work w x. plain n (entry.Job (length w.works) d) _ (state_of w) refl refl refl refl refl;
  refuses = λ d r w x h p q. plain n (entry.Refuse d) _ (state_of w) refl refl refl refl refl;
  swallows =
      λ d r w x h p. plain n (entry.Swallow d) _ (state_of w) refl refl refl (set_at pairs_of n d r _ w.records h refl)
      (set_at running_of n d r _ w.records h refl);
  cancels = λ d w x. plain n (entry.Cancel d) _ (state_of w) refl refl refl refl refl;
  sets_swallows = λ d r w x h f c. plain n (entry.Fire d cancelled) _ (state_of w) refl refl refl
      (changing_at pairs_of n d (firing.with_swallows true) _ (λ y. refl) ∙ set_at pairs_of n d r _ w.records h refl)
      (changing_at running_of n d (firing.with_swallows true) _ (λ y. refl)
      ∙ set_at running_of n d r _ w.records h refl);
  fires =
      λ d value r w x h f. plain n (entry.Fire d value) _ (state_of w) refl refl refl
      (set_at pairs_of n d r _ w.records h refl) (set_at running_of n d r _ w.records h refl);
  adds = λ d pair r w x h.
      let more = with_item (item.Pair pair) r in
      tells n (entry.Add d) _ (state_of w) (record {
        pairs = omega (
          arith,
          set_more pairs_of n d r more w.records 0 1 h (omega (arith, pairs_pushed pair r)),
          none_more (nat_eq d n),
        );
        sides = omega (arith, set_at running_of n d r more w.records h refl);
      });
  pauses =
      λ d r w x h. plain n (entry.Pause d) _ (state_of w) refl refl refl (set_at pairs_of n d r _ w.records h refl)
      (set_at running_of n d r _ w.records h refl);
  unpauses =
      λ d r w x h p. plain n (entry.Unpause d) _ (state_of w) refl refl refl (set_at pairs_of n d r _ w.records h refl)
      (set_at running_of n d r _ w.records h refl);
}

settles : (n : ℕ) → Settles (λ w u. Uses n (state_of w) (state_of u))
settles n = record {
  calm = calm _ (still n);
  drops = λ d r pair rest w h e a s.
      let left : Kind = record r { items = rest } in
      untold n (state_of w) (slice_set w.records d left, w.journal) refl
      (omega (
        arith,
        set_more pairs_of n d r left w.records 1 0 h (omega (arith, pairs_first r (item.Pair pair) rest e)),
        none_more (nat_eq d n),
      ))
      (set_at running_of n d r left w.records h refl);
  runs = λ d r pair rest w x h e a s.
      let begun : Kind = record r { items = rest; running = true } in
      tells n (entry.Run d) _ (state_of w) (record {
        pairs = omega (
          arith,
          set_more pairs_of n d r begun w.records 1 0 h (omega (arith, pairs_first r (item.Pair pair) rest e)),
          none_more (nat_eq d n),
        );
        sides = omega (arith, first_at running_of n d r begun w.records h (not_running r a) refl);
      });
  hands = λ d c r rest w x h e a s.
      let taken : Kind = record r { items = rest; value = Null } in
      let left = slice_set w.records d taken in
      plain n (entry.Hand d c r.value) _ (state_of w) refl refl refl
      (changing_at pairs_of n c (with_handed r.value) left (λ y. refl)
      ∙ set_at pairs_of n d r taken w.records h (sym (omega (arith, pairs_first r (item.HandOver c) rest e))))
      (changing_at running_of n c (with_handed r.value) left (λ y. refl)
      ∙ set_at running_of n d r taken w.records h refl);
  sets = λ d value r w x h p s.
      let put = with_result value r in
      tells n (entry.Set d value) _ (state_of w) (record {
        pairs = omega (arith, set_at pairs_of n d r put w.records h refl);
        sides = omega (
          arith,
          set_more running_of n d r put w.records 1 0 h (omega (arith, ran r p)),
          none_more (nat_eq d n),
        );
      });
  waits = λ d e r given w x h i p q s.
      let first = changing e (with_item (item.HandOver d)) w.records in
      tells n (entry.Wait d e) _ (state_of w) (record {
        pairs = omega (
          arith,
          changing_at pairs_of n d (chaining.with_wait e) first (λ y. refl),
          changing_at pairs_of n e (with_item (item.HandOver d)) w.records (λ y. pairs_kept d y),
        );
        sides = omega (
          arith,
          changing_by running_of n d (chaining.with_wait e) first,
          ended_by (nat_eq d n) n d r w.records first refl h p
              (changing_at running_of n e (with_item (item.HandOver d)) w.records (λ y. refl)),
        );
      });
  takes = λ d e r given w x h i p q s.
      let first = changing e chaining.without_value w.records in
      tells n (entry.Take d e given.value) _ (state_of w) (record {
        pairs = omega (
          arith,
          changing_at pairs_of n d (with_result given.value) first (λ y. refl),
          changing_at pairs_of n e chaining.without_value w.records (λ y. refl),
        );
        sides = omega (
          arith,
          changing_by running_of n d (with_result given.value) first,
          ended_by (nat_eq d n) n d r w.records first refl h p
              (changing_at running_of n e chaining.without_value w.records (λ y. refl)),
        );
      });
  advances = λ ticks w x s. plain n (entry.Advance _) _ (state_of w) refl refl refl refl refl;
}

-- so it is in a run
pub world_used : (n : ℕ) (script : Script) (batches : List Batch) (w : World) → Means script batches w
    → Used n (state_of w)
world_used n script batches w m =
    (means_keeps (λ w u. Uses n (state_of w) (state_of u)) (settles n) script batches w m).goes_on (record {
      added = omega arith;
      sides = refl;
      once = no_places (λ told. runs n told ≤ additions n told) (omega arith);
      alone = record {
        alone = no_places (λ told. runs n told ≤ ends n told + 1) (omega arith);
        begun = no_places (λ told. ends n told ≤ runs n told) (omega arith);
      };
    })

-- and so its report logs it
pub each_pair_once : EachPairIsUsedOnce
each_pair_once script report r n =
    reported (UsesEachPairOnce n) (λ script batches w m. (world_used n script batches w m).once) script report r

pub one_at_a_time : SidesRunOneAtATime
one_at_a_time script report r n =
    reported (RunsOneAtATime n) (λ script batches w m. (world_used n script batches w m).alone) script report r
