-- A task ends once at most, and takes no step after that.
use Rattle.std.proofs.Common.{◌≡◌, ℕ, zero, suc, ◌+◌, ◌-◌, ◌≤◌, ◌<◌, ◌++◌, Bool, true, false, nat_eq, List, [], ◌∷◌}
use Rattle.std.proofs.Common.{Option, None, Some, refl, sym, ap, subst, ◌∙◌, arith, drop, slice_get, slice_set, cond}
use Rattle.std.proofs.Common.{length, sum_by}
use Rattle.std.specs.Prelude.{◌&&◌, ◌||◌, is_none, is_some, bytes_eq, if◌then◌else◌, map}
use Rattle.std.specs.Option.{option_map_or}
use Rattle.std.specs.Set.{remove_key}
use Rattle.std.proofs.Math.Dec.{eqb-suc-zero, eqb-zero-suc, eqb-suc-suc}
use Rattle.std.proofs.lemmas.Bool.{eqb-true}
use Rattle.std.proofs.lemmas.Bool.Decides.{nat_tests}
use Rattle.std.proofs.lemmas.List.Sums.{sum_by_push, sum_by-set, sum_by-cons}
use Rattle.std.proofs.lemmas.Option.{slice_get_within, get_or_from_slice_get}
use Rattle.std.proofs.lemmas.Slice.Eq.{bytes_eq-Decides}
use Rattle.dv_clock.proofs.TurnsLemmas.{left_tasks}
use Rattle.dv_clock.specs.Turns.{Turns, is_among, joined, left, place_of_turn, turn_of, gone_on, gone_on_by}
use Rattle.dv_journal.specs.declared.entry.Entry.{Entry}
use Rattle.dv_journal.specs.declared.entry.Entry.TheVariants as entry
use Rattle.dv_objects.specs.Cooperator.{Cooperator, Cooperators, named_cooperator, new_cooperators, all_changed, turned}
use Rattle.dv_objects.specs.Cooperator.{turn_in, new_task, with_new_task, with_step, with_pause, with_resume, with_end}
use Rattle.dv_objects.specs.Cooperator.{with_waiting, result_of}
use Rattle.dv_objects.specs.Objects.{Objects, naming_where}
use Rattle.dv_objects.specs.Refusals.{cancelled}
use Rattle.dv_objects.specs.declared.task.Task.{Task}
use Rattle.dv_objects.specs.declared.task.TaskEnd.{TaskEnd}
use Rattle.dv_posts.specs.Batches.{Batch}
use Rattle.dv_loop.specs.Meaning.{Means}
use Rattle.dv_script.specs.declared.body.Body.{Body}
use Rattle.dv_script.specs.declared.script.Cooperator.{Cooperator as Settings}
use Rattle.dv_script.specs.declared.script.NamedCooperator.{NamedCooperator}
use Rattle.dv_script.specs.declared.script.Script.{Script}
use Rattle.dv_world.specs.World.{World}
use Rattle.dv_laws.specs.Tasks.{Untasked, MakesTask, StepsTask, tasking_of, makes_by, ends_by, tasks_made}
use Rattle.dv_laws.specs.Tasks.{tasks_ended, EndsOnce, TasksEndOnce}
use Rattle.dv_laws.proofs.At.{places_on, no_places, entries_on, no_entries}
use Rattle.dv_laws.proofs.ReadBackLemmas.{get_set}
use Rattle.dv_laws.proofs.Still.{Still, calm}
use Rattle.dv_laws.proofs.Settles.{Settles, means_keeps, reported}
use Rattle.dv_laws.proofs.Beside.{all_turns, Tasks, TasksRest, TaskMade, TaskMadeIn, TaskSteps, TaskEnds, TaskPaused}
use Rattle.dv_laws.proofs.Beside.{TaskResumed, TaskAwaited}

-- 1. Tasks of a name, and those of them that have ended.

abbrev named_of : List ℕ → Task → ℕ
named_of name x = cond (bytes_eq x.name name) 1 0

abbrev over_of : List ℕ → Task → ℕ
over_of name x = cond (is_some x.end && bytes_eq x.name name) 1 0

abbrev named : List ℕ → List Task → ℕ
named name tasks = sum_by (named_of name) tasks

abbrev over : List ℕ → List Task → ℕ
over name tasks = sum_by (over_of name) tasks

fewer_by : (a b : Bool) → cond {A = ℕ} (a && b) 1 0 ≤ cond b 1 0
fewer_by true b = omega arith
fewer_by false true = omega arith
fewer_by false false = omega arith

over_fewer : (name : List ℕ) (tasks : List Task) → over name tasks ≤ named name tasks
over_fewer name [] = omega arith
over_fewer name (x ∷ tasks) = omega (
  arith,
  sum_by-cons (over_of name) x tasks,
  sum_by-cons (named_of name) x tasks,
  fewer_by (is_some x.end) (bytes_eq x.name name),
  over_fewer name tasks,
)

-- one that hasn't ended leaves fewer that have
unended_fewer : (name : List ℕ) (t : ℕ) (x : Task) (tasks : List Task) → slice_get tasks t ≡ Some x → x.end ≡ None
    → bytes_eq x.name name ≡ true → over name tasks < named name tasks
unended_fewer name t x [] g e b = absurd cc
unended_fewer name zero x (y ∷ tasks) g e b =
    let same : y ≡ x = cc in
    let none : over_of name y ≡ 0 =
    ap (over_of name) same ∙ ap {B = ℕ} (λ o. cond (is_some o && bytes_eq x.name name) 1 0) e in
    let one : named_of name y ≡ 1 = ap (named_of name) same ∙ ap {B = ℕ} (λ c. cond c 1 0) b in
    omega
    (arith, sum_by-cons (over_of name) y tasks, sum_by-cons (named_of name) y tasks, none, one, over_fewer name tasks)
unended_fewer name (suc t) x (y ∷ tasks) g e b =
    omega (
      arith,
      sum_by-cons (over_of name) y tasks,
      sum_by-cons (named_of name) y tasks,
      fewer_by (is_some y.end) (bytes_eq y.name name),
      unended_fewer name t x tasks g e b,
    )

-- one that is set
set_counts : (f : Task → ℕ) (tasks : List Task) (t : ℕ) (x y : Task) → slice_get tasks t ≡ Some x
    → sum_by f (slice_set tasks t y) + f x ≡ sum_by f tasks + f y
set_counts f tasks t x y h =
    omega (arith, sum_by-set f tasks t y x (slice_get_within tasks t x h), ap f (get_or_from_slice_get tasks t x x h))

-- 2. Those that take turns in a Cooperator are in it and haven't ended, and each stands there once.

abbrev one_of : ℕ → ℕ → ℕ
one_of t u = cond (nat_eq t u) 1 0

abbrev standing : ℕ → List ℕ → ℕ
standing t ts = sum_by (one_of t) ts

-- those that take turns in the Cooperator that is found
abbrev taking : Option Cooperator → List ℕ
taking None = []
taking (Some one) = one.turns.tasks

abbrev taking_at : ℕ → List Cooperator → List ℕ
taking_at k all = taking (slice_get all k)

-- how often a task may stand in Cooperator k
abbrev may_stand : ℕ → Option Task → ℕ
may_stand k None = 0
may_stand k (Some x) = cond (is_none x.end && nat_eq x.of k) 1 0

abbrev may_stand_at : ℕ → ℕ → List Task → ℕ
may_stand_at k t tasks = may_stand k (slice_get tasks t)

-- so it is in each Cooperator
record Stand (tasks : List Task) (all : List Cooperator) : Type 0 where
  stand : (k n : ℕ) → standing n (taking_at k all) ≤ may_stand_at k n tasks

is_itself : (t : ℕ) → nat_eq t t ≡ true
is_itself t = grind (arith, nat_tests)

-- none stands there that isn't among them
either_false : (a b : Bool) → (a || b) ≡ false → (a ≡ false) × (b ≡ false)
either_false true b h = absurd cc
either_false false b h = (refl, h)

none_among : (t : ℕ) (ts : List ℕ) → is_among t ts ≡ false → standing t ts ≡ 0
none_among t [] h = refl
none_among t (u ∷ ts) h =
    let parts = either_false (nat_eq t u) (is_among t ts) h in
    omega (arith, sum_by-cons (one_of t) u ts, ap {B = ℕ} (λ b. cond b 1 0) parts.0, none_among t ts parts.1)

-- one of the places at most
once_by : (b : Bool) → cond {A = ℕ} b 1 0 ≤ 1
once_by true = omega arith
once_by false = omega arith

may_once : (k : ℕ) (o : Option Task) → may_stand k o ≤ 1
may_once k None = omega arith
may_once k (Some x) = once_by (is_none x.end && nat_eq x.of k)

-- a task that may stand there and joins stands there once at most
new_by : (c : Bool) (n t m : ℕ) (ts : List ℕ) → nat_eq n t ≡ c → standing t ts ≡ 0 → standing n ts ≤ m → one_of n t ≤ m
    → standing n ts + cond c 1 0 ≤ m
new_by true n t m ts e z h k =
    let none : standing n ts ≡ 0 = ap (λ x. standing x ts) (eqb-true n t e) ∙ z in
    let one : one_of n t ≡ 1 = ap {B = ℕ} (λ b. cond b 1 0) e in
    omega (arith, none, one, k)
new_by false n t m ts e z h k = omega (arith, h)

joined_by : (b : Bool) (n t m : ℕ) (turns : Turns) → is_among t turns.tasks ≡ b → standing n turns.tasks ≤ m
    → one_of n t ≤ m → standing n (if b then turns else record turns { tasks = turns.tasks ++ t ∷ [] }).tasks ≤ m
joined_by true n t m turns e h k = h
joined_by false n t m turns e h k = omega (
  arith,
  sum_by_push (one_of n) turns.tasks t,
  new_by (nat_eq n t) n t m turns.tasks refl (none_among t turns.tasks e) h k,
)

joins : (n t m : ℕ) (turns : Turns) → standing n turns.tasks ≤ m → one_of n t ≤ m
    → standing n (joined t turns).tasks ≤ m
joins n t m turns h k = joined_by (is_among t turns.tasks) n t m turns refl h k

-- who leaves stands there once less
apart_by : (c : Bool) (t u v : ℕ) → nat_eq t u ≡ c → nat_eq u v ≡ false → cond c 1 0 + one_of t v ≤ 1
apart_by true t u v p q =
    let other : nat_eq t v ≡ false = ap (λ x. nat_eq x v) (eqb-true t u p) ∙ q in
    let none : one_of t v ≡ 0 = ap {B = ℕ} (λ b. cond b 1 0) other in
    omega (arith, none)
apart_by false t u v p q = omega (arith, once_by (nat_eq t v))

leaves_by : (b : Bool) (t u v : ℕ) (ts : List ℕ) → nat_eq u v ≡ b
    → standing t (remove_key (nat_eq u) ts) ≤ standing t ts - one_of t u
    → standing t (cond b ts (v ∷ remove_key (nat_eq u) ts)) ≤ standing t (v ∷ ts) - one_of t u
leaves_by true t u v ts e h =
    let same : one_of t u ≡ one_of t v = ap (one_of t) (eqb-true u v e) in
    omega (arith, same, sum_by-cons (one_of t) v ts)
leaves_by false t u v ts e h = omega (
  arith,
  apart_by (nat_eq t u) t u v refl e,
  sum_by-cons (one_of t) v (remove_key (nat_eq u) ts),
  sum_by-cons (one_of t) v ts,
  h,
)

leaves : (t u : ℕ) (ts : List ℕ) → standing t (remove_key (nat_eq u) ts) ≤ standing t ts - one_of t u
leaves t u [] = omega arith
leaves t u (v ∷ ts) = leaves_by (nat_eq u v) t u v ts refl (leaves t u ts)

-- whose turn it is stands there
stands_at : (t k : ℕ) (ts : List ℕ) → slice_get ts k ≡ Some t → 1 ≤ standing t ts
stands_at t k [] h = absurd cc
stands_at t zero (u ∷ ts) h =
    let same : u ≡ t = cc in
    let one : one_of t u ≡ 1 = ap {B = ℕ} (λ b. cond b 1 0) (ap (λ x. nat_eq t x) same ∙ is_itself t) in
    omega (arith, sum_by-cons (one_of t) u ts, one)
stands_at t (suc k) (u ∷ ts) h = omega (arith, sum_by-cons (one_of t) u ts, stands_at t k ts h)

turn_stands : (t : ℕ) (o : Option Cooperator) → turn_in o ≡ Some t → 1 ≤ standing t (taking o)
turn_stands t None h = absurd cc
turn_stands t (Some one) h = stands_at t (place_of_turn one.turns) one.turns.tasks h

-- a turn that is taken leaves who takes turns
gone_same : (o : Option ℕ) (turns : Turns) → (gone_on_by o turns).tasks ≡ turns.tasks
gone_same None turns = refl
gone_same (Some t) turns = refl

-- those that take turns in Cooperator j, after the turns in k changed
turned_by : (b : Bool) (k j n m : ℕ) (change : Turns → Turns) (o : Option Cooperator) (all : List Cooperator)
    → nat_eq k j ≡ b → slice_get all k ≡ o → (nat_eq k j ≡ false → standing n (taking_at j all) ≤ m)
    → ((turns : Turns) → nat_eq k j ≡ true → turns.tasks ≡ taking_at j all → standing n (change turns).tasks ≤ m)
    → standing n (taking_at j (all_changed k (λ one. record one { turns = change one.turns }) o all)) ≤ m
turned_by true k j n m change None all e g other here =
    let none : slice_get all j ≡ None = ap (slice_get all) (sym (eqb-true k j e)) ∙ g in
    omega (arith, ap (λ (o : Option Cooperator). standing n (taking o)) none)
turned_by false k j n m change None all e g other here = other e
turned_by true k j n m change (Some one) all e g other here =
    let new : Cooperator = record one { turns = change one.turns } in
    let found : slice_get all j ≡ Some one = ap (slice_get all) (sym (eqb-true k j e)) ∙ g in
    let now : slice_get (slice_set all k new) j ≡ Some new =
    get_set all k j one new g ∙ ap {B = Option Cooperator} (λ b. cond b (Some new) (slice_get all j)) e in
    omega (
      arith,
      ap (λ (o : Option Cooperator). standing n (taking o)) now,
      here one.turns e (sym (ap taking found)),
    )
turned_by false k j n m change (Some one) all e g other here =
    let new : Cooperator = record one { turns = change one.turns } in
    let now : slice_get (slice_set all k new) j ≡ slice_get all j =
    get_set all k j one new g ∙ ap {B = Option Cooperator} (λ b. cond b (Some new) (slice_get all j)) e in
    omega (arith, ap (λ (o : Option Cooperator). standing n (taking o)) now, other e)

turned_stands : (k j n m : ℕ) (change : Turns → Turns) (all : List Cooperator)
    → (nat_eq k j ≡ false → standing n (taking_at j all) ≤ m)
    → ((turns : Turns) → nat_eq k j ≡ true → turns.tasks ≡ taking_at j all → standing n (change turns).tasks ≤ m)
    → standing n (taking_at j (turned k change all)) ≤ m
turned_stands k j n m change all other here = turned_by _ k j n m change (slice_get all k) all refl refl other here

-- who takes turns stays, where the turns of each stay
turns_found : (k : ℕ) (all : List Cooperator)
    → taking_at k all ≡ option_map_or (λ (tasks : List ℕ). tasks) (slice_get (all_turns all) k) []
turns_found k [] = refl
turns_found zero (one ∷ all) = refl
turns_found (suc k) (one ∷ all) = turns_found k all

taking_same : (k : ℕ) (all new : List Cooperator) → all_turns new ≡ all_turns all → taking_at k new ≡ taking_at k all
taking_same k all new q =
    turns_found k new
    ∙ ap (λ (l : List (List ℕ)). option_map_or (λ (tasks : List ℕ). tasks) (slice_get l k) []) q
    ∙ sym (turns_found k all)

-- who may stand there after a task was set, or was made
may_cases : (k : ℕ) (b : Bool) (y : Task) (o : Option Task)
    → may_stand k (cond b (Some y) o) ≡ cond b (may_stand k (Some y)) (may_stand k o)
may_cases k true y o = refl
may_cases k false y o = refl

may_set : (k n t : ℕ) (x y : Task) (tasks : List Task) → slice_get tasks t ≡ Some x
    → may_stand_at k n (slice_set tasks t y) ≡ cond (nat_eq t n) (may_stand k (Some y)) (may_stand_at k n tasks)
may_set k n t x y tasks h = rw (get_set tasks t n x y h) (may_cases k (nat_eq t n) y (slice_get tasks n))

same_by : (b : Bool) (k n t : ℕ) (x y : Task) (tasks : List Task) → nat_eq t n ≡ b → slice_get tasks t ≡ Some x
    → may_stand k (Some y) ≡ may_stand k (Some x)
    → cond b (may_stand k (Some y)) (may_stand_at k n tasks) ≡ may_stand_at k n tasks
same_by true k n t x y tasks e h p = rw (← (eqb-true t n e), h) p
same_by false k n t x y tasks e h p = refl

may_same : (k n t : ℕ) (x y : Task) (tasks : List Task) → slice_get tasks t ≡ Some x
    → may_stand k (Some y) ≡ may_stand k (Some x) → may_stand_at k n (slice_set tasks t y) ≡ may_stand_at k n tasks
may_same k n t x y tasks h p = may_set k n t x y tasks h ∙ same_by _ k n t x y tasks refl h p

may_push : (k n : ℕ) (y : Task) (tasks : List Task)
    → may_stand_at k n (tasks ++ y ∷ [])
    ≡ cond (nat_eq n (length tasks)) (may_stand k (Some y)) (may_stand_at k n tasks)
may_push k zero y [] = refl
may_push k (suc n) y [] = rw eqb-suc-zero refl
may_push k zero y (x ∷ tasks) = rw eqb-zero-suc refl
may_push k (suc n) y (x ∷ tasks) = rw eqb-suc-suc (may_push k n y tasks)

may_grow : (k n : ℕ) (y : Task) (tasks : List Task) → may_stand_at k n tasks ≤ may_stand_at k n (tasks ++ y ∷ [])
may_grow k n y [] = omega arith
may_grow k zero y (x ∷ tasks) = omega arith
may_grow k (suc n) y (x ∷ tasks) = may_grow k n y tasks

-- an unended task may stand in its Cooperator, and in no other
here_by : (c : Bool) (k n t : ℕ) (x : Task) (tasks : List Task) → nat_eq n t ≡ c → slice_get tasks t ≡ Some x
    → x.end ≡ None → nat_eq x.of k ≡ true → cond c 1 0 ≤ may_stand_at k n tasks
here_by true k n t x tasks e h p q =
    let found : slice_get tasks n ≡ Some x = ap (slice_get tasks) (eqb-true n t e) ∙ h in
    omega (
      arith,
      ap (may_stand k) found,
      ap {B = ℕ} (λ o. cond (is_none o && nat_eq x.of k) 1 0) p,
      ap {B = ℕ} (λ b. cond b 1 0) q,
    )
here_by false k n t x tasks e h p q = omega arith

elsewhere_by : (a b : Bool) → b ≡ false → cond {A = ℕ} (a && b) 1 0 ≡ 0
elsewhere_by true b h = ap {B = ℕ} (λ c. cond c 1 0) h
elsewhere_by false b h = refl

-- one that takes turns hasn't ended
stands_unended : (k t : ℕ) (x : Task) (tasks : List Task) → slice_get tasks t ≡ Some x → 1 ≤ may_stand_at k t tasks
    → x.end ≡ None
stands_unended k t x tasks h m = unended x.end (subst (λ (o : Option Task). 1 ≤ may_stand k o) h m)
  where
    unended : (o : Option TaskEnd) → 1 ≤ cond (is_none o && nat_eq x.of k) 1 0 → o ≡ None
    unended None z = refl
    unended (Some end) z = absurd (omega (arith, z))

-- 3. What is logged of tasks.

-- tasks of the name were made, and have ended, as is logged; and who takes turns in a Cooperator is in it and hasn't
-- ended, and stands there once
record Tallied (name : List ℕ) (c : Cooperators) (entries : List Entry) : Type 0 where
  made : tasks_made name entries ≡ named name c.tasks
  ended : tasks_ended name entries ≡ over name c.tasks
  turns : Stand c.tasks c.all
  law : EndsOnce name entries

-- one more entry
counted : (name : List ℕ) (e : Entry) (c new : Cooperators) (entries : List Entry) → Tallied name c entries
    → named name new.tasks ≡ named name c.tasks + makes_by name (tasking_of e)
    → over name new.tasks ≡ over name c.tasks + ends_by name (tasking_of e)
    → Stand new.tasks new.all
    → (e ≡ entry.Step name → over name c.tasks < named name c.tasks) → Tallied name new (entries ++ e ∷ [])
counted name e c new entries k m o turns f =
    let made : tasks_made name (entries ++ e ∷ []) ≡ named name new.tasks =
    omega (arith, sum_by_push (λ x. makes_by name (tasking_of x)) entries e, k.made, m) in
    let ended : tasks_ended name (entries ++ e ∷ []) ≡ over name new.tasks =
    omega (arith, sum_by_push (λ x. ends_by name (tasking_of x)) entries e, k.ended, o) in
    record {
      made = made;
      ended = ended;
      turns = turns;
      law = record {
        once =
            places_on (λ told. tasks_ended name told ≤ tasks_made name told) e entries k.law.once
            (omega (arith, made, ended, over_fewer name new.tasks));
        steps =
            entries_on (λ told x. x ≡ entry.Step name → tasks_ended name told < tasks_made name told) e entries
            k.law.steps (λ q. omega (arith, k.made, k.ended, f q));
      };
    }

no_step : (name : List ℕ) (e : Entry) (P : Type 0) → tasking_of e ≡ Untasked → e ≡ entry.Step name → P
no_step name e P a q = let same : StepsTask name ≡ Untasked = ap tasking_of (sym q) ∙ a in absurd cc

-- a task that keeps its name and its end
kept : (name : List ℕ) (e : Entry) (c new : Cooperators) (t : ℕ) (x y : Task) (entries : List Entry)
    → Tallied name c entries → makes_by name (tasking_of e) ≡ 0 → ends_by name (tasking_of e) ≡ 0
    → slice_get c.tasks t ≡ Some x → new.tasks ≡ slice_set c.tasks t y → named_of name y ≡ named_of name x
    → over_of name y ≡ over_of name x
    → Stand new.tasks new.all
    → (e ≡ entry.Step name → over name c.tasks < named name c.tasks) → Tallied name new (entries ++ e ∷ [])
kept name e c new t x y entries k a b g q m o turns f =
    counted name e c new entries k
    (omega (arith, ap (named name) q, set_counts (named_of name) c.tasks t x y g, m, a))
    (omega (arith, ap (over name) q, set_counts (over_of name) c.tasks t x y g, o, b)) turns f

-- who takes turns stays
still_stand : (c new : Cooperators) → new.tasks ≡ c.tasks → all_turns new.all ≡ all_turns c.all → Stand c.tasks c.all
    → Stand new.tasks new.all
still_stand c new p q k = record {
  stand = λ j n. rw (p, taking_same j c.all new.all q) (k.stand j n);
}

of_entry : (name : List ℕ) (e x : Entry) (new : Cooperators) (entries : List Entry) → e ≡ x
    → Tallied name new (entries ++ x ∷ []) → Tallied name new (entries ++ e ∷ [])
of_entry name e x new entries q k = subst (λ y. Tallied name new (entries ++ y ∷ [])) (sym q) k

rests : (name : List ℕ) (e : Entry) (c new : Cooperators) (entries : List Entry) → tasking_of e ≡ Untasked
    → new.tasks ≡ c.tasks → all_turns new.all ≡ all_turns c.all → Tallied name c entries
    → Tallied name new (entries ++ e ∷ [])
rests name e c new entries a p q k =
    counted name e c new entries k (omega (arith, ap (named name) p, ap (makes_by name) a))
    (omega (arith, ap (over name) p, ap (ends_by name) a)) (still_stand c new p q k.turns) (no_step name e _ a)

makes : (name made : List ℕ) (i : ℕ) (bodies : List Body) (e : Entry) (c : Cooperators) (entries : List Entry)
    → tasking_of e ≡ MakesTask made → Tallied name c entries
    → Tallied name (with_new_task i made bodies c) (entries ++ e ∷ [])
makes name made i bodies e c entries a k =
    let x = new_task i made bodies in
    let one : named_of name x ≡ makes_by name (tasking_of e) = sym (ap (makes_by name) a) in
    let none : over_of name x ≡ ends_by name (tasking_of e) = sym (ap (ends_by name) a) in
    counted name e c (with_new_task i made bodies c) entries k
    (sum_by_push (named_of name) c.tasks x ∙ ap (λ m. named name c.tasks + m) one)
    (sum_by_push (over_of name) c.tasks x ∙ ap (λ m. over name c.tasks + m) none)
    (record {
      stand =
          λ j n.
          let m = may_stand_at j n (c.tasks ++ x ∷ []) in
          let old : standing n (taking_at j c.all) ≤ m = omega (arith, k.turns.stand j n, may_grow j n x c.tasks) in
          turned_stands i j n m (joined (length c.tasks)) c.all (λ f. old)
          (λ turns f s. joins n (length c.tasks) m turns (omega (arith, ap (standing n) s, old))
          (omega (
            arith,
            may_push j n x c.tasks,
            new_here (nat_eq n (length c.tasks)) (may_stand j (Some x)) (may_stand_at j n c.tasks)
                (ap {B = ℕ} (λ b. cond b 1 0) f),
          )));
    })
    (λ q. let same : StepsTask name ≡ MakesTask made = ap tasking_of (sym q) ∙ a in absurd cc)
  where
    new_here : (b : Bool) (m old : ℕ) → m ≡ 1 → cond b 1 0 ≤ cond b m old
    new_here true m old h = omega (arith, h)
    new_here false m old h = omega arith

-- the one whose turn it is takes a step, so it hasn't ended
steps : (name : List ℕ) (i t : ℕ) (x : Task) (c : Cooperators) (entries : List Entry)
    → turn_in (slice_get c.all i) ≡ Some t → slice_get c.tasks t ≡ Some x → Tallied name c entries
    → Tallied name (with_step t x c) (entries ++ entry.Step x.name ∷ [])
steps name i t x c entries h g k =
    let y : Task = record x { bodies = drop 1 x.bodies } in
    let unended =
    stands_unended i t x c.tasks g (omega (arith, turn_stands t (slice_get c.all i) h, k.turns.stand i t)) in
    kept name (entry.Step x.name) c (with_step t x c) t x y entries k refl refl g refl refl refl
    (record {
      stand =
          λ j n.
          let m = may_stand_at j n (slice_set c.tasks t y) in
          let old : standing n (taking_at j c.all) ≤ m =
          omega (arith, may_same j n t x y c.tasks g refl, k.turns.stand j n) in
          turned_stands x.of j n m gone_on c.all (λ f. old)
          (λ turns f s. omega (arith, ap (standing n) (gone_same (turn_of turns) turns), ap (standing n) s, old));
    })
    (λ q. unended_fewer name t x c.tasks g unended ((bytes_eq-Decides x.name name).1 (step_is x.name name q)))
  where
    step_is : (a b : List ℕ) → entry.Step a ≡ entry.Step b → a ≡ b
    step_is a b q = cc

ends : (name : List ℕ) (t : ℕ) (end : TaskEnd) (x : Task) (c : Cooperators) (entries : List Entry)
    → slice_get c.tasks t ≡ Some x → x.end ≡ None → Tallied name c entries
    → Tallied name (with_end t end x c) (entries ++ entry.End x.name (result_of x.name end) ∷ [])
ends name t end x c entries g u k =
    let y : Task = record x { end = Some end; waiting = [] } in
    let none : over_of name x ≡ 0 = ap {B = ℕ} (λ o. cond (is_some o && bytes_eq x.name name) 1 0) u in
    counted name (entry.End x.name (result_of x.name end)) c (with_end t end x c) entries k
    (omega (arith, set_counts (named_of name) c.tasks t x y g))
    (omega (arith, set_counts (over_of name) c.tasks t x y g, none))
    (record {
      stand =
          λ j n.
          turned_stands x.of j n (may_stand_at j n (slice_set c.tasks t y)) (left t) c.all
          (λ f. omega (
            arith,
            may_set j n t x y c.tasks g,
            left_elsewhere (nat_eq t n) j n t x c.tasks refl g f,
            k.turns.stand j n,
          ))
          (λ turns f s. omega (
            arith,
            may_set j n t x y c.tasks g,
            left_here (nat_eq t n) n t (standing n turns.tasks) (may_stand_at j n c.tasks) refl
                (omega (arith, ap (standing n) s, k.turns.stand j n)) (may_once j (slice_get c.tasks n)),
            ap (standing n) (left_tasks t turns),
            leaves n t turns.tasks,
          ));
    })
    (λ q. absurd cc)
  where
    -- in another Cooperator it didn't stand before
    left_elsewhere : (b : Bool) (j n t : ℕ) (x : Task) (tasks : List Task) → nat_eq t n ≡ b
        → slice_get tasks t ≡ Some x → nat_eq x.of j ≡ false
        → may_stand_at j n tasks ≤ cond b 0 (may_stand_at j n tasks)
    left_elsewhere true j n t x tasks e h f =
        let found : slice_get tasks n ≡ Some x = ap (slice_get tasks) (sym (eqb-true t n e)) ∙ h in
        omega (arith, ap (may_stand j) found, elsewhere_by (is_none x.end) (nat_eq x.of j) f)
    left_elsewhere false j n t x tasks e h f = omega arith

    -- and in its own it stood once at most
    left_here : (b : Bool) (n t s m : ℕ) → nat_eq t n ≡ b → s ≤ m → m ≤ 1 → s - one_of n t ≤ cond b 0 m
    left_here true n t s m e h o =
        let one : one_of n t ≡ 1 = ap {B = ℕ} (λ b. cond b 1 0) (ap (λ x. nat_eq n x) (eqb-true t n e) ∙ is_itself n) in
        omega (arith, h, o, one)
    left_here false n t s m e h o = omega (arith, h)

pauses : (name : List ℕ) (e : Entry) (t : ℕ) (x : Task) (c : Cooperators) (entries : List Entry)
    → tasking_of e ≡ Untasked → slice_get c.tasks t ≡ Some x → Tallied name c entries
    → Tallied name (with_pause t x c) (entries ++ e ∷ [])
pauses name e t x c entries a g k =
    let y : Task = record x { pauses = x.pauses + 1 } in
    kept name e c (with_pause t x c) t x y entries k (ap (makes_by name) a) (ap (ends_by name) a) g refl refl refl
    (record {
      stand =
          λ j n.
          let m = may_stand_at j n (slice_set c.tasks t y) in
          let old : standing n (taking_at j c.all) ≤ m =
          omega (arith, may_same j n t x y c.tasks g refl, k.turns.stand j n) in
          turned_stands x.of j n m (left t) c.all (λ f. old)
          (λ turns f s. omega (
            arith,
            ap (standing n) (left_tasks t turns),
            leaves n t turns.tasks,
            ap (standing n) s,
            old,
          ));
    })
    (no_step name e _ a)

resumed_by : (b : Bool) (i j n t m : ℕ) (o : Option TaskEnd) (p : Bool) (all : List Cooperator) → (p && is_none o) ≡ b
    → standing n (taking_at j all) ≤ m → (o ≡ None → nat_eq i j ≡ true → one_of n t ≤ m)
    → standing n (taking_at j (if b then turned i (joined t) all else all)) ≤ m
resumed_by true i j n t m None p all q h k =
    turned_stands i j n m (joined t) all (λ f. h)
    (λ turns f s. joins n t m turns (omega (arith, ap (standing n) s, h)) (k refl f))
resumed_by true i j n t m (Some end) true all q h k = absurd cc
resumed_by true i j n t m (Some end) false all q h k = absurd cc
resumed_by false i j n t m o p all q h k = h

resumes : (name : List ℕ) (e : Entry) (t : ℕ) (x : Task) (c : Cooperators) (entries : List Entry)
    → tasking_of e ≡ Untasked → slice_get c.tasks t ≡ Some x → Tallied name c entries
    → Tallied name (with_resume t x c) (entries ++ e ∷ [])
resumes name e t x c entries a g k =
    let y : Task = record x { pauses = x.pauses - 1 } in
    kept name e c (with_resume t x c) t x y entries k (ap (makes_by name) a) (ap (ends_by name) a) g refl refl refl
    (record {
      stand =
          λ j n.
          let same = may_same j n t x y c.tasks g refl in
          resumed_by _ x.of j n t (may_stand_at j n (slice_set c.tasks t y)) x.end (nat_eq x.pauses 1) c.all refl
          (omega (arith, same, k.turns.stand j n))
          (λ u f. omega (arith, same, here_by (nat_eq n t) j n t x c.tasks refl g u f));
    })
    (no_step name e _ a)

awaits : (name : List ℕ) (e : Entry) (t d : ℕ) (x : Task) (c : Cooperators) (entries : List Entry)
    → tasking_of e ≡ Untasked → slice_get c.tasks t ≡ Some x → Tallied name c entries
    → Tallied name (with_waiting t d x c) (entries ++ e ∷ [])
awaits name e t d x c entries a g k =
    let y : Task = record x { waiting = if is_none x.end then x.waiting ++ d ∷ [] else x.waiting } in
    kept name e c (with_waiting t d x c) t x y entries k (ap (makes_by name) a) (ap (ends_by name) a) g refl refl refl
    (record { stand = λ j n. omega (arith, may_same j n t x y c.tasks g refl, k.turns.stand j n) }) (no_step name e _ a)

tasked : (name : List ℕ) (e : Entry) (c new : Cooperators) (entries : List Entry) → Tasks e c new
    → Tallied name c entries → Tallied name new (entries ++ e ∷ [])
tasked name e c new entries (TasksRest other a p q) k = rests name e c other entries a p q k
tasked name e c new entries (TaskMade made bodies q) k =
    makes name made 0 bodies e c entries (ap tasking_of q) k
tasked name e c new entries (TaskMadeIn i made of bodies q) k =
    makes name made i bodies e c entries (ap tasking_of q) k
tasked name e c new entries (TaskSteps i t x h g q) k =
    of_entry name e _ _ entries q (steps name i t x c entries h g k)
tasked name e c new entries (TaskEnds t end x g u q) k =
    of_entry name e _ _ entries q (ends name t end x c entries g u k)
tasked name e c new entries (TaskPaused t x g a) k = pauses name e t x c entries a g k
tasked name e c new entries (TaskResumed t x g a) k = resumes name e t x c entries a g k
tasked name e c new entries (TaskAwaited t d x g a) k = awaits name e t d x c entries a g k

-- if it was so before, it is so after
record Goes (name : List ℕ) (w u : World) : Type 0 where
  goes_on : Tallied name w.objects.cooperators w.journal.entries → Tallied name u.objects.cooperators u.journal.entries

-- an entry of a Deferred
plain : (name : List ℕ) (e : Entry) (w u : World) → tasking_of e ≡ Untasked
    → u.objects.cooperators ≡ w.objects.cooperators → u.journal.entries ≡ w.journal.entries ++ e ∷ [] → Goes name w u
plain name e w u a p q = record {
  goes_on = λ k. rw (p, q) (rests name e w.objects.cooperators w.objects.cooperators w.journal.entries a refl refl k);
}

arranged : (name : List ℕ) (c new : Cooperators) (entries : List Entry) → new.tasks ≡ c.tasks
    → all_turns new.all ≡ all_turns c.all → Tallied name c entries → Tallied name new entries
arranged name c new entries p q k = record {
  made = k.made ∙ ap (named name) (sym p);
  ended = k.ended ∙ ap (over name) (sym p);
  turns = still_stand c new p q k.turns;
  law = k.law;
}

named_same : (name : Option (List ℕ)) (d : ℕ) (objects : Objects)
    → (naming_where name d objects).cooperators ≡ objects.cooperators
named_same None d objects = refl
named_same (Some name) d objects = refl

-- each entry logs it
still : (name : List ℕ) → Still (Goes name)
still name = record {
  stays = λ w. record { goes_on = λ k. k };
  joins = λ u v w p q. record { goes_on = λ k. q.goes_on (p.goes_on k) };
  stops = λ w. record { goes_on = λ k. k };
  news =
      λ given canceller w x.
      plain name (entry.New (length w.records) given) w _ refl (named_same given _ w.objects) refl;
  asides = λ e change w a c l t x. record { goes_on = λ k. tasked name e _ _ w.journal.entries t.tasks k };
  arranges = λ change w s l t. record { goes_on = λ k. arranged name _ _ w.journal.entries t.tasks t.turns k };
  submits = λ d pool work w x. plain name (entry.Job (length w.works) d) w _ refl refl refl;
  refuses = λ d r w x h p q. plain name (entry.Refuse d) w _ refl refl refl;
  swallows = λ d r w x h p. plain name (entry.Swallow d) w _ refl refl refl;
  cancels = λ d w x. plain name (entry.Cancel d) w _ refl refl refl;
  sets_swallows = λ d r w x h f c. plain name (entry.Fire d cancelled) w _ refl refl refl;
  fires = λ d value r w x h f. plain name (entry.Fire d value) w _ refl refl refl;
  adds = λ d pair r w x h. plain name (entry.Add d) w _ refl refl refl;
  pauses = λ d r w x h. plain name (entry.Pause d) w _ refl refl refl;
  unpauses = λ d r w x h p. plain name (entry.Unpause d) w _ refl refl refl;
}

settles : (name : List ℕ) → Settles (Goes name)
settles name = record {
  calm = calm _ (still name);
  drops = λ d r pair rest w h e a s. record { goes_on = λ k. k };
  runs = λ d r pair rest w x h e a s. plain name (entry.Run d) w _ refl refl refl;
  hands = λ d c r rest w x h e a s. plain name (entry.Hand d c r.value) w _ refl refl refl;
  sets = λ d value r w x h p s. plain name (entry.Set d value) w _ refl refl refl;
  waits = λ d e r given w x h i p q s. plain name (entry.Wait d e) w _ refl refl refl;
  takes = λ d e r given w x h i p q s. plain name (entry.Take d e given.value) w _ refl refl refl;
  advances = λ ticks w x s. plain name (entry.Advance _) w _ refl refl refl;
}

-- nobody takes turns at first
nobody_stands : (k n : ℕ) (named : List NamedCooperator) → standing n (taking_at k (map named_cooperator named)) ≤ 0
nobody_stands k n [] = omega arith
nobody_stands zero n (x ∷ named) = omega arith
nobody_stands (suc k) n (x ∷ named) = nobody_stands k n named

first_stand : (settings : Settings) (named : List NamedCooperator)
    → Stand [] (new_cooperators settings named).all
first_stand settings named = record { stand = first }
  where
    first : (k n : ℕ) → standing n (taking_at k (new_cooperators settings named).all) ≤ may_stand_at k n []
    first zero n = omega arith
    first (suc k) n = nobody_stands k n named

-- so it is in a run
world_ends_once : (name : List ℕ) (script : Script) (batches : List Batch) (w : World) → Means script batches w
    → EndsOnce name w.journal.entries
world_ends_once name script batches w m =
    ((means_keeps (Goes name) (settles name) script batches w m).goes_on (record {
      made = refl;
      ended = refl;
      turns = first_stand script.cooperator script.cooperators;
      law = record {
        once = no_places (λ told. tasks_ended name told ≤ tasks_made name told) (omega arith);
        steps = no_entries (λ told x. x ≡ entry.Step name → tasks_ended name told < tasks_made name told);
      };
    })).law

-- and so its report logs it
pub tasks_end_once : TasksEndOnce
tasks_end_once script report r name = reported (EndsOnce name) (world_ends_once name) script report r
