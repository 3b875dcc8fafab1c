-- The turns of a loop are at whole intervals after its start.
use Rattle.std.proofs.Common.{◌≡◌, ℕ, zero, suc, ◌+◌, ◌≤◌, ◌++◌, min, Bool, true, false, nat_eq, List, [], ◌∷◌, Option}
use Rattle.std.proofs.Common.{Some, refl, sym, ap, subst, ◌∙◌, arith, slice_get, slice_set, cond, length, sum_by}
use Rattle.std.specs.Prelude.{bytes_eq}
use Rattle.std.proofs.lemmas.List.Sums.{sum_by_push, sum_by-set, sum_by-cons, sum_by-append}
use Rattle.std.proofs.lemmas.Option.{none-some, slice_get_within, get_or_from_slice_get}
use Rattle.std.proofs.lemmas.Slice.Eq.{bytes_eq-Decides}
use Rattle.dv_clock.specs.Clock.{Clock}
use Rattle.dv_clock.specs.LoopingCall.{IsNextTurn, loop_next}
use Rattle.dv_clock.specs.declared.limits.TheConstants.{MOST_TICKS}
use Rattle.dv_clock.proofs.LoopLemmas.{next_is_first}
use Rattle.dv_journal.specs.Told.{Ticking}
use Rattle.dv_journal.specs.declared.entry.Entry.{Entry}
use Rattle.dv_journal.specs.declared.entry.Entry.TheVariants as entry
use Rattle.dv_objects.specs.Looping.{new_loop, next_due}
use Rattle.dv_objects.specs.Refusals.{cancelled}
use Rattle.dv_objects.specs.declared.looping_call.LoopingCall.{LoopingCall}
use Rattle.dv_posts.specs.Batches.{Batch}
use Rattle.dv_loop.specs.Meaning.{Means}
use Rattle.dv_script.specs.declared.body.Body.{Body}
use Rattle.dv_script.specs.declared.script.Script.{Script}
use Rattle.dv_world.specs.World.{World}
use Rattle.dv_laws.specs.Calls.{time_by}
use Rattle.dv_laws.specs.Loops.{Unlooped, SchedulesTurn, looping_of, starts_by, starts, StartedOnce, TurnsAt}
use Rattle.dv_laws.specs.Loops.{TurnsAtIntervals, LoopsTurnAtIntervals}
use Rattle.dv_laws.proofs.At.{entries_on, no_entries}
use Rattle.dv_laws.proofs.Beside.{Loops, LoopsRest, LoopStarts, LoopTurns, LoopsKept, SameLoops, LoopSet}
use Rattle.dv_laws.proofs.Calm.{Regular}
use Rattle.dv_laws.proofs.CallsLemmas.{Timely, clocks_tell, arranged, advanced, first_timely, named_same, named_loops}
use Rattle.dv_laws.proofs.TimesLemmas.{clocks_same, arranged_same}
use Rattle.dv_laws.proofs.Clocks.{IsPlain, Clocks, Leaves, Arranges}
use Rattle.dv_laws.proofs.ReadBackLemmas.{get_set}
use Rattle.dv_laws.proofs.Still.{Still, calm}
use Rattle.dv_laws.proofs.Settles.{Settles, means_keeps, reported}

-- 1. Loops of a name.

abbrev named_of : List ℕ → LoopingCall → ℕ
named_of name x = cond (bytes_eq x.name name) 1 0

abbrev named : List ℕ → List LoopingCall → ℕ
named name loops = sum_by (named_of name) loops

set_counts : (f : LoopingCall → ℕ) (loops : List LoopingCall) (l : ℕ) (x y : LoopingCall) → slice_get loops l ≡ Some x
    → sum_by f (slice_set loops l y) + f x ≡ sum_by f loops + f y
set_counts f loops l x y h =
    omega (arith, sum_by-set f loops l y x (slice_get_within loops l x h), ap f (get_or_from_slice_get loops l x x h))

-- one that is found counts
found_named : (name : List ℕ) (l : ℕ) (x : LoopingCall) (loops : List LoopingCall) → slice_get loops l ≡ Some x
    → bytes_eq x.name name ≡ true → 1 ≤ named name loops
found_named name l x [] h b = absurd cc
found_named name zero x (y ∷ loops) h b =
    let same : y ≡ x = cc in
    let one : named_of name y ≡ 1 = ap (named_of name) same ∙ ap {B = ℕ} (λ c. cond c 1 0) b in
    omega (arith, sum_by-cons (named_of name) y loops, one)
found_named name (suc l) x (y ∷ loops) h b =
    omega (arith, sum_by-cons (named_of name) y loops, found_named name l x loops h b)

-- what holds of all, holds of all where one is set, or is added
set_by : (P : LoopingCall → Type 0) (b : Bool) (y z : LoopingCall) (o : Option LoopingCall) → P y → (o ≡ Some z → P z)
    → cond b (Some y) o ≡ Some z → P z
set_by P true y z o h k q = let same : y ≡ z = cc in subst P same h
set_by P false y z o h k q = k q

all_set : (P : LoopingCall → Type 0) (l : ℕ) (x y : LoopingCall) (loops : List LoopingCall) → slice_get loops l ≡ Some x
    → P y → ((n : ℕ) (z : LoopingCall) → slice_get loops n ≡ Some z → P z) → (n : ℕ) (z : LoopingCall)
    → slice_get (slice_set loops l y) n ≡ Some z → P z
all_set P l x y loops h p k n z q =
    set_by P (nat_eq l n) y z (slice_get loops n) p (k n z) (sym (get_set loops l n x y h) ∙ q)

all_pushed : (P : LoopingCall → Type 0) (n : ℕ) (y z : LoopingCall) (loops : List LoopingCall) → P y
    → ((l : ℕ) (x : LoopingCall) → slice_get loops l ≡ Some x → P x) → slice_get (loops ++ y ∷ []) n ≡ Some z → P z
all_pushed P zero y z [] h k q = let same : y ≡ z = cc in subst P same h
all_pushed P (suc n) y z [] h k q = absurd cc
all_pushed P zero y z (c ∷ loops) h k q = k 0 z q
all_pushed P (suc n) y z (c ∷ loops) h k q = all_pushed P n y z loops h (λ l x r. k (suc l) x r) q

-- 2. What is logged of loops.

-- where x stands in a list with one more item at its end, it is that item, or it stands before it
split_at : {X : Type 0} (Q : Type 0) (x last : X) (xs before later : List X) → xs ++ last ∷ [] ≡ before ++ x ∷ later
    → (last ≡ x → xs ≡ before → Q) → ((ls : List X) → xs ≡ before ++ x ∷ ls → Q) → Q
split_at Q x last [] [] later q h k = let same : last ≡ x = cc in h same (refl {a = []})
split_at Q x last [] (b ∷ []) later q h k = absurd cc
split_at Q x last [] (b ∷ c ∷ bs) later q h k = absurd cc
split_at Q x last (y ∷ ys) [] later q h k =
    let e : y ≡ x = cc in
    let rest : ys ++ last ∷ [] ≡ later = cc in
    k ys (ap (λ z. z ∷ ys) e)
split_at Q x last (y ∷ ys) (b ∷ bs) later q h k =
    let e : y ≡ b = cc in
    let rest : ys ++ last ∷ [] ≡ bs ++ x ∷ later = cc in
    split_at Q x last ys bs later rest (λ p r. h p (ap (λ c. c ∷ ys) e ∙ ap (λ l. b ∷ l) r))
    (λ ls r. k ls (ap (λ c. c ∷ ys) e ∙ ap (λ l. b ∷ l) r))

-- one that was started before an entry that starts none of the name
not_started : (name : List ℕ) (d : ℕ) (e : Entry) → starts_by name (looping_of e) ≡ 0 → e ≡ entry.Loop name d → ⊥
not_started name d e z q =
    let one : starts_by name (looping_of (entry.Loop name d)) ≡ 1 =
    ap {B = ℕ} (λ b. cond b 1 0) ((bytes_eq-Decides name name).1 refl) in
    absurd (omega (arith, z, one, ap (λ x. starts_by name (looping_of x)) q))

started_before : (name : List ℕ) (start : ℕ) (e : Entry) (entries : List Entry) → starts_by name (looping_of e) ≡ 0
    → StartedOnce name start (entries ++ e ∷ []) → StartedOnce name start entries
started_before name start e entries z s =
    split_at (StartedOnce name start entries) (entry.Loop name s.d) e entries s.before s.later s.among
    (λ p q. absurd (not_started name s.d e z p))
    (λ ls q. record {
      once = omega (arith, s.once, sum_by_push (λ x. starts_by name (looping_of x)) entries e, z);
      d = s.d;
      before = s.before;
      later = ls;
      among = q;
      at = s.at;
    })

-- none of the name was started, so the one that is started now is the one
started_now : (name : List ℕ) (start d : ℕ) (entries : List Entry) → starts name entries ≡ 0
    → StartedOnce name start (entries ++ entry.Loop name d ∷ []) → start ≡ time_by entries
started_now name start d entries z s =
    split_at (start ≡ time_by entries) (entry.Loop name s.d) (entry.Loop name d) entries s.before s.later s.among
    (λ p q. s.at ∙ ap time_by (sym q))
    (λ ls q.
    let one : starts_by name (looping_of (entry.Loop name s.d)) ≡ 1 =
    ap {B = ℕ} (λ b. cond b 1 0) ((bytes_eq-Decides name name).1 refl) in
    let f : Entry → ℕ = λ x. starts_by name (looping_of x) in
    absurd (omega (
      arith,
      z,
      ap (λ l. sum_by f l) q,
      sum_by-append f s.before (entry.Loop name s.d ∷ ls),
      sum_by-cons f (entry.Loop name s.d) ls,
      one,
    )))

-- where none of the name was started so far, nothing is said of its turns
none_yet : (name : List ℕ) (interval : ℕ) (entries : List Entry) → starts name entries ≡ 0
    → TurnsAt name interval entries
none_yet name interval entries z = record {
  next = λ before x later q due start p s.
      let f : Entry → ℕ = λ y. starts_by name (looping_of y) in
      absurd (omega (arith, z, ap (λ l. sum_by f l) q, sum_by-append f before (x ∷ later), s.once));
}

-- the loops of the name, where one was started, have this interval, and the start that was logged
record Fits (name : List ℕ) (interval : ℕ) (entries : List Entry) (x : LoopingCall) : Type 0 where
  same : bytes_eq x.name name ≡ true → x.interval ≡ interval
  begun : bytes_eq x.name name ≡ true → (start : ℕ) → StartedOnce name start entries → x.start ≡ start

record Looped (name : List ℕ) (c : Clock) (loops : List LoopingCall) (entries : List Entry) : Type 0 where
  timely : Timely Ticking c entries
  within : c.time ≤ MOST_TICKS
  made : starts name entries ≡ named name loops
  past : (l : ℕ) (x : LoopingCall) → slice_get loops l ≡ Some x → x.start ≤ c.time
  interval : ℕ
  some : 1 ≤ interval
  fits : starts name entries ≡ 1 → (l : ℕ) (x : LoopingCall) → slice_get loops l ≡ Some x → Fits name interval entries x
  turns : TurnsAt name interval entries

-- a loop that keeps its name, its start and its interval
fits_on : (name : List ℕ) (interval : ℕ) (e : Entry) (entries : List Entry) (x y : LoopingCall)
    → starts_by name (looping_of e) ≡ 0 → y.name ≡ x.name → y.start ≡ x.start → y.interval ≡ x.interval
    → Fits name interval entries x → Fits name interval (entries ++ e ∷ []) y
fits_on name interval e entries x y z n s i f =
    let was : bytes_eq y.name name ≡ true → bytes_eq x.name name ≡ true = λ b. ap (λ m. bytes_eq m name) (sym n) ∙ b in
    record {
      same = λ b. i ∙ f.same (was b);
      begun = λ b start st. s ∙ f.begun (was b) start (started_before name start e entries z st);
    }

-- 3. Entries that start no loop.

-- a loop is one that was there before
record Was (old : List LoopingCall) (y : LoopingCall) : Type 0 where
  place : ℕ
  was : LoopingCall
  found : slice_get old place ≡ Some was
  name : y.name ≡ was.name
  start : y.start ≡ was.start
  interval : y.interval ≡ was.interval

record Follows (name : List ℕ) (old new : List LoopingCall) : Type 0 where
  count : named name new ≡ named name old
  each : (n : ℕ) (y : LoopingCall) → slice_get new n ≡ Some y → Was old y

was_itself : (old : List LoopingCall) (n : ℕ) (x : LoopingCall) → slice_get old n ≡ Some x → Was old x
was_itself old n x h = record { place = n; was = x; found = h; name = refl; start = refl; interval = refl }

follows_set : (name : List ℕ) (l : ℕ) (x y : LoopingCall) (old : List LoopingCall) → slice_get old l ≡ Some x
    → y.name ≡ x.name → y.start ≡ x.start → y.interval ≡ x.interval → Follows name old (slice_set old l y)
follows_set name l x y old h n s i = record {
  count = omega (arith, set_counts (named_of name) old l x y h, ap {B = ℕ} (λ m. cond (bytes_eq m name) 1 0) n);
  each =
      all_set (Was old) l x y old h (record { place = l; was = x; found = h; name = n; start = s; interval = i })
      (was_itself old);
}

follows : (name : List ℕ) (old new : List LoopingCall) → LoopsKept old new → Follows name old new
follows name old new (SameLoops other p) = record {
  count = ap (named name) p;
  each = λ n y q. was_itself old n y (ap (λ loops. slice_get loops n) (sym p) ∙ q);
}
follows name old new (LoopSet l x y h n s i) = follows_set name l x y old h n s i

goes : (name : List ℕ) (e : Entry) (c d : Clock) (old new : List LoopingCall) (entries : List Entry)
    → starts_by name (looping_of e) ≡ 0 → c.time ≤ d.time → d.time ≤ MOST_TICKS → Timely Ticking d (entries ++ e ∷ [])
    → Follows name old new → (k : Looped name c old entries)
    → ((due start : ℕ) → e ≡ entry.LaterLoop name due → StartedOnce name start entries
    → IsNextTurn start k.interval (time_by entries) due) → Looped name d new (entries ++ e ∷ [])
goes name e c d old new entries z later within t f k law =
    let same : starts name (entries ++ e ∷ []) ≡ starts name entries =
    omega (arith, sum_by_push (λ x. starts_by name (looping_of x)) entries e, z) in
    record {
      timely = t;
      within = within;
      made = omega (arith, same, k.made, f.count);
      past =
          λ n y q. let from = f.each n y q in omega (arith, from.start, k.past from.place from.was from.found, later);
      interval = k.interval;
      some = k.some;
      fits =
          λ one n y q. let from = f.each n y q in fits_on name k.interval e entries from.was y z from.name from.start
          from.interval (k.fits (sym same ∙ one) from.place from.was from.found);
      turns =
          entries_on (λ told x. (due start : ℕ) → x ≡ entry.LaterLoop name due → StartedOnce name start told
          → IsNextTurn start k.interval (time_by told) due) e entries k.turns law;
    }

no_turn : (name : List ℕ) (due : ℕ) (e : Entry) (P : Type 0) → looping_of e ≡ Unlooped → e ≡ entry.LaterLoop name due
    → P
no_turn name due e P a q = let same : SchedulesTurn name due ≡ Unlooped = ap looping_of (sym q) ∙ a in absurd cc

next_same : (a b c d e f g h : ℕ) → a ≡ e → b ≡ f → c ≡ g → d ≡ h → IsNextTurn a b c d → IsNextTurn e f g h
next_same a b c d e f g h p q r s k =
    subst (λ x. IsNextTurn e f g x) s
    (subst (λ x. IsNextTurn e f x d) r (subst (λ x. IsNextTurn e x c d) q (subst (λ x. IsNextTurn x b c d) p k)))

later_name : (x name : List ℕ) (due next : ℕ) → entry.LaterLoop x next ≡ entry.LaterLoop name due → x ≡ name
later_name x name due next q = cc

later_due : (x name : List ℕ) (due next : ℕ) → entry.LaterLoop x next ≡ entry.LaterLoop name due → next ≡ due
later_due x name due next q = cc

turn_is : (name : List ℕ) (l : ℕ) (x : LoopingCall) (c : Clock) (old : List LoopingCall) (entries : List Entry)
    → slice_get old l ≡ Some x → (k : Looped name c old entries) → (due start : ℕ)
    → entry.LaterLoop x.name (next_due x c) ≡ entry.LaterLoop name due → StartedOnce name start entries
    → IsNextTurn start k.interval (time_by entries) due
turn_is name l x c old entries h k due start q s =
    let fit = k.fits s.once l x h in
    let b : bytes_eq x.name name ≡ true =
    (bytes_eq-Decides x.name name).1 (later_name x.name name due (next_due x c) q) in
    let interval : x.interval ≡ k.interval = fit.same b in
    let past : min x.start c.time ≡ x.start = omega (arith, k.past l x h) in
    let next = next_is_first x.start x.interval c.time (k.past l x h) (omega (arith, interval, k.some)) in
    next_same x.start x.interval c.time (loop_next x.start x.interval c.time) start k.interval (time_by entries) due
    (fit.begun b start s) interval (sym k.timely.time)
    (ap (λ y. loop_next y x.interval c.time) (sym past) ∙ later_due x.name name due (next_due x c) q) next

-- 4. Entries that start one.

no_later : (name made : List ℕ) (d due : ℕ) (P : Type 0) → entry.Loop made d ≡ entry.LaterLoop name due → P
no_later name made d due P q = absurd cc

other_starts : (name made : List ℕ) (d interval : ℕ) (body : Body) (bodies : List Body) (c u : Clock)
    (old : List LoopingCall)
    (entries : List Entry) → bytes_eq made name ≡ false → u.time ≡ c.time
    → Timely Ticking u (entries ++ entry.Loop made d ∷ []) → Looped name c old entries
    → Looped name u (old ++ new_loop made d c.time interval body bodies ∷ []) (entries ++ entry.Loop made d ∷ [])
other_starts name made d interval body bodies c u old entries b same t k =
    let e = entry.Loop made d in
    let y = new_loop made d c.time interval body bodies in
    let none : cond {A = ℕ} (bytes_eq made name) 1 0 ≡ 0 = ap {B = ℕ} (λ x. cond x 1 0) b in
    let other : bytes_eq made name ≡ true → ⊥ = λ h. let wrong : false ≡ true = sym b ∙ h in absurd cc in
    let count : starts name (entries ++ e ∷ []) ≡ starts name entries =
    omega (arith, sum_by_push (λ x. starts_by name (looping_of x)) entries e, none) in
    record {
      timely = t;
      within = omega (arith, same, k.within);
      made = omega (arith, count, k.made, sum_by_push (named_of name) old y, none);
      past =
          λ n z q. all_pushed (λ x. x.start ≤ u.time) n y z old (omega (arith, same))
          (λ l x r. omega (arith, same, k.past l x r)) q;
      interval = k.interval;
      some = k.some;
      fits = λ one n z q.
          all_pushed (Fits name k.interval (entries ++ e ∷ [])) n y z old (record {
            same = λ h. absurd (other h);
            begun = λ h. absurd (other h);
          }) (λ l x r. fits_on name k.interval e entries x x none refl refl refl (k.fits (sym count ∙ one) l x r)) q;
      turns =
          entries_on (λ told x. (due start : ℕ) → x ≡ entry.LaterLoop name due → StartedOnce name start told
          → IsNextTurn start k.interval (time_by told) due) e entries k.turns
          (λ due start q s. no_later name made d due _ q);
    }

own_starts : (name : List ℕ) (n d interval : ℕ) (body : Body) (bodies : List Body) (c u : Clock)
    (old : List LoopingCall)
    (entries : List Entry) → starts name entries ≡ n → u.time ≡ c.time
    → Timely Ticking u (entries ++ entry.Loop name d ∷ []) → Looped name c old entries
    → Looped name u (old ++ new_loop name d c.time interval body bodies ∷ []) (entries ++ entry.Loop name d ∷ [])
own_starts name zero d interval body bodies c u old entries z same t k =
    let e = entry.Loop name d in
    let y = new_loop name d c.time interval body bodies in
    let one : cond {A = ℕ} (bytes_eq name name) 1 0 ≡ 1 =
    ap {B = ℕ} (λ x. cond x 1 0) ((bytes_eq-Decides name name).1 refl) in
    record {
      timely = t;
      within = omega (arith, same, k.within);
      made = omega (
        arith,
        sum_by_push (λ x. starts_by name (looping_of x)) entries e,
        k.made,
        sum_by_push (named_of name) old y,
      );
      past =
          λ n z q. all_pushed (λ x. x.start ≤ u.time) n y z old (omega (arith, same))
          (λ l x r. omega (arith, same, k.past l x r)) q;
      interval = y.interval;
      some = omega arith;
      fits = λ first n x q.
          all_pushed (Fits name y.interval (entries ++ e ∷ [])) n y x old
          (record { same = λ h. refl; begun = λ h start s. sym (started_now name start d entries z s ∙ k.timely.time) })
          (λ l w r. record {
            same = λ h. absurd (omega (arith, found_named name l w old r h, k.made, z));
            begun = λ h. absurd (omega (arith, found_named name l w old r h, k.made, z));
          }) q;
      turns =
          entries_on (λ told x. (due start : ℕ) → x ≡ entry.LaterLoop name due → StartedOnce name start told
          → IsNextTurn start y.interval (time_by told) due) e entries (none_yet name y.interval entries z)
          (λ due start q s. no_later name name d due _ q);
    }
own_starts name (suc n) d interval body bodies c u old entries z same t k =
    let e = entry.Loop name d in
    let y = new_loop name d c.time interval body bodies in
    let one : cond {A = ℕ} (bytes_eq name name) 1 0 ≡ 1 =
    ap {B = ℕ} (λ x. cond x 1 0) ((bytes_eq-Decides name name).1 refl) in
    let more = sum_by_push (λ x. starts_by name (looping_of x)) entries e in
    record {
      timely = t;
      within = omega (arith, same, k.within);
      made = omega (arith, more, k.made, sum_by_push (named_of name) old y);
      past =
          λ n z q. all_pushed (λ x. x.start ≤ u.time) n y z old (omega (arith, same))
          (λ l x r. omega (arith, same, k.past l x r)) q;
      interval = k.interval;
      some = k.some;
      fits = λ first. absurd (omega (arith, first, more, one, z));
      turns =
          entries_on (λ told x. (due start : ℕ) → x ≡ entry.LaterLoop name due → StartedOnce name start told
          → IsNextTurn start k.interval (time_by told) due) e entries k.turns
          (λ due start q s. no_later name name d due _ q);
    }

starts_one : (b : Bool) (name made : List ℕ) (d interval : ℕ) (body : Body) (bodies : List Body) (c u : Clock)
    (old : List LoopingCall)
    (entries : List Entry) → bytes_eq made name ≡ b → u.time ≡ c.time
    → Timely Ticking u (entries ++ entry.Loop made d ∷ []) → Looped name c old entries
    → Looped name u (old ++ new_loop made d c.time interval body bodies ∷ []) (entries ++ entry.Loop made d ∷ [])
starts_one true name made d interval body bodies c u old entries b same t k =
    let is : name ≡ made = sym ((bytes_eq-Decides made name).0 b) in
    subst (λ m. Timely Ticking u (entries ++ entry.Loop m d ∷ [])
    → Looped name u (old ++ new_loop m d c.time interval body bodies ∷ []) (entries ++ entry.Loop m d ∷ [])) is
    (λ x. own_starts name _ d interval body bodies c u old entries refl same x k) t
starts_one false name made d interval body bodies c u old entries b same t k =
    other_starts name made d interval body bodies c u old entries b same t k

-- 5. Runs.

looped : (name : List ℕ) (e : Entry) (c d : Clock) (old new : List LoopingCall) (entries : List Entry) → Clocks e c d
    → Loops e c old new → Looped name c old entries → Looped name d new (entries ++ e ∷ [])
looped name e c d old new entries h (LoopsRest other a f) k =
    let same = clocks_same e c d h in
    goes name e c d old other entries (ap (starts_by name) a) (omega (arith, same)) (omega (arith, same, k.within))
    (clocks_tell Ticking e c d entries h k.timely) (follows name old other f) k
    (λ due start q s. no_turn name due e _ a q)
looped name e c d old new entries h (LoopStarts made n interval body bodies q) k =
    let same = clocks_same e c d h in
    let t : Timely Ticking d (entries ++ entry.Loop made n ∷ []) =
    subst (λ x. Timely Ticking d (entries ++ x ∷ [])) q (clocks_tell Ticking e c d entries h k.timely) in
    subst (λ x. Looped name d (old ++ new_loop made n c.time interval body bodies ∷ []) (entries ++ x ∷ [])) (sym q)
    (starts_one _ name made n interval body bodies c d old entries refl same t k)
looped name e c d old new entries h (LoopTurns l x y g n s i q) k =
    let same = clocks_same e c d h in
    goes name e c d old (slice_set old l y) entries (ap (λ z. starts_by name (looping_of z)) q) (omega (arith, same))
    (omega (arith, same, k.within)) (clocks_tell Ticking e c d entries h k.timely)
    (follows_set name l x y old g n s i) k
    (λ due start r st. turn_is name l x c old entries g k due start (sym q ∙ r) st)

record Goes (name : List ℕ) (w u : World) : Type 0 where
  loops : Regular w.objects.loops → Regular u.objects.loops
  goes_on : Regular w.objects.loops → Looped name w.objects.clock w.objects.loops w.journal.entries
      → Looped name u.objects.clock u.objects.loops u.journal.entries

-- what isn't logged
kept : (name : List ℕ) (c d : Clock) (old new : List LoopingCall) (entries : List Entry) → Arranges c d
    → LoopsKept old new → Looped name c old entries → Looped name d new entries
kept name c d old new entries a l k =
    let same = arranged_same c d a in
    let f = follows name old new l in
    record {
      timely = arranged Ticking c d entries a k.timely;
      within = omega (arith, same, k.within);
      made = omega (arith, k.made, f.count);
      past = λ n y q. let from = f.each n y q in omega (arith, from.start, k.past from.place from.was from.found, same);
      interval = k.interval;
      some = k.some;
      fits = λ one n y q.
          let from = f.each n y q in
          let fit = k.fits one from.place from.was from.found in
          let was : bytes_eq y.name name ≡ true → bytes_eq from.was.name name ≡ true =
          λ b. ap (λ m. bytes_eq m name) (sym from.name) ∙ b in
          record {
            same = λ b. from.interval ∙ fit.same (was b);
            begun = λ b start s. from.start ∙ fit.begun (was b) start s;
          };
      turns = k.turns;
    }

plain : (name : List ℕ) (e : Entry) (w u : World) → IsPlain e → looping_of e ≡ Unlooped
    → u.objects.clock ≡ w.objects.clock → u.objects.loops ≡ w.objects.loops
    → u.journal.entries ≡ w.journal.entries ++ e ∷ [] → Goes name w u
plain name e w u p a s l q = record {
  loops = λ r. rw l r;
  goes_on =
      λ r k. rw (s, l, q) (looped name e w.objects.clock w.objects.clock w.objects.loops w.objects.loops
      w.journal.entries (Leaves p) (LoopsRest w.objects.loops a (SameLoops w.objects.loops refl)) k);
}

still : (name : List ℕ) → Still (Goes name)
still name = record {
  stays = λ w. record { loops = λ r. r; goes_on = λ r k. k };
  joins =
      λ u v w p q. record { loops = λ r. q.loops (p.loops r); goes_on = λ r k. q.goes_on (p.loops r) (p.goes_on r k) };
  stops = λ w. record { loops = λ r. r; goes_on = λ r k. k };
  news =
      λ given canceller w x. plain name (entry.New (length w.records) given) w _ (refl, refl, refl) refl
      (named_same given _ w.objects) (named_loops given _ w.objects) refl;
  asides = λ e change w a c l b x. record {
    loops = l;
    goes_on = λ r k. looped name e _ _ _ _ w.journal.entries (c r) b.loops k;
  };
  arranges = λ change w s l b. record { loops = l; goes_on = λ r k. kept name _ _ _ _ w.journal.entries s b.loops k };
  submits = λ d pool work w x. plain name (entry.Job (length w.works) d) w _ (refl, refl, refl) refl refl refl refl;
  refuses = λ d r w x h p q. plain name (entry.Refuse d) w _ (refl, refl, refl) refl refl refl refl;
  swallows = λ d r w x h p. plain name (entry.Swallow d) w _ (refl, refl, refl) refl refl refl refl;
  cancels = λ d w x. plain name (entry.Cancel d) w _ (refl, refl, refl) refl refl refl refl;
  sets_swallows = λ d r w x h f c. plain name (entry.Fire d cancelled) w _ (refl, refl, refl) refl refl refl refl;
  fires = λ d value r w x h f. plain name (entry.Fire d value) w _ (refl, refl, refl) refl refl refl refl;
  adds = λ d pair r w x h. plain name (entry.Add d) w _ (refl, refl, refl) refl refl refl refl;
  pauses = λ d r w x h. plain name (entry.Pause d) w _ (refl, refl, refl) refl refl refl refl;
  unpauses = λ d r w x h p. plain name (entry.Unpause d) w _ (refl, refl, refl) refl refl refl refl;
}

-- time goes on
passes : (name : List ℕ) (ticks : ℕ) (c : Clock) (loops : List LoopingCall) (entries : List Entry)
    → Looped name c loops entries → (let time = min (c.time + ticks) MOST_TICKS in
    Looped name (record c { time = time }) loops (entries ++ entry.Advance time ∷ []))
passes name ticks c loops entries k =
    let time = min (c.time + ticks) MOST_TICKS in
    goes name (entry.Advance time) c (record c { time = time }) loops loops entries refl (omega (arith, k.within))
    (omega arith) (advanced Ticking c time entries k.timely) (follows name loops loops (SameLoops loops refl)) k
    (λ due start q s. no_turn name due (entry.Advance time) _ refl q)

settles : (name : List ℕ) → Settles (Goes name)
settles name = record {
  calm = calm _ (still name);
  drops = λ d r pair rest w h e a s. record { loops = λ r. r; goes_on = λ r k. k };
  runs = λ d r pair rest w x h e a s. plain name (entry.Run d) w _ (refl, refl, refl) refl refl refl refl;
  hands = λ d c r rest w x h e a s. plain name (entry.Hand d c r.value) w _ (refl, refl, refl) refl refl refl refl;
  sets = λ d value r w x h p s. plain name (entry.Set d value) w _ (refl, refl, refl) refl refl refl refl;
  waits = λ d e r given w x h i p q s. plain name (entry.Wait d e) w _ (refl, refl, refl) refl refl refl refl;
  takes =
      λ d e r given w x h i p q s. plain name (entry.Take d e given.value) w _ (refl, refl, refl) refl refl refl refl;
  advances = λ ticks w x s. record {
    loops = λ r. r;
    goes_on = λ r k. passes name ticks w.objects.clock w.objects.loops w.journal.entries k;
  };
}

world_turns : (name : List ℕ) (script : Script) (batches : List Batch) (w : World) → Means script batches w
    → TurnsAtIntervals name w.journal.entries
world_turns name script batches w m =
    let all = (means_keeps (Goes name) (settles name) script batches w m).goes_on
    (record { each = λ l x h. absurd (none-some x h) }) (record {
      timely = first_timely Ticking _ refl refl;
      within = omega arith;
      made = refl;
      past = λ l x h. absurd (none-some x h);
      interval = 1;
      some = omega arith;
      fits = λ one l x h. absurd (none-some x h);
      turns =
          no_entries (λ told x. (due start : ℕ) → x ≡ entry.LaterLoop name due → StartedOnce name start told
          → IsNextTurn start 1 (time_by told) due);
    }) in
    record { interval = all.interval; some = all.some; turns = all.turns }

-- and so its report logs it
pub loops_turn : LoopsTurnAtIntervals
loops_turn script report r name = reported (TurnsAtIntervals name) (world_turns name) script report r
