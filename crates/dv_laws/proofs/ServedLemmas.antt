-- A queue serves those that ask in the order in which they ask, and so does a lock: what each entry leaves.
use Rattle.std.proofs.Common.{◌≡◌, ◌⊎◌, inl, inr, ℕ, ◌+◌, ◌≤◌, ◌++◌, true, false, List}
use Rattle.std.proofs.Common.{[], ◌∷◌, None, Some, refl, sym, ap, subst, ◌∙◌, arith, slice_get}
use Rattle.std.proofs.Common.{slice_set}
use Rattle.std.proofs.Common.{cond, sum_by}
use Rattle.std.proofs.lemmas.List.Sums.{sum_by_push}
use Rattle.dv_value.specs.declared.value.Value.{Value}
use Rattle.dv_journal.specs.Journal.{fits, with_entry}
use Rattle.dv_journal.specs.declared.entry.Entry.{Entry}
use Rattle.dv_journal.specs.declared.entry.Entry.TheVariants as entry
use Rattle.dv_store.specs.Fire as firing
use Rattle.dv_store.specs.Fire.{with_firing}
use Rattle.dv_objects.specs.Refusals.{cancelled}
use Rattle.dv_objects.specs.declared.follow.Follow.TheVariants as follow
use Rattle.dv_loop.proofs.Kept.{Kind}
use Rattle.dv_world.specs.World.{World, state_of, with_stop, fire, fired}
use Rattle.dv_world.specs.World.{reached_from}
use Rattle.dv_laws.specs.Granted as granted
use Rattle.dv_laws.specs.Served as served
use Rattle.dv_laws.specs.Served.{Firing, Fired, Refused, IsCancelled, IsTakenOut}
use Rattle.dv_laws.specs.Swallowed.{Reaches}
use Rattle.dv_laws.specs.Stored.{Unqueued, queueing_of, puts_by, gets_by}
use Rattle.dv_laws.specs.Tokens.{Unheld, holding_of, asks_by, releases_by}
use Rattle.dv_laws.proofs.At.{counted_of, at}
use Rattle.dv_laws.proofs.OnceLemmas.{fired_of, marks_of, marked_at}
use Rattle.dv_laws.proofs.ReadBackLemmas.{Reads, ReadsBack, reads}
use Rattle.dv_laws.proofs.ServedLines.{Sought, Values, Tokens, Owner, owners, Shape, IsSettled, IsGiven, giving}
use Rattle.dv_laws.proofs.ServedLines.{leaving, made_in, waiting_in, Next, Leads, goes_next, line_of, named}
use Rattle.dv_laws.proofs.ServedLines.{line_settled, waits_in}
use Rattle.dv_laws.proofs.ServedWaiters.{leaves_of, none_counts, ReachesNone}
use Rattle.dv_laws.proofs.ServedWaiters.{last_is, not_cancelled, fired_already, Alike}
use Rattle.dv_laws.proofs.ServedWaiters.{alike_same, alike_set}
use Rattle.dv_laws.proofs.ServedWaiters.{Waiters, Fewer, fewer_same, waiters_on}
use Rattle.dv_laws.proofs.Steps.{fire_cases, telling_in}
use Rattle.dv_laws.proofs.TokensLemmas.{Sound}

-- 1. What holds of a world: its journal leads to the line of the queue or the lock, where the run goes on.

abbrev pub made_so : Sought → List ℕ → List Entry → ℕ
made_so S name entries = sum_by (λ e. made_in S name e) entries

-- all tokens of a lock are held before anybody waits
abbrev pub AreSound : (S : Sought) → List (Owner S) → Type 0
AreSound Values queues = Unit {0}
AreSound Tokens locks = Sound locks

pub record Served (S : Sought) (name : List ℕ) (w : World) : Type 0 where
  pub back : ReadsBack (state_of w)
  pub made : made_so S name w.journal.entries ≡ named S name (owners S w.objects)
  pub sound : AreSound S (owners S w.objects)
  pub waiters : w.stopped ≡ false → Waiters S (owners S w.objects) w.records w.journal.entries
  pub leads : made_so S name w.journal.entries ≤ 1 → w.stopped ≡ false
      → Leads S name w.journal.entries (line_of S name (owners S w.objects))
  pub some : made_so S name w.journal.entries ≤ 1 → (after : Shape S) × Leads S name w.journal.entries after

-- an entry that isn't of the queue or the lock
abbrev pub IsOther : Sought → List ℕ → Entry → Type 0
IsOther Values name e = (puts_by name (queueing_of e) ≡ 0) × (gets_by name (queueing_of e) ≡ 0)
IsOther Tokens name e =
    (granted.lock_made_by name (holding_of e) ≡ 0) × (asks_by name (holding_of e) ≡ 0)
    × (releases_by name (holding_of e) ≡ 0)

-- it logs nothing of queues, or of locks
abbrev pub IsBeside : Sought → Entry → Type 0
IsBeside Values e = queueing_of e ≡ Unqueued
IsBeside Tokens e = holding_of e ≡ Unheld

pub beside_other : (S : Sought) (name : List ℕ) (e : Entry) → IsBeside S e → IsOther S name e
beside_other Values name e h = (ap (puts_by name) h, ap (gets_by name) h)
beside_other Tokens name e h = (ap (granted.lock_made_by name) h, ap (asks_by name) h, ap (releases_by name) h)

pub beside_made : (S : Sought) (name : List ℕ) (e : Entry) → IsBeside S e → made_in S name e ≡ 0
beside_made Values name e h = ap (served.made_by name) h
beside_made Tokens name e h = ap (granted.lock_made_by name) h

-- it leaves the queue or the lock
pub rests_next : (S : Sought) (name : List ℕ) (told : List Entry) (l : Shape S) (e : Entry) → IsSettled S l
    → IsOther S name e → ((d : ℕ) → IsTakenOut d (waiting_in S l) told e → ⊥) → Next S name told l e l
rests_next Values name told l e g a t =
    let same : served.line l.stored l.waiting None ≡ l = ap (λ o. served.line l.stored l.waiting o) (sym g) in
    subst (λ x. served.Next name told x e x) same (served.Rests l.stored l.waiting e a.0 a.1 t)
rests_next Tokens name told l e g a t =
    let same : granted.tokens l.all l.free l.waiting None ≡ l =
    ap (λ o. granted.tokens l.all l.free l.waiting o) (sym g) in
    subst (λ x. granted.Next name told x e x) same (granted.Rests l.all l.free l.waiting e a.0 a.1 a.2 t)

-- who was given something is fired with it
pub fires_next : (S : Sought) (name : List ℕ) (d : ℕ) (value : Value) (told : List Entry) (l : Shape S) (e : Entry)
    → IsSettled S l → IsGiven S name value → Firing d value e → Next S name told (giving S d value l) e l
fires_next Values name d value told l e g i f =
    let same : served.line l.stored l.waiting None ≡ l = ap (λ o. served.line l.stored l.waiting o) (sym g) in
    subst (λ x. served.Next name told (served.line l.stored l.waiting (Some (d, value))) e x) same
    (served.Fires l.stored l.waiting d value e f)
fires_next Tokens name d value told l e g i f =
    let same : granted.tokens l.all l.free l.waiting None ≡ l =
    ap (λ o. granted.tokens l.all l.free l.waiting o) (sym g) in
    subst (λ x. granted.Next name told (granted.tokens l.all l.free l.waiting (Some d)) e x) same
    (granted.Fires l.all l.free l.waiting d e (subst (λ v. Firing d v e) i f))

-- who waits and is cancelled leaves
pub leaves_next : (S : Sought) (name : List ℕ) (d : ℕ) (told : List Entry) (l : Shape S) (e : Entry) → IsSettled S l
    → IsTakenOut d (waiting_in S l) told e → Next S name told l e (leaving S d l)
leaves_next Values name d told l e g t =
    let same : served.line l.stored l.waiting None ≡ l = ap (λ o. served.line l.stored l.waiting o) (sym g) in
    subst (λ x. served.Next name told x e (leaving Values d l)) same (served.Leaves l.stored l.waiting d e t)
leaves_next Tokens name d told l e g t =
    let same : granted.tokens l.all l.free l.waiting None ≡ l =
    ap (λ o. granted.tokens l.all l.free l.waiting o) (sym g) in
    subst (λ x. granted.Next name told x e (leaving Tokens d l)) same (granted.Leaves l.all l.free l.waiting d e t)

-- how an entry logs what queues or locks then are there, as far as their number of a name counts
pub record Counts (S : Sought) (name : List ℕ) (e : Entry) (old new : List (Owner S)) : Type 0 where
  pub counted : named S name new ≡ named S name old + made_in S name e

-- after one more entry
module _ (S : Sought) (name : List ℕ) (e : Entry) (w u : World) (s : w.stopped ≡ false)
    (q : u.journal.entries ≡ w.journal.entries ++ e ∷ []) (k : Served S name w) where
  pub made_on : Counts S name e (owners S w.objects) (owners S u.objects)
      → made_so S name u.journal.entries ≡ named S name (owners S u.objects)
  made_on n = omega (
    arith,
    ap (made_so S name) q,
    sum_by_push (λ x. made_in S name x) w.journal.entries e,
    k.made,
    n.counted,
  )

  pub made_before : made_so S name u.journal.entries ≤ 1 → made_so S name w.journal.entries ≤ 1
  made_before c = omega (
    arith,
    c,
    ap (made_so S name) q,
    sum_by_push (λ x. made_in S name x) w.journal.entries e,
  )

  -- where the entry may come next
  pub served_next : Counts S name e (owners S w.objects) (owners S u.objects) → Reads (state_of w) (state_of u)
      → AreSound S (owners S u.objects)
      → (u.stopped ≡ false → Waiters S (owners S u.objects) u.records u.journal.entries)
      → (named S name (owners S u.objects) ≤ 1
      → Next S name w.journal.entries (line_of S name (owners S w.objects)) e (line_of S name (owners S u.objects)))
      → Served S name u
  served_next n r f x next =
      let leads : made_so S name u.journal.entries ≤ 1
      → Leads S name u.journal.entries (line_of S name (owners S u.objects)) =
      λ c. subst (λ told. Leads S name told (line_of S name (owners S u.objects))) (sym q)
      (goes_next S name w.journal.entries e (line_of S name (owners S w.objects))
      (line_of S name (owners S u.objects)) (k.leads (made_before c) s) (next (omega (arith, c, made_on n)))) in
      record {
        back = r.goes_on k.back;
        made = made_on n;
        sound = f;
        waiters = x;
        leads = λ c t. leads c;
        some = λ c. (line_of S name (owners S u.objects), leads c);
      }

  -- where it leaves them
  pub served_rest : IsOther S name e → Counts S name e (owners S w.objects) (owners S u.objects)
      → line_of S name (owners S u.objects) ≡ line_of S name (owners S w.objects)
      → AreSound S (owners S u.objects) → Fewer S (owners S w.objects) (owners S u.objects)
      → Reads (state_of w) (state_of u) → Alike w.records u.records
      → ((j d : ℕ) → at (leaves_of S j) d w.records ≡ 1 → IsCancelled d (w.journal.entries ++ e ∷ [])
      → at fired_of d u.records ≡ 1)
      → ((d : ℕ) → IsTakenOut d (waiting_in S (line_of S name (owners S w.objects))) w.journal.entries e → ⊥)
      → Served S name u
  served_rest a n l i f r m c t =
      served_next n r i (λ x. subst (λ told. Waiters S (owners S u.objects) u.records told) (sym q)
      (waiters_on S (owners S w.objects) (owners S u.objects) w.records u.records w.journal.entries e f m c
      (k.waiters s)))
      (λ x. subst (λ y. Next S name w.journal.entries (line_of S name (owners S w.objects)) e y) (sym l)
      (rests_next S name w.journal.entries (line_of S name (owners S w.objects)) e
      (line_settled S name (owners S w.objects)) a t))

-- an entry that logs nothing of them, by which no Deferred is cancelled or fired
pub plain : (S : Sought) (name : List ℕ) (e : Entry) (w u : World) → w.stopped ≡ false
    → u.journal.entries ≡ w.journal.entries ++ e ∷ [] → owners S u.objects ≡ owners S w.objects
    → IsBeside S e → ((of : ℕ) → e ≡ entry.Cancel of → ⊥)
    → ((d : ℕ) → IsTakenOut d (waiting_in S (line_of S name (owners S w.objects))) w.journal.entries e → ⊥)
    → Reads (state_of w) (state_of u) → Alike w.records u.records → Served S name w → Served S name u
plain S name e w u s q p a n t r m k =
    served_rest S name e w u s q k (beside_other S name e a)
    (record { counted = omega (arith, ap (named S name) p, beside_made S name e a) }) (ap (line_of S name) p)
    (subst (λ (l : List (Owner S)). AreSound S l) (sym p) k.sound)
    (fewer_same S (owners S w.objects) (owners S u.objects) p) r m
    (λ j d i c. absurd (not_cancelled d w.journal.entries e n c)) t

-- a firing of one that is unfired isn't that of one that waits and was cancelled
fire_is : (d n : ℕ) (value : Value) → entry.Fire d value ≡ entry.Fire n cancelled → n ≡ d
fire_is d n value q = cc

pub not_taken : (S : Sought) (name : List ℕ) (d : ℕ) (value : Value) (r : Kind) (w : World) → w.stopped ≡ false
    → slice_get w.records d ≡ Some r → r.fired ≡ false → Served S name w → (n : ℕ)
    → IsTakenOut n (waiting_in S (line_of S name (owners S w.objects))) w.journal.entries (entry.Fire d value) → ⊥
not_taken S name d value r w s g f k n t =
    let there = waits_in S name n (owners S w.objects) t.waits in
    let x = (k.waiters s).each there.number n there.owner there.found there.waits in
    absurd (omega (
      arith,
      x.fired t.cancelled_now,
      ap (λ y. at fired_of y w.records) (fire_is d n value t.fires),
      ap (counted_of fired_of) g,
      ap {B = ℕ} (λ b. cond b 1 0) f,
    ))

pub beside : (S : Sought) (e : Entry) → (queueing_of e ≡ Unqueued) × (holding_of e ≡ Unheld) → IsBeside S e
beside Values e h = h.0
beside Tokens e h = h.1

-- a cancel that reaches nobody that waits
pub cancel_served : (S : Sought) (name : List ℕ) (of : ℕ) (w : World) → w.stopped ≡ false
    → fits w.journal (entry.Cancel of) ≡ true → ReachesNone S (reached_from of w.records) → Served S name w
    → Served S name (record w { journal = with_entry w.journal (entry.Cancel of) })
cancel_served S name of w s x m k =
    let u : World = record w { journal = with_entry w.journal (entry.Cancel of) } in
    let e = entry.Cancel of in
    let a : IsBeside S e = beside S e (refl, refl) in
    served_rest S name e w u s refl k (beside_other S name e a)
    (record { counted = omega (arith, beside_made S name e a) }) refl k.sound
    (fewer_same S (owners S w.objects) (owners S w.objects) refl) (reads.cancels of (state_of w) x)
    (alike_same w.records)
    (λ j d i c.
    let last = cancel_is w.journal.entries of d c in
    fired_already w.records w.journal.entries k.back S of d j i last m)
    (λ d t. let wrong : entry.Cancel of ≡ entry.Fire d cancelled = t.fires in absurd cc)
  where
    cancels_same : (n of : ℕ) → entry.Cancel of ≡ entry.Cancel n → n ≡ of
    cancels_same n of q = cc

    cancel_is : (told : List Entry) (of d : ℕ) → IsCancelled d (told ++ entry.Cancel of ∷ []) → Reaches of d told
    cancel_is told of d c =
        let found = last_is told c.before (entry.Cancel of) (entry.Cancel c.of) c.last in
        let same : c.of ≡ of = cancels_same c.of of found.1 in
        subst (λ l. Reaches of d l) (sym found.0) (subst (λ n. Reaches n d c.before) same c.reaches)

-- 2. Who is given something, and is to be fired with it.

-- what was logged leads to the line, or to that in which d was given it just now
pub record Shown (S : Sought) (name : List ℕ) (d : ℕ) (value : Value) (told : List Entry) (l : Shape S) : Type 0 where
  pub shown : Shape S
  pub same : (shown ≡ l) ⊎ ((shown ≡ giving S d value l) × IsGiven S name value)
  pub leads : Leads S name told shown

pub record Pending (S : Sought) (name : List ℕ) (d : ℕ) (value : Value) (w : World) : Type 0 where
  pub back : ReadsBack (state_of w)
  pub made : made_so S name w.journal.entries ≡ named S name (owners S w.objects)
  pub sound : AreSound S (owners S w.objects)
  pub waiters : Waiters S (owners S w.objects) w.records w.journal.entries
  pub number : ℕ
  pub leaves : at (leaves_of S number) d w.records ≡ 1
  pub fresh : marked_at d w.records ≡ 0
  pub last : (n : ℕ) → IsCancelled n w.journal.entries → ⊥
  pub given : made_so S name w.journal.entries ≤ 1
      → Shown S name d value w.journal.entries (line_of S name (owners S w.objects))

-- the entry by which it is fired, or that is refused
firing_next : (S : Sought) (name : List ℕ) (d : ℕ) (value : Value) (told : List Entry) (l shown : Shape S) (e : Entry)
    → IsSettled S l → Firing d value e → IsBeside S e → ((n : ℕ) → IsCancelled n told → ⊥)
    → (shown ≡ l) ⊎ ((shown ≡ giving S d value l) × IsGiven S name value) → Next S name told shown e l
firing_next S name d value told l shown e g f a n (inl p) =
    subst (λ x. Next S name told x e l) (sym p)
    (rests_next S name told l e g (beside_other S name e a) (λ m t. n m t.cancelled_now))
firing_next S name d value told l shown e g f a n (inr p) =
    subst (λ x. Next S name told x e l) (sym p.0) (fires_next S name d value told l e g p.1 f)

fired_served : (S : Sought) (name : List ℕ) (d : ℕ) (value : Value) (e : Entry) (w u : World) → Firing d value e
    → IsBeside S e → ((of : ℕ) → e ≡ entry.Cancel of → ⊥)
    → u.journal.entries ≡ w.journal.entries ++ e ∷ [] → owners S u.objects ≡ owners S w.objects
    → Reads (state_of w) (state_of u) → Alike w.records u.records → Pending S name d value w → Served S name u
fired_served S name d value e w u f a n q p r m k =
    let count : made_so S name u.journal.entries ≡ made_so S name w.journal.entries =
    omega (
      arith,
      ap (made_so S name) q,
      sum_by_push (λ x. made_in S name x) w.journal.entries e,
      beside_made S name e a,
    ) in
    let leads : made_so S name u.journal.entries ≤ 1
    → Leads S name u.journal.entries (line_of S name (owners S u.objects)) =
    λ c. subst (λ told. Leads S name told (line_of S name (owners S u.objects))) (sym q)
    (subst (λ (l : List (Owner S)). Leads S name (w.journal.entries ++ e ∷ []) (line_of S name l)) (sym p)
    (let x = k.given (omega (arith, c, count)) in
    goes_next S name w.journal.entries e x.shown (line_of S name (owners S w.objects)) x.leads
    (firing_next S name d value w.journal.entries (line_of S name (owners S w.objects)) x.shown e
    (line_settled S name (owners S w.objects)) f a k.last x.same))) in
    record {
      back = r.goes_on k.back;
      made = count ∙ k.made ∙ ap (named S name) (sym p);
      sound = subst (λ (l : List (Owner S)). AreSound S l) (sym p) k.sound;
      waiters = λ t.
          subst (λ told. Waiters S (owners S u.objects) u.records told) (sym q)
          (waiters_on S (owners S w.objects) (owners S u.objects) w.records u.records w.journal.entries e
          (fewer_same S (owners S w.objects) (owners S u.objects) p) m
          (λ j x i c. absurd (not_cancelled x w.journal.entries e n c)) k.waiters);
      leads = λ c t. leads c;
      some = λ c. (line_of S name (owners S u.objects), leads c);
    }

stopped_served : (S : Sought) (name : List ℕ) (d : ℕ) (value : Value) (w : World) → Pending S name d value w
    → Served S name (with_stop w)
stopped_served S name d value w k = record {
  back = k.back;
  made = k.made;
  sound = k.sound;
  waiters = λ t. absurd cc;
  leads = λ c t. absurd cc;
  some = λ c. let x = k.given c in (x.shown, x.leads);
}

-- in a run that goes on, a firing is logged, or doesn't fit
pub fire_goes : (d : ℕ) (value : Value) (w : World) → w.stopped ≡ false
    → (fire d value w).1
    ≡ (let t = firing.fire d value (state_of w) in (fired t.0 t.1 w).1)
unfolding fire
fire_goes d value w s = ap (λ b. (cond b (follow.Nothing, w)
    (let t = firing.fire d value (state_of w) in fired t.0 t.1 w)).1) s

pub marked_not : (d : ℕ) (r : Kind) (w : World) → slice_get w.records d ≡ Some r → r.swallows ≡ true
    → marked_at d w.records ≡ 0 → ⊥
marked_not d r w g h z = absurd (omega (arith, z, ap (counted_of marks_of) g, ap {B = ℕ} (λ b. cond b 1 0) h))

pub pending_fired : (S : Sought) (name : List ℕ) (d : ℕ) (value : Value) (w : World) → w.stopped ≡ false
    → Pending S name d value w → Served S name (fire d value w).1
pending_fired S name d value w s k =
    subst (λ u. Served S name u) (sym (fire_goes d value w s))
    (fire_cases w (λ answer t. Served S name (fired answer t w).1) (stopped_served S name d value w k) d value _ refl
    (λ g. absurd (none_counts (leaves_of S k.number) d w.records g k.leaves))
    (λ r x g h. absurd (marked_not d r w g h k.fresh))
    (λ r x g p h. fired_served S name d value (entry.Refuse d) w (telling_in (entry.Refuse d) w.records w) Refused
    (beside S _ (refl, refl)) (λ of c. absurd cc) refl refl (reads.refuses d r (state_of w) x g p)
    (alike_same w.records) k)
    (λ r x g p. fired_served S name d value (entry.Fire d value) w
    (telling_in (entry.Fire d value) (slice_set w.records d (with_firing value r)) w) Fired
    (beside S _ (refl, refl)) (λ of c. absurd cc) refl
    refl (reads.fires d value r (state_of w) x g p) (alike_set d r (with_firing value r) w.records g refl refl) k))
