-- A queue serves those that ask in the order in which they ask, and so does a lock: one that a cancel reaches while it
-- waits leaves.
use Rattle.std.proofs.Common.{◌≡◌, ℕ, ◌≤◌, ◌++◌, Bool, true, false, List, [], ◌∷◌, Option, None, Some, Ok}
use Rattle.std.proofs.Common.{Err, refl, sym, ap, subst, ◌∙◌, arith, slice_get, slice_set, cond}
use Rattle.std.specs.Prelude.{bytes_eq}
use Rattle.std.proofs.lemmas.List.Sums.{sum_by_push}
use Rattle.dv_value.specs.declared.value.Value.{Value}
use Rattle.dv_journal.specs.Journal.{fits, with_entry}
use Rattle.dv_journal.specs.declared.entry.Entry.{Entry}
use Rattle.dv_journal.specs.declared.entry.Entry.TheVariants as entry
use Rattle.dv_journal.specs.declared.error.Fault.TheVariants as fault
use Rattle.dv_store.specs.Fire as firing
use Rattle.dv_store.specs.Fire.{with_firing}
use Rattle.dv_store.specs.declared.store.Fired.TheVariants.{Set}
use Rattle.dv_objects.specs.Objects.{Objects, queue_changed, lock_changed}
use Rattle.dv_objects.specs.Pair.{Pair}
use Rattle.dv_objects.specs.Refusals.{cancelled}
use Rattle.dv_objects.specs.declared.canceller.Canceller.{Canceller}
use Rattle.dv_objects.specs.declared.reached.Reached.{Reached}
use Rattle.dv_objects.specs.declared.reached.Reached.TheVariants as reached
use Rattle.dv_prims.specs.Queue.{Queue, withdrawn}
use Rattle.dv_prims.specs.Tokens.{Semaphore, is_waiting, without, forgotten}
use Rattle.dv_loop.proofs.Kept.{Kind}
use Rattle.dv_world.specs.World.{World, Records, state_of, with_stop, fire, fired, cancel, withdraw, forget, arrange}
use Rattle.dv_world.specs.World.{reached_from}
use Rattle.dv_laws.specs.Granted as granted
use Rattle.dv_laws.specs.Served as served
use Rattle.dv_laws.specs.Served.{IsCancelled}
use Rattle.dv_laws.proofs.ReadBackLemmas.{ReadsBack, reads}
use Rattle.dv_laws.proofs.ServedLemmas.{Served, AreSound, beside, beside_other, beside_made, made_so}
use Rattle.dv_laws.proofs.ServedLemmas.{rests_next, leaves_next, fire_goes}
use Rattle.dv_laws.proofs.ServedLines.{Sought, Values, Tokens, Owner, owners, called, waiting_at, Shape, own}
use Rattle.dv_laws.proofs.ServedLines.{waiting_in}
use Rattle.dv_laws.proofs.ServedLines.{IsSettled, leaving, made_in, Next, Leads, own_settled, goes_next}
use Rattle.dv_laws.proofs.ServedLines.{without_absent, still_waiting, line_of, named, named_set, line_own, line_set}
use Rattle.dv_laws.proofs.ServedLines.{line_same, line_settled, waits_in}
use Rattle.dv_laws.proofs.ServedWaiters.{reaching, WaiterReached, not_nothing, waiter_reached, same_owner}
use Rattle.dv_laws.proofs.ServedWaiters.{not_cancelled, ends_reaches, alike_set, Waiters, Fewer, fewer_same, fewer_set}
use Rattle.dv_laws.proofs.Steps.{telling_in}
use Rattle.dv_laws.proofs.TokensLemmas.{sound_set, forgotten_gives}

-- 1. One is left by d.

abbrev left_at : (S : Sought) → ℕ → Owner S → Owner S
left_at Values d q = withdrawn d q
left_at Tokens d s = forgotten d s

abbrev left_in : (S : Sought) → ℕ → ℕ → Option (Owner S) → List (Owner S) → List (Owner S)
left_in S k d None all = all
left_in S k d (Some p) all = slice_set all k (left_at S d p)

abbrev pub left_objects : Sought → ℕ → ℕ → Objects → Objects
left_objects Values k d objects = queue_changed k (withdrawn d) (slice_get objects.queues k) objects
left_objects Tokens l d objects = lock_changed l (forgotten d) (slice_get objects.semaphores l) objects

abbrev pub leave : Sought → ℕ → ℕ → World → World
leave Values k d w = withdraw k d w
leave Tokens l d w = forget l d w

left_called : (S : Sought) (d : ℕ) (p : Owner S) → called S (left_at S d p) ≡ called S p
left_called Values d q = refl
left_called Tokens d s = refl

left_waiting : (S : Sought) (d : ℕ) (p : Owner S) → waiting_at S (left_at S d p) ≡ without d (waiting_at S p)
left_waiting Values d q = refl
left_waiting Tokens d s = refl

own_left : (S : Sought) (d : ℕ) (p : Owner S) → own S (left_at S d p) ≡ leaving S d (own S p)
own_left Values d q = refl
own_left Tokens d s = refl

left_queues : (k d : ℕ) (o : Option Queue) (objects : Objects)
    → (queue_changed k (withdrawn d) o objects).queues ≡ left_in Values k d o objects.queues
left_queues k d None objects = refl
left_queues k d (Some q) objects = refl

left_locks : (l d : ℕ) (o : Option Semaphore) (objects : Objects)
    → (lock_changed l (forgotten d) o objects).semaphores ≡ left_in Tokens l d o objects.semaphores
left_locks l d None objects = refl
left_locks l d (Some s) objects = refl

left_owners : (S : Sought) (k d : ℕ) (objects : Objects)
    → owners S (left_objects S k d objects) ≡ left_in S k d (slice_get (owners S objects) k) (owners S objects)
left_owners Values k d objects = left_queues k d (slice_get objects.queues k) objects
left_owners Tokens l d objects = left_locks l d (slice_get objects.semaphores l) objects

left_sound : (S : Sought) (k d : ℕ) (o : Option (Owner S)) (all : List (Owner S)) → slice_get all k ≡ o
    → AreSound S all → AreSound S (left_in S k d o all)
left_sound Values k d o all g f = tt
left_sound Tokens l d None all g f = f
left_sound Tokens l d (Some s) all g f = sound_set l s (forgotten d s) all g (forgotten_gives d s (f.each l s g)) f

-- a line in which d doesn't wait stays
leaving_absent : (S : Sought) (d : ℕ) (l : Shape S) → IsSettled S l → is_waiting d (waiting_in S l) ≡ false
    → leaving S d l ≡ l
leaving_absent Values d l g h =
    ap (λ ws. served.line l.stored ws None) (without_absent d l.waiting h)
    ∙ ap (λ o. served.line l.stored l.waiting o) (sym g)
leaving_absent Tokens d l g h =
    ap (λ ws. granted.tokens l.all l.free ws None) (without_absent d l.waiting h)
    ∙ ap (λ o. granted.tokens l.all l.free l.waiting o) (sym g)

-- 2. The line without d.

record Left (S : Sought) (name : List ℕ) (d : ℕ) (old new : List (Owner S)) : Type 0 where
  fewer : Fewer S old new
  counted : named S name new ≡ named S name old
  sound : AreSound S new
  taken : named S name old ≤ 1 → is_waiting d (waiting_in S (line_of S name old)) ≡ true
      → line_of S name new ≡ leaving S d (line_of S name old)
  stays : named S name old ≤ 1 → is_waiting d (waiting_in S (line_of S name old)) ≡ false
      → line_of S name new ≡ line_of S name old

module _ (S : Sought) (name : List ℕ) (of d k : ℕ) (all : List (Owner S)) (rs : Records) (told : List Entry)
    (r : WaiterReached S of d k rs) (w : Waiters S all rs told) (f : AreSound S all) where
  -- who waits in the line waits for something of the queue or the lock k
  waits_there : is_waiting d (waiting_in S (line_of S name all)) ≡ true
      → (o : Owner S) × (slice_get all k ≡ Some o) × (bytes_eq (called S o) name ≡ true)
  waits_there h =
      let f = waits_in S name d all h in
      let same = same_owner S of d f.number k rs r (w.each f.number d f.owner f.found f.waits).leaves in
      (f.owner, ap (λ n. slice_get all n) (sym same) ∙ f.found, f.named_so)

  taken_by : (b : Bool) (p : Owner S) → slice_get all k ≡ Some p → bytes_eq (called S p) name ≡ b
      → named S name all ≤ 1 → is_waiting d (waiting_in S (line_of S name all)) ≡ true
      → line_of S name (slice_set all k (left_at S d p)) ≡ leaving S d (line_of S name all)
  taken_by true p g b c h =
      line_set S name k p (left_at S d p) all g b (left_called S d p) c ∙ own_left S d p
      ∙ ap (leaving S d) (sym (line_own S name k p all g b c))
  taken_by false p g b c h =
      let f = waits_there h in
      let same : f.0 ≡ p = owner_is f.0 p (sym f.1 ∙ g) in
      let wrong : true ≡ false = sym f.2 ∙ ap (λ (o : Owner S). bytes_eq (called S o) name) same ∙ b in
      absurd cc
    where
      owner_is : (o p : Owner S) → Some o ≡ Some p → o ≡ p
      owner_is o p e = cc

  left_by : (b : Bool) (p : Owner S) → slice_get all k ≡ Some p → bytes_eq (called S p) name ≡ b
      → named S name all ≤ 1 → is_waiting d (waiting_in S (line_of S name all)) ≡ false
      → line_of S name (slice_set all k (left_at S d p)) ≡ line_of S name all
  left_by true p g b c h =
      let here = line_own S name k p all g b c in
      let none : is_waiting d (waiting_in S (own S p)) ≡ false =
      sym (ap (λ (l : Shape S). is_waiting d (waiting_in S l)) here) ∙ h in
      line_set S name k p (left_at S d p) all g b (left_called S d p) c ∙ own_left S d p
      ∙ leaving_absent S d (own S p) (own_settled S p) none ∙ sym here
  left_by false p g b c h = line_same S name k p (left_at S d p) all g b (left_called S d p)

  left_all : (o : Option (Owner S)) → slice_get all k ≡ o → Left S name d all (left_in S k d o all)
  left_all None g = record {
    fewer = fewer_same S all all refl;
    counted = refl;
    sound = f;
    taken = λ c h. let f = waits_there h in let wrong : Some f.0 ≡ None = sym f.1 ∙ g in absurd cc;
    stays = λ c h. refl;
  }
  left_all (Some p) g = record {
    fewer =
        fewer_set S k p (left_at S d p) all g
        (λ n h. still_waiting d n (waiting_at S p) (ap (is_waiting n) (sym (left_waiting S d p)) ∙ h));
    counted = named_set S name all k p (left_at S d p) g (left_called S d p);
    sound = left_sound S k d (Some p) all g f;
    taken = λ c h. taken_by _ p g refl c h;
    stays = λ c h. left_by _ p g refl c h;
  }

-- 3. The cancel, and the firing after it.

-- whom a cancel reaches, where the run goes on and the cancel fits
told_waiter : (S : Sought) (b c : Bool) (d k : ℕ) (r : Reached) (w u v : World)
    → (cond {A = Reached × World} b (reached.Nothing, w) (cond {A = Reached × World} c (r, u) (reached.Nothing, v))).0
    ≡ reaching S d k → (b ≡ false) × (c ≡ true) × (r ≡ reaching S d k)
told_waiter S true c d k r w u v e = absurd (not_nothing S d k e)
told_waiter S false true d k r w u v e = (refl, refl, e)
told_waiter S false false d k r w u v e = absurd (not_nothing S d k e)

cancel_parts : (S : Sought) (of d k : ℕ) (w : World) → (cancel of w).0 ≡ reaching S d k
    → (w.stopped ≡ false) × (fits w.journal (entry.Cancel of) ≡ true)
    × (reached_from of w.records ≡ reaching S d k)
unfolding cancel
cancel_parts S of d k w e =
    told_waiter S w.stopped (fits w.journal (entry.Cancel of)) d k (reached_from of w.records) w _ _ e

told_world : (b c : Bool) (r : Reached) (w u v : World) → b ≡ false → c ≡ true
    → (cond {A = Reached × World} b (reached.Nothing, w) (cond {A = Reached × World} c (r, u) (reached.Nothing, v))).1
    ≡ u
told_world true c r w u v p q = absurd cc
told_world false true r w u v p q = refl
told_world false false r w u v p q = absurd cc

pub cancel_goes : (of : ℕ) (w : World) → w.stopped ≡ false → fits w.journal (entry.Cancel of) ≡ true
    → (cancel of w).1 ≡ record w { journal = with_entry w.journal (entry.Cancel of) }
unfolding cancel
cancel_goes of w s x =
    told_world w.stopped (fits w.journal (entry.Cancel of)) (reached_from of w.records) w _ _ s x

leave_goes : (S : Sought) (k d : ℕ) (w : World) → w.stopped ≡ false
    → leave S k d w ≡ record w { objects = left_objects S k d w.objects }
unfolding arrange
leave_goes Values k d w s = ap (λ b. cond b w (record w { objects = left_objects Values k d w.objects })) s
leave_goes Tokens l d w s = ap (λ b. cond b w (record w { objects = left_objects Tokens l d w.objects })) s

-- an unfired Deferred is fired, or that doesn't fit
module _ (P : World → Type 0) (d : ℕ) (value : Value) (r : Kind) (w : World) (stop : P (with_stop w))
    (fires : fits w.journal (entry.Fire d value) ≡ true
    → P (telling_in (entry.Fire d value) (slice_set w.records d (with_firing value r)) w)) where
  first_fits : (b : Bool) → fits w.journal (entry.Fire d value) ≡ b
      → (let t = cond {A = firing.Firing Pair Canceller} b (
        Ok Set,
        (slice_set w.records d (with_firing value r), with_entry w.journal (entry.Fire d value)),
      ) (Err fault.Limit, state_of w) in P (fired t.0 t.1 w).1)
  first_fits true x = fires x
  first_fits false x = stop

  first_by : (b : Bool) → b ≡ false
      → (let t = cond {A = firing.Firing Pair Canceller} b (firing.fire_again d r (state_of w)) (firing.telling_firing
      (entry.Fire d value) (Ok Set) (slice_set w.records d (with_firing value r)) (state_of w)) in
      P (fired t.0 t.1 w).1)
  first_by true f = absurd cc
  first_by false f = first_fits _ refl

  first_found : (o : Option Kind) → Some r ≡ o → r.fired ≡ false
      → (let t = firing.fire_found d value o (state_of w) in P (fired t.0 t.1 w).1)
  first_found o g f =
      subst (λ o. (let t = firing.fire_found d value o (state_of w) in P (fired t.0 t.1 w).1)) g (first_by r.fired f)

  fire_unfired : w.stopped ≡ false → slice_get w.records d ≡ Some r → r.fired ≡ false → P (fire d value w).1
  fire_unfired s g f = subst P (sym (fire_goes d value w s)) (first_found (slice_get w.records d) (sym g) f)

-- what both entries make of the line
left_next : (S : Sought) (b : Bool) (name : List ℕ) (d : ℕ) (told : List Entry) (l after : Shape S)
    → is_waiting d (waiting_in S l) ≡ b → IsSettled S l → IsCancelled d told
    → (is_waiting d (waiting_in S l) ≡ true → after ≡ leaving S d l)
    → (is_waiting d (waiting_in S l) ≡ false → after ≡ l) → Next S name told l (entry.Fire d cancelled) after
left_next S true name d told l after e g c h i =
    subst (λ x. Next S name told l (entry.Fire d cancelled) x) (sym (h e))
    (leaves_next S name d told l (entry.Fire d cancelled) g (record { waits = e; cancelled_now = c; fires = refl }))
left_next S false name d told l after e g c h i =
    subst (λ x. Next S name told l (entry.Fire d cancelled) x) (sym (i e))
    (rests_next S name told l (entry.Fire d cancelled) g (beside_other S name _ (beside S _ (refl, refl))) (λ n t.
    let is_d : n ≡ d = fire_is n t.fires in
    let wrong : true ≡ false = sym t.waits ∙ ap (λ x. is_waiting x (waiting_in S l)) is_d ∙ e in
    absurd cc))
  where
    fire_is : (n : ℕ) → entry.Fire d cancelled ≡ entry.Fire n cancelled → n ≡ d
    fire_is n q = cc

module _ (S : Sought) (name : List ℕ) (of d k : ℕ) (w : World) (s : w.stopped ≡ false)
    (x : fits w.journal (entry.Cancel of) ≡ true) (e : reached_from of w.records ≡ reaching S d k)
    (k_served : Served S name w) where
  abbrev told : List Entry
  told = w.journal.entries ++ entry.Cancel of ∷ []

  abbrev all : List (Owner S)
  all = owners S w.objects

  abbrev left : List (Owner S)
  left = owners S (left_objects S k d w.objects)

  abbrev left_world : World
  left_world = record w {
    objects = left_objects S k d w.objects;
    journal = with_entry w.journal (entry.Cancel of);
  }

  whom : WaiterReached S of d k w.records
  whom = waiter_reached S of w.records d k e

  cancelled_back : ReadsBack (state_of left_world)
  cancelled_back = (reads.cancels of (state_of w) x).goes_on k_served.back

  departure : Left S name d all left
  departure =
      subst (λ (l : List (Owner S)). Left S name d all l) (sym (left_owners S k d w.objects))
      (left_all S name of d k all w.records w.journal.entries whom (k_served.waiters s) k_served.sound
      (slice_get all k) refl)

  count_told : made_so S name told ≡ named S name all
  count_told = omega (
    arith,
    sum_by_push (λ y. made_in S name y) w.journal.entries (entry.Cancel of),
    beside_made S name (entry.Cancel of) (beside S _ (refl, refl)),
    k_served.made,
  )

  leads_told : made_so S name told ≤ 1 → Leads S name told (line_of S name all)
  leads_told c =
      let before : made_so S name w.journal.entries ≤ 1 = omega (arith, c, count_told, k_served.made) in
      goes_next S name w.journal.entries (entry.Cancel of) (line_of S name all) (line_of S name all)
      (k_served.leads before s) (rests_next S name w.journal.entries (line_of S name all) (entry.Cancel of)
      (line_settled S name all) (beside_other S name _ (beside S _ (refl, refl)))
      (λ n t. let wrong : entry.Cancel of ≡ entry.Fire n cancelled = t.fires in absurd cc))

  stopped_after : Served S name (with_stop left_world)
  stopped_after = record {
    back = cancelled_back;
    made = count_told ∙ sym departure.counted;
    sound = departure.sound;
    waiters = λ t. absurd cc;
    leads = λ c t. absurd cc;
    some = λ c. (line_of S name all, leads_told c);
  }

  fired_after : (r : Kind) → slice_get w.records d ≡ Some r → r.fired ≡ false
      → fits left_world.journal (entry.Fire d cancelled) ≡ true
      → Served S name (telling_in (entry.Fire d cancelled) (slice_set w.records d (with_firing cancelled r)) left_world)
  fired_after r g f y =
      let last = entry.Fire d cancelled in
      let alike = alike_set d r (with_firing cancelled r) w.records g refl refl in
      let count : made_so S name (told ++ last ∷ []) ≡ named S name all =
      omega (
        arith,
        sum_by_push (λ y. made_in S name y) told last,
        beside_made S name last (beside S _ (refl, refl)),
        count_told,
      ) in
      let came : IsCancelled d told = record {
        of = of;
        before = w.journal.entries;
        last = refl;
        reaches = ends_reaches w.records w.journal.entries k_served.back of d whom.ends;
      } in
      let leads : made_so S name (told ++ last ∷ []) ≤ 1 → Leads S name (told ++ last ∷ []) (line_of S name left) =
      λ c. let one : named S name all ≤ 1 = omega (arith, c, count) in
      goes_next S name told last (line_of S name all) (line_of S name left)
      (leads_told (omega (arith, one, count_told)))
      (left_next S _ name d told (line_of S name all) (line_of S name left) refl (line_settled S name all) came
      (departure.taken one) (departure.stays one)) in
      record {
        back = (reads.fires d cancelled r (state_of left_world) y g f).goes_on cancelled_back;
        made = count ∙ sym departure.counted;
        sound = departure.sound;
        waiters = λ t. record {
          each = λ j n o h v.
              let was = departure.fewer.each j n o h v in
              let waiter = (k_served.waiters s).each j n was.owner was.found was.waits in
              record {
                leaves = alike.leaves S j n waiter.leaves;
                fresh = alike.fresh S j n waiter.leaves waiter.fresh;
                fired = λ c. absurd (not_cancelled n told last (λ z i. absurd cc) c);
              };
        };
        leads = λ c t. leads c;
        some = λ c. (line_of S name left, leads c);
      }

  left_fired : Served S name (fire d cancelled left_world).1
  left_fired =
      fire_unfired (Served S name) d cancelled whom.made left_world stopped_after
      (fired_after whom.made whom.found whom.unfired) s whom.found whom.unfired

pub leave_served : (S : Sought) (name : List ℕ) (of d k : ℕ) (w : World) → (cancel of w).0 ≡ reaching S d k
    → Served S name w → Served S name (fire d cancelled (leave S k d (cancel of w).1)).1
leave_served S name of d k w e served =
    let parts = cancel_parts S of d k w e in
    subst (λ u. Served S name (fire d cancelled (leave S k d u)).1) (sym (cancel_goes of w parts.0 parts.1))
    (subst (λ u. Served S name (fire d cancelled u).1)
    (sym (leave_goes S k d (record w { journal = with_entry w.journal (entry.Cancel of) }) parts.0))
    (left_fired S name of d k w parts.0 parts.1 parts.2 served))
