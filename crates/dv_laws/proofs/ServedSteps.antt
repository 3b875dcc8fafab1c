-- A queue serves those that ask in the order in which they ask: what its own steps leave, with the firings after them.
use Rattle.std.proofs.Common.{◌≡◌, ℕ, ◌++◌, true, false, nat_eq, List}
use Rattle.std.proofs.Common.{[], ◌∷◌, None, Some, refl, sym, ap, subst, ◌∙◌, slice_get}
use Rattle.std.proofs.Common.{slice_set, cond}
use Rattle.std.specs.Prelude.{bytes_eq}
use Rattle.std.specs.List.{list_any}
use Rattle.dv_value.specs.declared.value.Value.{Value}
use Rattle.dv_journal.specs.Journal.{fits, with_entry}
use Rattle.dv_journal.specs.declared.entry.Entry.{Entry}
use Rattle.dv_journal.specs.declared.entry.Entry.TheVariants as entry
use Rattle.dv_objects.specs.Objects.{with_queue}
use Rattle.dv_objects.specs.Refusals.{cancelled}
use Rattle.dv_objects.specs.declared.canceller.Canceller.TheVariants as canceller
use Rattle.dv_prims.specs.Queue.{Queue, receiver, put_to, got_from}
use Rattle.dv_prims.specs.Tokens.{is_waiting}
use Rattle.dv_world.specs.World.{World, state_of}
use Rattle.dv_laws.specs.Served.{Line, line, Next, Gives, Stores, Takes, Waits}
use Rattle.dv_laws.proofs.Calm.{IsMade, handed, handed_to}
use Rattle.dv_laws.proofs.ReadBackLemmas.{reads}
use Rattle.dv_laws.proofs.ServedChanges.{changed_count, changed_next, changed_given, given_pending, waits_last}
use Rattle.dv_laws.proofs.ServedLemmas.{Served, served_next, rests_next, pending_fired}
use Rattle.dv_laws.proofs.ServedLines.{Values, first_waits, later_waits}
use Rattle.dv_laws.proofs.ServedWaiters.{made_leaves, made_fresh, not_cancelled, alike_same, fewer_set, waiters_on}

-- an entry of another queue
put_rests : (name : List ℕ) (p : Queue) (value : Value) (told : List Entry) → bytes_eq p.name name ≡ false → (l : Line)
    → l.given ≡ None → Next name told l (entry.Put p.name value) l
put_rests name p value told h l g =
    rests_next Values name told l (entry.Put p.name value) g (ap {B = ℕ} (λ b. cond b 1 0) h, refl)
    (λ d t. let wrong : entry.Put p.name value ≡ entry.Fire d cancelled = t.fires in absurd cc)

get_rests : (name : List ℕ) (p : Queue) (n : ℕ) (told : List Entry) → bytes_eq p.name name ≡ false → (l : Line)
    → l.given ≡ None → Next name told l (entry.Get p.name n) l
get_rests name p n told h l g =
    rests_next Values name told l (entry.Get p.name n) g (refl, ap {B = ℕ} (λ b. cond b 1 0) h)
    (λ d t. let wrong : entry.Get p.name n ≡ entry.Fire d cancelled = t.fires in absurd cc)

-- 1. A value is put.

put_by : (name : List ℕ) (key : ℕ) (value : Value) (q : Queue) (w : World) (ws : List ℕ) → q.waiting ≡ ws
    → w.stopped ≡ false → fits w.journal (entry.Put q.name value) ≡ true → slice_get w.objects.queues key ≡ Some q
    → Served Values name w
    → Served Values name (handed (receiver ws value) (record w {
      objects = with_queue key (put_to ws value q) w.objects;
      journal = with_entry w.journal (entry.Put q.name value);
    }))
put_by name key value q w [] e s x g k =
    let stored : Queue = record q { stored = q.stored ++ value ∷ [] } in
    let told = w.journal.entries in
    served_next Values name (entry.Put q.name value) w _ s refl k
    (changed_count Values name key q stored w.objects.queues g refl (entry.Put q.name value) refl)
    (reads.asides (entry.Put q.name value) (state_of w) refl x) tt
    (λ t. waiters_on Values w.objects.queues (slice_set w.objects.queues key stored) w.records w.records told
    (entry.Put q.name value) (fewer_set Values key q stored w.objects.queues g (λ d h. h)) (alike_same w.records)
    (λ j n i c. absurd (not_cancelled n told (entry.Put q.name value) (λ of y. absurd cc) c)) (k.waiters s))
    (changed_next Values name key q stored w.objects.queues g refl _ told (entry.Put q.name value) refl
    (λ same. subst (λ ws. Next name told (line q.stored ws None) (entry.Put q.name value)
    (line (q.stored ++ value ∷ []) ws None)) (sym e) (subst (λ m. Next name told (line q.stored [] None)
    (entry.Put m value) (line (q.stored ++ value ∷ []) [] None)) (sym same) (Stores q.stored value)))
    (put_rests name q value told))
put_by name key value q w (first ∷ rest) e s x g k =
    let left : Queue = record q { waiting = rest } in
    let told = w.journal.entries in
    let there : is_waiting first q.waiting ≡ true = ap (is_waiting first) e ∙ first_waits first rest in
    let waiter = (k.waiters s).each key first q g there in
    pending_fired Values name first value _ s (given_pending Values name key first value (entry.Put q.name value) q left
    w _ s g refl refl refl refl k refl (λ of y. absurd cc)
    (reads.asides (entry.Put q.name value) (state_of w) refl x) tt
    (λ n h. ap (is_waiting n) e ∙ later_waits (nat_eq n first) (list_any (nat_eq n) rest) h) waiter.leaves waiter.fresh
    (changed_given Values name key q left w.objects.queues g refl _ first value told (entry.Put q.name value) refl
    (λ same. (
      tt,
      subst (λ ws. Next name told (line q.stored ws None) (entry.Put q.name value)
          (line q.stored rest (Some (first, value)))) (sym e)
          (subst (λ m. Next name told (line q.stored (first ∷ rest) None)
          (entry.Put m value) (line q.stored rest (Some (first, value)))) (sym same) (Gives q.stored first rest value)),
    ))
    (put_rests name q value told)))

pub put_served : (name : List ℕ) (key : ℕ) (value : Value) (q : Queue) (w : World) → w.stopped ≡ false
    → fits w.journal (entry.Put q.name value) ≡ true → slice_get w.objects.queues key ≡ Some q → Served Values name w
    → Served Values name (handed (receiver q.waiting value) (record w {
      objects = with_queue key (put_to q.waiting value q) w.objects;
      journal = with_entry w.journal (entry.Put q.name value);
    }))
put_served name key value q w s x g k = put_by name key value q w q.waiting refl s x g k

-- 2. A value is asked for.

get_by : (name : List ℕ) (key d : ℕ) (q : Queue) (w : World) (vs : List Value) → q.stored ≡ vs → w.stopped ≡ false
    → fits w.journal (entry.Get q.name d) ≡ true → slice_get w.objects.queues key ≡ Some q
    → IsMade (canceller.Item key) d w.records → Served Values name w
    → Served Values name (handed_to d (slice_get vs 0) (record w {
      objects = with_queue key (got_from vs d q) w.objects;
      journal = with_entry w.journal (entry.Get q.name d);
    }))
get_by name key d q w [] e s x g i k =
    let longer : Queue = record q { waiting = q.waiting ++ d ∷ [] } in
    let told = w.journal.entries in
    served_next Values name (entry.Get q.name d) w _ s refl k
    (changed_count Values name key q longer w.objects.queues g refl (entry.Get q.name d) refl)
    (reads.asides (entry.Get q.name d) (state_of w) refl x) tt
    (λ t. waits_last Values key d q longer w.objects.queues w.records told (entry.Get q.name d) g refl i
    (λ of y. absurd cc) (k.waiters s))
    (changed_next Values name key q longer w.objects.queues g refl _ told (entry.Get q.name d) refl
    (λ same. subst (λ vs. Next name told (line vs q.waiting None) (entry.Get q.name d)
    (line vs (q.waiting ++ d ∷ []) None)) (sym e) (subst (λ m. Next name told (line [] q.waiting None)
    (entry.Get m d) (line [] (q.waiting ++ d ∷ []) None)) (sym same) (Waits q.waiting d)))
    (get_rests name q d told))
get_by name key d q w (v ∷ vs) e s x g i k =
    let left : Queue = record q { stored = vs } in
    let told = w.journal.entries in
    pending_fired Values name d v _ s (given_pending Values name key d v (entry.Get q.name d) q left w _ s g refl refl
    refl refl k refl (λ of y. absurd cc) (reads.asides (entry.Get q.name d) (state_of w) refl x) tt (λ n h. h)
    (made_leaves Values key d w.records i) (made_fresh (canceller.Item key) d w.records i)
    (changed_given Values name key q left w.objects.queues g refl _ d v told (entry.Get q.name d) refl
    (λ same. (
      tt,
      subst (λ l. Next name told (line l q.waiting None) (entry.Get q.name d)
          (line vs q.waiting (Some (d, v)))) (sym e) (subst (λ m. Next name told (line (v ∷ vs) q.waiting None)
          (entry.Get m d) (line vs q.waiting (Some (d, v)))) (sym same) (Takes v vs q.waiting d)),
    ))
    (get_rests name q d told)))

pub get_served : (name : List ℕ) (key d : ℕ) (q : Queue) (w : World) → w.stopped ≡ false
    → fits w.journal (entry.Get q.name d) ≡ true → slice_get w.objects.queues key ≡ Some q
    → IsMade (canceller.Item key) d w.records → Served Values name w
    → Served Values name (handed_to d (slice_get q.stored 0) (record w {
      objects = with_queue key (got_from q.stored d q) w.objects;
      journal = with_entry w.journal (entry.Get q.name d);
    }))
get_served name key d q w s x g i k = get_by name key d q w q.stored refl s x g i k
