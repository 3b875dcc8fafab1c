-- A lock grants its tokens in the order in which they are asked for: what its own steps leave, with the firings after
-- them.
use Rattle.std.proofs.Common.{◌≡◌, ℕ, suc, ◌+◌, ◌-◌, ◌≤◌, ◌<◌, ◌++◌, Bool, true, false, nat_eq, List}
use Rattle.std.proofs.Common.{[], ◌∷◌, None, Some, refl, sym, ap, subst, ◌∙◌, arith, slice_get}
use Rattle.std.proofs.Common.{slice_set, length, cond}
use Rattle.std.specs.Prelude.{bytes_eq, if◌then◌else◌}
use Rattle.std.specs.List.{list_any}
use Rattle.std.proofs.lemmas.Bool.{ltb-true}
use Rattle.std.proofs.lemmas.List.Sums.{sum_by_push}
use Rattle.std.proofs.lemmas.Slice.Eq.{bytes_eq-Decides}
use Rattle.dv_value.specs.declared.value.Value.{Text}
use Rattle.dv_journal.specs.Journal.{fits, with_entry}
use Rattle.dv_journal.specs.declared.entry.Entry.{Entry}
use Rattle.dv_journal.specs.declared.entry.Entry.TheVariants as entry
use Rattle.dv_objects.specs.Objects.{with_lock}
use Rattle.dv_objects.specs.Refusals.{cancelled}
use Rattle.dv_objects.specs.declared.canceller.Canceller.TheVariants as canceller
use Rattle.dv_prims.specs.Laws.{GivesAllBeforeAnyWaits}
use Rattle.dv_prims.specs.Tokens.{Semaphore, new_semaphore, has_free, is_unheld, first_waiting, asked, released}
use Rattle.dv_prims.specs.Tokens.{released_to, is_waiting}
use Rattle.dv_world.specs.World.{World, state_of}
use Rattle.dv_laws.specs.Granted as granted_in
use Rattle.dv_laws.specs.Granted.{tokens, Next, Grants, Waits, Passes, Frees}
use Rattle.dv_laws.specs.Tokens.{MakesTokens, holding_of, asks_by, releases_by}
use Rattle.dv_laws.proofs.Calm.{IsMade, asking, granted}
use Rattle.dv_laws.proofs.ReadBackLemmas.{Reads, reads}
use Rattle.dv_laws.proofs.ServedChanges.{changed_count, changed_next, changed_given, given_pending, waits_last}
use Rattle.dv_laws.proofs.ServedLemmas.{Served, served_next, rests_next, pending_fired}
use Rattle.dv_laws.proofs.ServedLines.{Tokens, line_of, named, named_of, line_push, line_none, line_first}
use Rattle.dv_laws.proofs.ServedLines.{line_settled, first_waits, later_waits}
use Rattle.dv_laws.proofs.ServedWaiters.{made_leaves, made_fresh, not_cancelled, Alike, alike_same, Waiters}
use Rattle.dv_laws.proofs.ServedWaiters.{fewer_push, fewer_set, waiters_on}
use Rattle.dv_laws.proofs.TokensLemmas.{Sound, asked_by, released_by, not_below, some_given, sound_set, sound_push}

-- an entry of another lock
ask_rests : (name : List ℕ) (s : Semaphore) (d : ℕ) (told : List Entry) → bytes_eq s.name name ≡ false
    → (l : granted_in.Tokens) → l.granted ≡ None → Next name told l (entry.Acquire s.name d) l
ask_rests name s d told h l g =
    rests_next Tokens name told l (entry.Acquire s.name d) g (refl, ap {B = ℕ} (λ b. cond b 1 0) h, refl)
    (λ n t. let wrong : entry.Acquire s.name d ≡ entry.Fire n cancelled = t.fires in absurd cc)

release_rests : (name : List ℕ) (s : Semaphore) (told : List Entry) → bytes_eq s.name name ≡ false
    → (l : granted_in.Tokens) → l.granted ≡ None → Next name told l (entry.Release s.name) l
release_rests name s told h l g =
    rests_next Tokens name told l (entry.Release s.name) g (refl, refl, ap {B = ℕ} (λ b. cond b 1 0) h)
    (λ n t. let wrong : entry.Release s.name ≡ entry.Fire n cancelled = t.fires in absurd cc)

-- 1. A token is asked for.

nobody_waits : (ws : List ℕ) → (0 < length ws → ⊥) → ws ≡ []
nobody_waits [] h = refl
nobody_waits (w ∷ ws) h = absurd (h (omega arith))

grants_next : (name : List ℕ) (d : ℕ) (s : Semaphore) (told : List Entry) → has_free s ≡ true
    → GivesAllBeforeAnyWaits s → s.name ≡ name
    → Next name told (tokens s.tokens (s.tokens - s.given) s.waiting None) (entry.Acquire s.name d)
    (tokens s.tokens (s.tokens - (s.given + 1)) s.waiting (Some d))
grants_next name d s told f g same =
    let free : s.given < s.tokens = ltb-true s.given s.tokens f in
    let none : s.waiting ≡ [] = nobody_waits s.waiting (λ h. absurd (omega (arith, free, g.1 h))) in
    let left = s.tokens - (s.given + 1) in
    let one : s.tokens - s.given ≡ suc left = omega (arith, free) in
    subst (λ n. Next name told (tokens s.tokens n s.waiting None) (entry.Acquire s.name d)
    (tokens s.tokens left s.waiting (Some d)))
    (sym one) (subst (λ ws. Next name told (tokens s.tokens (suc left) ws None) (entry.Acquire s.name d)
    (tokens s.tokens left ws (Some d))) (sym none)
    (subst (λ m. Next name told (tokens s.tokens (suc left) [] None) (entry.Acquire m d)
    (tokens s.tokens left [] (Some d))) (sym same) (Grants s.tokens left d)))

waits_next : (name : List ℕ) (d : ℕ) (s : Semaphore) (told : List Entry) → has_free s ≡ false → s.name ≡ name
    → Next name told (tokens s.tokens (s.tokens - s.given) s.waiting None) (entry.Acquire s.name d)
    (tokens s.tokens (s.tokens - s.given) (s.waiting ++ d ∷ []) None)
waits_next name d s told f same =
    let full : s.tokens ≤ s.given = not_below s.given s.tokens f in
    let none : s.tokens - s.given ≡ 0 = omega (arith, full) in
    subst (λ n. Next name told (tokens s.tokens n s.waiting None) (entry.Acquire s.name d)
    (tokens s.tokens n (s.waiting ++ d ∷ []) None)) (sym none)
    (subst (λ m. Next name told (tokens s.tokens 0 s.waiting None)
    (entry.Acquire m d) (tokens s.tokens 0 (s.waiting ++ d ∷ []) None)) (sym same) (Waits s.tokens s.waiting d))

ask_by : (name : List ℕ) (l d : ℕ) (s : Semaphore) (w : World) (b : Bool) → has_free s ≡ b → w.stopped ≡ false
    → fits w.journal (entry.Acquire s.name d) ≡ true → slice_get w.objects.semaphores l ≡ Some s
    → IsMade (canceller.Token l) d w.records → Served Tokens name w
    → Served Tokens name (granted (if b then Some d else None) s.name (record w {
      objects =
          with_lock l (if b then record s { given = s.given + 1 } else record s { waiting = s.waiting ++ d ∷ [] })
          w.objects;
      journal = with_entry w.journal (entry.Acquire s.name d);
    }))
ask_by name l d s w false f t x g i k =
    let longer : Semaphore = record s { waiting = s.waiting ++ d ∷ [] } in
    let told = w.journal.entries in
    let e = entry.Acquire s.name d in
    served_next Tokens name e w _ t refl k (changed_count Tokens name l s longer w.objects.semaphores g refl e refl)
    (reads.asides e (state_of w) refl x)
    (sound_set l s longer w.objects.semaphores g ((asked_by false d s f).gives (k.sound.each l s g)) k.sound)
    (λ u. waits_last Tokens l d s longer w.objects.semaphores w.records told e g refl i (λ of y. absurd cc)
    (k.waiters t))
    (changed_next Tokens name l s longer w.objects.semaphores g refl _ told e refl (waits_next name d s told f)
    (ask_rests name s d told))
ask_by name l d s w true f t x g i k =
    let fewer : Semaphore = record s { given = s.given + 1 } in
    let told = w.journal.entries in
    let e = entry.Acquire s.name d in
    let sound = k.sound.each l s g in
    pending_fired Tokens name d (Text s.name) _ t (given_pending Tokens name l d (Text s.name) e s fewer w _ t g refl
    refl refl refl k refl (λ of y. absurd cc) (reads.asides e (state_of w) refl x)
    (sound_set l s fewer w.objects.semaphores g ((asked_by true d s f).gives sound) k.sound) (λ n h. h)
    (made_leaves Tokens l d w.records i) (made_fresh (canceller.Token l) d w.records i)
    (changed_given Tokens name l s fewer w.objects.semaphores g refl _ d (Text s.name) told e refl
    (λ same. (ap Text same, grants_next name d s told f sound same)) (ask_rests name s d told)))

pub ask_served : (name : List ℕ) (l d : ℕ) (s : Semaphore) (w : World) → w.stopped ≡ false
    → fits w.journal (entry.Acquire s.name d) ≡ true → slice_get w.objects.semaphores l ≡ Some s
    → IsMade (canceller.Token l) d w.records → Served Tokens name w
    → Served Tokens name (granted (asking d s) s.name (record w {
      objects = with_lock l (asked d s) w.objects;
      journal = with_entry w.journal (entry.Acquire s.name d);
    }))
ask_served name l d s w t x g i k = ask_by name l d s w (has_free s) refl t x g i k

-- 2. A token is released.

frees_next : (name : List ℕ) (s : Semaphore) (told : List Entry) → s.waiting ≡ [] → is_unheld s ≡ false
    → GivesAllBeforeAnyWaits s → s.name ≡ name
    → Next name told (tokens s.tokens (s.tokens - s.given) s.waiting None) (entry.Release s.name)
    (tokens s.tokens (s.tokens - (s.given - 1)) s.waiting None)
frees_next name s told e u g same =
    let some : 1 ≤ s.given = some_given s.given u in
    let left = s.tokens - s.given in
    let held : left < s.tokens = omega (arith, some, g.0) in
    let one : s.tokens - (s.given - 1) ≡ suc left = omega (arith, some, g.0) in
    subst (λ n.
    Next name told (tokens s.tokens left s.waiting None) (entry.Release s.name) (tokens s.tokens n s.waiting None))
    (sym one) (subst
    (λ ws. Next name told (tokens s.tokens left ws None) (entry.Release s.name) (tokens s.tokens (suc left) ws None))
    (sym e)
    (subst (λ m. Next name told (tokens s.tokens left [] None) (entry.Release m) (tokens s.tokens (suc left) [] None))
    (sym same) (Frees s.tokens left held)))

passes_next : (name : List ℕ) (first : ℕ) (rest : List ℕ) (s : Semaphore) (told : List Entry)
    → s.waiting ≡ first ∷ rest → is_unheld s ≡ false → GivesAllBeforeAnyWaits s → s.name ≡ name
    → Next name told (tokens s.tokens (s.tokens - s.given) s.waiting None) (entry.Release s.name)
    (tokens s.tokens (s.tokens - s.given) rest (Some first))
passes_next name first rest s told e u g same =
    let held : 0 < s.tokens = omega (arith, some_given s.given u, g.0) in
    let some : 0 < length s.waiting = omega (arith, ap (λ (ws : List ℕ). length ws) e) in
    let none : s.tokens - s.given ≡ 0 = omega (arith, g.1 some) in
    subst (λ n.
    Next name told (tokens s.tokens n s.waiting None) (entry.Release s.name) (tokens s.tokens n rest (Some first)))
    (sym none) (subst
    (λ ws. Next name told (tokens s.tokens 0 ws None) (entry.Release s.name) (tokens s.tokens 0 rest (Some first)))
    (sym e) (subst (λ m. Next name told (tokens s.tokens 0 (first ∷ rest) None) (entry.Release m)
    (tokens s.tokens 0 rest (Some first))) (sym same) (Passes s.tokens first rest held)))

release_by : (name : List ℕ) (l : ℕ) (s : Semaphore) (w : World) (ws : List ℕ) → s.waiting ≡ ws
    → is_unheld s ≡ false → w.stopped ≡ false → fits w.journal (entry.Release s.name) ≡ true
    → slice_get w.objects.semaphores l ≡ Some s → Served Tokens name w
    → Served Tokens name (granted (slice_get ws 0) s.name (record w {
      objects = with_lock l (released_to ws s) w.objects;
      journal = with_entry w.journal (entry.Release s.name);
    }))
release_by name l s w [] e u t x g k =
    let freed : Semaphore = record s { given = s.given - 1 } in
    let told = w.journal.entries in
    let last = entry.Release s.name in
    let sound = k.sound.each l s g in
    served_next Tokens name last w _ t refl k
    (changed_count Tokens name l s freed w.objects.semaphores g refl last refl)
    (reads.asides last (state_of w) refl x)
    (sound_set l s freed w.objects.semaphores g ((released_by [] s e u).gives sound) k.sound)
    (λ y. waiters_on Tokens w.objects.semaphores (slice_set w.objects.semaphores l freed) w.records w.records told last
    (fewer_set Tokens l s freed w.objects.semaphores g (λ d h. h)) (alike_same w.records)
    (λ j n i c. absurd (not_cancelled n told last (λ of z. absurd cc) c)) (k.waiters t))
    (changed_next Tokens name l s freed w.objects.semaphores g refl _ told last refl
    (frees_next name s told e u sound) (release_rests name s told))
release_by name l s w (first ∷ rest) e u t x g k =
    let left : Semaphore = record s { waiting = rest } in
    let told = w.journal.entries in
    let last = entry.Release s.name in
    let sound = k.sound.each l s g in
    let there : is_waiting first s.waiting ≡ true = ap (is_waiting first) e ∙ first_waits first rest in
    let waiter = (k.waiters t).each l first s g there in
    pending_fired Tokens name first (Text s.name) _ t (given_pending Tokens name l first (Text s.name) last s left w _ t
    g refl refl refl refl k refl (λ of y. absurd cc) (reads.asides last (state_of w) refl x)
    (sound_set l s left w.objects.semaphores g ((released_by (first ∷ rest) s e u).gives sound) k.sound)
    (λ n h. ap (is_waiting n) e ∙ later_waits (nat_eq n first) (list_any (nat_eq n) rest) h) waiter.leaves waiter.fresh
    (changed_given Tokens name l s left w.objects.semaphores g refl _ first (Text s.name) told last refl
    (λ same. (ap Text same, passes_next name first rest s told e u sound same)) (release_rests name s told)))

pub release_served : (name : List ℕ) (l : ℕ) (s : Semaphore) (w : World) → is_unheld s ≡ false → w.stopped ≡ false
    → fits w.journal (entry.Release s.name) ≡ true → slice_get w.objects.semaphores l ≡ Some s → Served Tokens name w
    → Served Tokens name (granted (first_waiting s) s.name (record w {
      objects = with_lock l (released s) w.objects;
      journal = with_entry w.journal (entry.Release s.name);
    }))
release_served name l s w u t x g k = release_by name l s w s.waiting refl u t x g k

-- 3. A lock or a semaphore is made.

all_free : (n : ℕ) → n - 0 ≡ n
all_free n = omega arith

module _ (name made : List ℕ) (free : ℕ) (e : Entry) (h : holding_of e ≡ MakesTokens made free)
    (old : List Semaphore) where
  abbrev more : Semaphore
  more = new_semaphore made free

  more_counted : named Tokens name (old ++ more ∷ []) ≡ named Tokens name old + cond (bytes_eq made name) 1 0
  more_counted = sum_by_push (named_of Tokens name) old more

  makes_next : (b : Bool) (told : List Entry) → bytes_eq made name ≡ b
      → (made ≡ name → Next name told (tokens 0 0 [] None) e (tokens free free [] None))
      → ((n : ℕ) → e ≡ entry.Fire n cancelled → ⊥) → named Tokens name (old ++ more ∷ []) ≤ 1
      → Next name told (line_of Tokens name old) e (line_of Tokens name (old ++ more ∷ []))
  makes_next true told p makes f c =
      let none : named Tokens name old ≡ 0 =
      omega (arith, c, more_counted, ap {B = ℕ} (λ b. cond b 1 0) p) in
      rw (line_none Tokens name old none, line_first Tokens name more old none p, all_free free)
      (makes ((bytes_eq-Decides made name).0 p))
  makes_next false told p makes f c =
      rw (line_push Tokens name more old (ap (λ b. cond b (tokens free (free - 0) [] None) (tokens 0 0 [] None)) p))
      (rests_next Tokens name told (line_of Tokens name old) e (line_settled Tokens name old) (
        ap (granted_in.lock_made_by name) h ∙ ap {B = ℕ} (λ b. cond b 1 0) p,
        ap (asks_by name) h,
        ap (releases_by name) h,
      ) (λ n t. f n t.fires))

pub made_served : (name made : List ℕ) (free : ℕ) (e : Entry) (w u : World) → holding_of e ≡ MakesTokens made free
    → ((told : List Entry) → made ≡ name → Next name told (tokens 0 0 [] None) e (tokens free free [] None))
    → ((of : ℕ) → e ≡ entry.Cancel of → ⊥) → ((n : ℕ) → e ≡ entry.Fire n cancelled → ⊥) → w.stopped ≡ false
    → u.journal.entries ≡ w.journal.entries ++ e ∷ []
    → u.objects.semaphores ≡ w.objects.semaphores ++ new_semaphore made free ∷ [] → Reads (state_of w) (state_of u)
    → Alike w.records u.records → Served Tokens name w → Served Tokens name u
made_served name made free e w u h makes n f t q o r m k =
    let old = w.objects.semaphores in
    let more = new_semaphore made free in
    served_next Tokens name e w u t q k
    (record {
      counted = omega (
        arith,
        ap (named Tokens name) o,
        more_counted name made free e h old,
        ap (granted_in.lock_made_by name) h,
      );
    }) r (subst (λ (l : List Semaphore). Sound l) (sym o) (sound_push made free old k.sound))
    (λ y. subst (λ told. Waiters Tokens u.objects.semaphores u.records told) (sym q)
    (subst (λ (l : List Semaphore). Waiters Tokens l u.records (w.journal.entries ++ e ∷ [])) (sym o)
    (waiters_on Tokens old (old ++ more ∷ []) w.records u.records w.journal.entries e
    (fewer_push Tokens more old refl) m
    (λ j d i c. absurd (not_cancelled d w.journal.entries e n c)) (k.waiters t))))
    (λ c.
    subst (λ (l : List Semaphore). Next name w.journal.entries (line_of Tokens name old) e (line_of Tokens name l))
    (sym o) (makes_next name made free e h old _ w.journal.entries refl (makes w.journal.entries) f
    (subst (λ (l : List Semaphore). named Tokens name l ≤ 1) o c)))
