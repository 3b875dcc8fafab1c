-- A stopped world stays as it is, whichever step it takes.
use Rattle.std.specs.Prelude.{◌≡◌, ℕ, Bool, true, false, List, Option, None, Some, slice_get}
use Rattle.std.proofs.Common.{ap, cond, refl, sym, subst}
use Rattle.dv_value.specs.declared.value.Value.{Value}
use Rattle.dv_journal.specs.declared.entry.Entry.{Entry}
use Rattle.dv_journal.specs.declared.entry.Entry.TheVariants as entry
use Rattle.dv_objects.specs.Objects.{Objects, with_lock}
use Rattle.dv_objects.specs.Pair.{Pair}
use Rattle.dv_objects.specs.declared.canceller.Canceller.{Canceller}
use Rattle.dv_prims.specs.Tokens.{Semaphore, is_unheld, asked, released}
use Rattle.dv_script.specs.declared.work.Work.{Work}
use Rattle.dv_world.specs.World.{World, step, put, put_deferred, append, make, fire, fire_then_swallow, cancel, pause}
use Rattle.dv_world.specs.World.{unpause, aside, arrange, submit, lock_told, ask, release_found, release}
use Rattle.dv_world.specs.World.{with_stop}

kept : (b : Bool) (w u : World) → b ≡ true → cond b w u ≡ w
kept true w u h = refl
kept false w u h = absurd cc

kept_and : {A : Type 0} (b : Bool) (x : A) (p : A × World) (w : World) → b ≡ true
    → (cond {A = A × World} b (x, w) p).1 ≡ w
kept_and true x p w h = refl
kept_and false x p w h = absurd cc

pub stop_stays : (w : World) → w.stopped ≡ true → with_stop w ≡ w
stop_stays w h = ap (λ b. record w { stopped = b }) (sym h)

pub step_stays : (d : ℕ) (w : World) → w.stopped ≡ true → (step d w).1 ≡ w
unfolding step
step_stays d w h = kept_and w.stopped _ _ w h

pub put_stays : (d : ℕ) (value : Value) (w : World) → w.stopped ≡ true → put d value w ≡ w
unfolding put
put_stays d value w h = kept w.stopped w _ h

pub put_deferred_stays : (d e : ℕ) (w : World) → w.stopped ≡ true → put_deferred d e w ≡ w
unfolding put_deferred
put_deferred_stays d e w h = kept w.stopped w _ h

pub append_stays : (d : ℕ) (pair : Pair) (w : World) → w.stopped ≡ true → append d pair w ≡ w
unfolding append
append_stays d pair w h = kept w.stopped w _ h

pub make_stays : (name : Option (List ℕ)) (canceller : Option Canceller) (w : World) → w.stopped ≡ true
    → make name canceller w ≡ w
unfolding make
make_stays name canceller w h = kept w.stopped w _ h

pub fire_stays : (d : ℕ) (value : Value) (w : World) → w.stopped ≡ true → (fire d value w).1 ≡ w
unfolding fire
fire_stays d value w h = kept_and w.stopped _ _ w h

pub fire_then_swallow_stays : (d : ℕ) (w : World) → w.stopped ≡ true → fire_then_swallow d w ≡ w
unfolding fire_then_swallow
fire_then_swallow_stays d w h = kept w.stopped w _ h

pub cancel_stays : (d : ℕ) (w : World) → w.stopped ≡ true → (cancel d w).1 ≡ w
unfolding cancel
cancel_stays d w h = kept_and w.stopped _ _ w h

pub pause_stays : (d : ℕ) (w : World) → w.stopped ≡ true → pause d w ≡ w
unfolding pause
pause_stays d w h = kept w.stopped w _ h

pub unpause_stays : (d : ℕ) (w : World) → w.stopped ≡ true → (unpause d w).1 ≡ w
unfolding unpause
unpause_stays d w h = kept_and w.stopped _ _ w h

pub aside_stays : (e : Entry) (change : Objects → Objects) (w : World) → w.stopped ≡ true → aside e change w ≡ w
unfolding aside
aside_stays e change w h = kept w.stopped w _ h

pub arrange_stays : (change : Objects → Objects) (w : World) → w.stopped ≡ true → arrange change w ≡ w
unfolding arrange
arrange_stays change w h = kept w.stopped w _ h

pub submit_stays : (d : ℕ) (pool : Option (List ℕ)) (work : Work) (w : World) → w.stopped ≡ true
    → submit d pool work w ≡ w
unfolding submit
submit_stays d pool work w h = kept w.stopped w _ h

lock_told_stays : (l : ℕ) (e : Semaphore → Entry) (change : Semaphore → Semaphore) (o : Option Semaphore) (w : World)
    → w.stopped ≡ true → lock_told l e change o w ≡ w
lock_told_stays l e change None w h = refl
lock_told_stays l e change (Some s) w h = aside_stays (e s) (with_lock l (change s)) w h

pub ask_stays : (l d : ℕ) (w : World) → w.stopped ≡ true → ask l d w ≡ w
ask_stays l d w h =
    lock_told_stays l (λ s. entry.Acquire s.name d) (asked d) (slice_get w.objects.semaphores l) w h

held_stays : (b : Bool) (l : ℕ) (s : Semaphore) (w : World) → w.stopped ≡ true
    → cond b w (aside (entry.Release s.name) (with_lock l (released s)) w) ≡ w
held_stays true l s w h = refl
held_stays false l s w h = aside_stays (entry.Release s.name) (with_lock l (released s)) w h

release_found_stays : (l : ℕ) (o : Option Semaphore) (w : World) → w.stopped ≡ true → release_found l o w ≡ w
release_found_stays l None w h = refl
release_found_stays l (Some s) w h = held_stays (is_unheld s) l s w h

pub release_stays : (l : ℕ) (w : World) → w.stopped ≡ true → release l w ≡ w
release_stays l w h = release_found_stays l (slice_get w.objects.semaphores l) w h

-- so what holds of a world that stays, and of one that has taken a step, holds after the step
live_by : (b : Bool) (P : World → Type 0) (w u : World) → w.stopped ≡ b → P w → (w.stopped ≡ true → u ≡ w)
    → (w.stopped ≡ false → P u) → P u
live_by true P w u e p h k = subst P (sym (h e)) p
live_by false P w u e p h k = k e

pub live : (P : World → Type 0) (w u : World) → P w → (w.stopped ≡ true → u ≡ w) → (w.stopped ≡ false → P u) → P u
live P w u p h k = live_by w.stopped P w u refl p h k
