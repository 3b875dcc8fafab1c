-- The works that were submitted only grow.
use Rattle.std.proofs.Common.{◌≡◌, ℕ, Bool, true, false, cond, List, [], ◌∷◌, ◌++◌, Option, None, Some, Result, Ok, Err}
use Rattle.std.proofs.Common.{refl, sym, subst, ap, ◌∙◌, append-nil, append_assoc, length, OnOk}
use Rattle.std.specs.declared.alloc.AllocError.{AllocError}
use Rattle.dv_journal.specs.Journal.{fits}
use Rattle.dv_journal.specs.declared.entry.Entry.TheVariants as entry
use Rattle.dv_journal.specs.declared.error.Stop.{Stop}
use Rattle.dv_script.specs.declared.work.Work.{Work}
use Rattle.dv_store.specs.State.{State}
use Rattle.dv_store.specs.declared.error.AlreadyCalled.{AlreadyCalled}
use Rattle.dv_journal.specs.declared.error.Fault.{Fault}
use Rattle.dv_journal.specs.declared.error.Fault.TheVariants as fault
use Rattle.dv_store.specs.declared.error.NotPaused.{NotPaused}
use Rattle.dv_store.specs.declared.store.Fired.{Fired}
use Rattle.dv_store.specs.declared.store.Fired.TheVariants.{Set, Swallowed}
use Rattle.dv_store.specs.declared.store.Step.{Step}
use Rattle.dv_loop.proofs.FairTurns.{happening_comes, turned_fair}
use Rattle.dv_loop.proofs.Lasting.{Lasting}
use Rattle.dv_definition.specs.Rule as rule
use Rattle.dv_definition.specs.Scripts.{Occurrence, happens, rule_of}
use Rattle.dv_threads.specs.Threading.{GoesOn, job_result}
use Rattle.dv_definition.specs.Words.{fire_with}
use Rattle.dv_loop.specs.TurnEnds.{ended_with, ending}
use Rattle.dv_loop.specs.declared.turn_end.TurnEnd.{TurnEnd}
use Rattle.dv_loop.specs.declared.turn_end.TurnEnd.TheVariants.{Ended, Delivers}
use Rattle.dv_frames.specs.Turn.{settle_next}
use Rattle.dv_frames.specs.declared.turn.Turn.{Turn}
use Rattle.dv_frames.specs.declared.frame.Frame.{Frame}
use Rattle.dv_objects.specs.Works.{is_full}
use Rattle.dv_objects.specs.declared.follow.Follow.{Follow}
use Rattle.dv_objects.specs.declared.follow.Follow.TheVariants as follow
use Rattle.dv_value.specs.declared.value.Value.{Value}
use Rattle.dv_world.specs.World.{World, after, moved, named, fired, unpaused, fired_then_swallows, step, put}
use Rattle.dv_world.specs.World.{put_deferred, append}
use Rattle.dv_world.specs.World.{make, fire, fire_then_swallow, cancel, pause, unpause, arrange, submit}
use Rattle.dv_objects.specs.declared.canceller.Canceller.{Canceller}
use Rattle.dv_objects.specs.Pair.{Pair}
use Rattle.dv_objects.specs.declared.performed.Performed.{Performed}
use Rattle.dv_threads.proofs.JobLemmas.{aside_same}

-- the works of one world go on from those of another
record Grows (w u : World) : Type 0 where
  goes_on : GoesOn w.works u.works

same : (w u : World) → u.works ≡ w.works → Grows w u
same w u e = record { goes_on = record { more = []; same = e ∙ sym (append-nil w.works) } }

joined : (u v w : World) → Grows u v → Grows v w → Grows u w
joined u v w p q = record {
  goes_on = record {
    more = p.goes_on.more ++ q.goes_on.more;
    same =
        q.goes_on.same ∙ ap (λ (x : List Work). x ++ q.goes_on.more) p.goes_on.same
        ∙ append_assoc u.works p.goes_on.more q.goes_on.more;
  };
}

either : (b : Bool) (w u v : World) → Grows w u → Grows w v → Grows w (cond b u v)
either true w u v p q = p
either false w u v p q = q

-- a stopped world stays
unless : (b : Bool) (w u : World) → u.works ≡ w.works → Grows w (cond b w u)
unless b w u e = either b w w u (same w w refl) (same w u e)

unless_and : {A : Type 0} (b : Bool) (x : A) (p : A × World) (w : World) → p.1.works ≡ w.works
    → Grows w (cond {A = A × World} b (x, w) p).1
unless_and true x p w e = same w w refl
unless_and false x p w e = same w p.1 e

-- the result of a step of the store changes no works
after_same : {A : Type 0} (r : Result A Stop) (s : State Pair Canceller) (w : World) → (after r s w).works ≡ w.works
after_same (Ok x) s w = refl
after_same (Err stop) s w = refl

moved_same : (r : Result (Step Pair) Stop) (s : State Pair Canceller) (w : World) → (moved r s w).1.works ≡ w.works
moved_same (Ok x) s w = refl
moved_same (Err stop) s w = refl

named_same : (name : Option (List ℕ)) (r : Result ℕ Stop) (s : State Pair Canceller) (w : World)
    → (named name r s w).works ≡ w.works
named_same name (Ok d) s w = refl
named_same name (Err stop) s w = refl

fired_same : (r : Result Fired (Fault AlreadyCalled)) (s : State Pair Canceller) (w : World)
    → (fired r s w).1.works ≡ w.works
fired_same (Ok Set) s w = refl
fired_same (Ok Swallowed) s w = refl
fired_same (Err (fault.Refused already)) s w = refl
fired_same (Err fault.Limit) s w = refl
fired_same (Err fault.OutOfMemory) s w = refl

swallows_same : (d : ℕ) (r : Result Fired (Fault AlreadyCalled)) (s : State Pair Canceller) (w : World)
    → (fired_then_swallows d r s w).works ≡ w.works
swallows_same d (Ok Set) s w = refl
swallows_same d (Ok Swallowed) s w = refl
swallows_same d (Err (fault.Refused already)) s w = refl
swallows_same d (Err fault.Limit) s w = refl
swallows_same d (Err fault.OutOfMemory) s w = refl

unpaused_same : (r : Result Unit (Fault NotPaused)) (s : State Pair Canceller) (w : World)
    → (unpaused r s w).1.works ≡ w.works
unpaused_same (Ok x) s w = refl
unpaused_same (Err (fault.Refused already)) s w = refl
unpaused_same (Err fault.Limit) s w = refl
unpaused_same (Err fault.OutOfMemory) s w = refl

one_and_same : {A : Type 0} (b : Bool) (t u : A × World) (w : World) → t.1.works ≡ w.works → u.1.works ≡ w.works
    → (cond {A = A × World} b t u).1.works ≡ w.works
one_and_same true t u w e f = e
one_and_same false t u w e f = f

grow : Lasting Grows
unfolding step put put_deferred append make fire fire_then_swallow cancel pause unpause arrange submit
grow = record {
  stays = λ w. same w w refl;
  joins = joined;
  by_stop = λ w. same w _ refl;
  by_step = λ d w. unless_and w.stopped _ _ w (moved_same _ _ w);
  by_put = λ d value w. unless w.stopped w _ (after_same _ _ w);
  by_put_deferred = λ d e w. unless w.stopped w _ (after_same _ _ w);
  by_append = λ d pair w. unless w.stopped w _ (after_same _ _ w);
  by_make = λ name canceller w. unless w.stopped w _ (named_same name _ _ w);
  by_fire = λ d value w. unless_and w.stopped _ _ w (fired_same _ _ w);
  by_fire_then_swallow = λ d w. unless w.stopped w _ (swallows_same d _ _ w);
  by_cancel = λ d w. unless_and w.stopped _ _ w (one_and_same _ _ _ w refl refl);
  by_pause = λ d w. unless w.stopped w _ (after_same _ _ w);
  by_unpause = λ d w. unless_and w.stopped _ _ w (unpaused_same _ _ w);
  by_aside = λ e change w a. same w _ (aside_same e change w);
  by_arrange = λ change w. unless w.stopped w _ refl;
  by_submit =
      λ d pool work w. either w.stopped w w _ (same w w refl)
      (either (is_full w.works) w w _ (same w w refl) (either (fits w.journal (entry.Job (length w.works) d)) w _ _
      (record { goes_on = record { more = work ∷ []; same = refl } }) (same w _ refl)));
}

-- a Deferred that is fired submits nothing
kept_and : {A : Type 0} (b : Bool) (x : A) (p : A × World) (w : World) → p.1.works ≡ w.works
    → (cond {A = A × World} b (x, w) p).1.works ≡ w.works
kept_and true x p w e = refl
kept_and false x p w e = e

fire_same : (d : ℕ) (value : Value) (w : World) → (fire d value w).1.works ≡ w.works
unfolding fire
fire_same d value w = kept_and w.stopped _ _ w (fired_same _ _ w)

settle_same : (d : ℕ) (o : Follow) (w : World) → (settle_next d o w).2 ≡ w
settle_same d follow.Settle w = refl
settle_same d follow.Nothing w = refl
settle_same d (follow.Raise failure) w = refl

delivered_same : (d : ℕ) (o : Option Value) (w : World) → (rule.run (fire_with d o) w).2.works ≡ w.works
delivered_same d None w = refl
delivered_same d (Some value) w =
    ap (λ (u : World). u.works) (settle_same d (fire d value w).0 (fire d value w).1) ∙ fire_same d value w

ended_same : (end : TurnEnd) (p : Performed) (w : World) → (ended_with end p w).2.works ≡ w.works
ended_same Ended p w = refl
ended_same (Delivers job d) p w = delivered_same d (job_result job w.works) w

delivered_works : (d : ℕ) (o : Option Value) (old new : Turn) → new ≡ rule.after (fire_with d o) old
    → new.world.works ≡ old.world.works
delivered_works d o old new e =
    subst (λ (turn : Turn). turn.world.works ≡ old.world.works) (sym e) (delivered_same d o old.world)

-- so it is where that is the last step
pub delivers_works : (r : Result (Unit {0}) AllocError) (d : ℕ) (o : Option Value) (works : List Work) (old new : Turn)
    → works ≡ old.world.works → OnOk r (new ≡ rule.after (fire_with d o) old) → OnOk r (works ≡ new.world.works)
delivers_works (Ok _) d o works old new e h = e ∙ sym (delivered_works d o old new h)
delivers_works (Err _) d o works old new e h = h

-- they go on by a turn, and when an event begins
pub turned_goes_on : (f : Frame) (old new : Turn) (end : TurnEnd)
    → ending end new ≡ rule.after (rule_of f old.performed) old → GoesOn old.world.works new.world.works
turned_goes_on f old new end e =
    subst (λ works. GoesOn old.world.works works) (ended_same end new.performed new.world)
    (subst (λ (turn : Turn). GoesOn old.world.works turn.world.works) (sym e)
    (((turned_fair f old.performed old.world).comes.keeps Grows grow).goes_on))

pub happening_goes_on : (occurrence : Occurrence) (old new : Turn) → new ≡ rule.after (happens occurrence) old
    → GoesOn old.world.works new.world.works
happening_goes_on occurrence old new e =
    subst (λ (turn : Turn). GoesOn old.world.works turn.world.works) (sym e)
    (((happening_comes occurrence old.world).keeps Grows grow).goes_on)
