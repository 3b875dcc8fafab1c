-- A stopped world stays as it is.
use Rattle.std.proofs.Common.{◌≡◌, Bool, true, false, cond, List, [], refl, ap, subst, sym, ◌∙◌}
use Rattle.dv_loop.proofs.Lasting.{Lasting}
use Rattle.dv_loop.proofs.Total.{gives_keeps, begun_gives_keeps, happens_keeps, frames_end, happens_end}
use Rattle.dv_loop.specs.Laws.{StoppedWorldsStay, StoppedActionsStay}
use Rattle.dv_loop.specs.Meaning.{Gives, Ends, Happens}
use Rattle.dv_definition.specs.Scripts.{Occurrence}
use Rattle.dv_frames.specs.declared.frame.Frame.{Frame}
use Rattle.dv_world.specs.World.{World, step, put, put_deferred, append, make, fire, fire_then_swallow, cancel, pause}
use Rattle.dv_world.specs.World.{unpause, aside, arrange, submit, with_stop}
use Rattle.dv_objects.specs.declared.performed.Performed.{Performed}

record Stays (w u : World) : Type 0 where
  where_stopped : w.stopped ≡ true → u ≡ w

kept : (b : Bool) (w u : World) → b ≡ true → cond b w u ≡ w
kept true w u h = refl
kept false w u h = absurd cc

kept_and : {A : Type 0} (b : Bool) (x : A) (p : A × World) (w : World) → b ≡ true
    → (cond {A = A × World} b (x, w) p).1 ≡ w
kept_and true x p w h = refl
kept_and false x p w h = absurd cc

pub stop_same : (w : World) → w.stopped ≡ true → with_stop w ≡ w
stop_same w h = ap (λ b. record w { stopped = b }) (sym h)

stays : Lasting Stays
unfolding step put put_deferred append make fire fire_then_swallow cancel pause unpause aside arrange submit
stays = record {
  stays = λ w. record { where_stopped = λ h. refl };
  joins = λ u v w p q. record {
    where_stopped = λ h. let first = p.where_stopped h in q.where_stopped (rw first h) ∙ first;
  };
  by_stop = λ w. record { where_stopped = stop_same w };
  by_step = λ d w. record { where_stopped = λ h. kept_and w.stopped _ _ w h };
  by_put = λ d value w. record { where_stopped = λ h. kept w.stopped w _ h };
  by_put_deferred = λ d e w. record { where_stopped = λ h. kept w.stopped w _ h };
  by_append = λ d pair w. record { where_stopped = λ h. kept w.stopped w _ h };
  by_make = λ name canceller w. record { where_stopped = λ h. kept w.stopped w _ h };
  by_fire = λ d value w. record { where_stopped = λ h. kept_and w.stopped _ _ w h };
  by_fire_then_swallow = λ d w. record { where_stopped = λ h. kept w.stopped w _ h };
  by_cancel = λ d w. record { where_stopped = λ h. kept_and w.stopped _ _ w h };
  by_pause = λ d w. record { where_stopped = λ h. kept w.stopped w _ h };
  by_unpause = λ d w. record { where_stopped = λ h. kept_and w.stopped _ _ w h };
  by_aside = λ e change w a. record { where_stopped = λ h. kept w.stopped w _ h };
  by_arrange = λ change w. record { where_stopped = λ h. kept w.stopped w _ h };
  by_submit = λ d pool work w. record { where_stopped = λ h. kept w.stopped w _ h };
}

pub stopped_worlds_stay : StoppedWorldsStay
stopped_worlds_stay fs o w p u h g = (gives_keeps Stays stays fs o w p u g).where_stopped h

pub stopped_actions_stay : StoppedActionsStay
stopped_actions_stay itself action w p u h g = (begun_gives_keeps Stays stays itself action w p u g).where_stopped h

-- so the loop may end there
pub loop_stopped : (stack left : List Frame) (o last : Performed) (w u : World)
    → ((q : Performed) (v : World) → Gives left last u q v → Gives stack o w q v) → u.stopped ≡ true → Ends stack o w u
loop_stopped stack left o last w u leads h =
    let r = frames_end left last u in
    (r.0, leads r.0 u (subst (λ v. Gives left last u r.0 v) (stopped_worlds_stay left last u r.0 r.1 h r.2) r.2))

-- or where the stack is empty
pub loop_emptied : (stack left : List Frame) (o last : Performed) (w u : World) → left ≡ []
    → ((q : Performed) (v : World) → Gives left last u q v → Gives stack o w q v) → Ends stack o w u
loop_emptied stack left o last w u e leads =
    (last, leads last u (subst (λ fs. Gives fs last u last u) (sym e) (record { depth = 0; ends = refl })))

-- and nothing has to begin
pub happens_stopped : (occurrence : Occurrence) (w : World) → w.stopped ≡ true → Happens occurrence w w
happens_stopped occurrence w h =
    let r = happens_end occurrence w in
    subst (λ u. Happens occurrence w u) ((happens_keeps Stays stays occurrence w r.0 r.1).where_stopped h) r.1
