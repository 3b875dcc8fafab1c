-- Each turn leads on by steps of the world, and leaves less to do, or less of each frame; and what happens in a run
-- begins so.
use Rattle.std.proofs.Common.{ℕ, Option, None, refl}
use Rattle.dv_frames.specs.declared.frame.Frame.{Frame}
use Rattle.dv_journal.specs.declared.entry.Entry.TheVariants as entry
use Rattle.dv_objects.specs.declared.performed.Performed.{Performed}
use Rattle.dv_loop.proofs.Fair.{Fair}
use Rattle.dv_loop.proofs.Fairly as fairly
use Rattle.dv_loop.proofs.Lasting.{Comes}
use Rattle.dv_loop.proofs.Lighter.{rank}
use Rattle.dv_loop.proofs.RuleComes.{rule_comes}
use Rattle.dv_loop.proofs.StepsCome.{by_aside}
use Rattle.dv_loop.specs.Acting.{begun}
use Rattle.dv_loop.specs.Beginning.{happening}
use Rattle.dv_definition.specs.Scripts.{Occurrence, Occurs, expect}
use Rattle.dv_definition.specs.Scripts.{Posts}
use Rattle.dv_loop.specs.Turning.{turned}
use Rattle.dv_definition.specs.Definition.{carry_out}
use Rattle.dv_script.specs.declared.action.Action.{Action, out-Action}
use Rattle.dv_script.specs.declared.action.Action.TheOpen.{Action-F}
use Rattle.dv_script.specs.declared.body.Body.{Body}
use Rattle.dv_script.specs.declared.body.Statement.{Statement}
use Rattle.dv_script.specs.declared.event.Event.TheVariants as event
use Rattle.dv_world.specs.World.{World}

pub turned_fair : (f : Frame) (p : Performed) (w : World) → Fair w (rank f) (turned f p w)
turned_fair f p w = fairly.turned_fair f p w

pub begun_comes : (itself : Option ℕ) (action : Action-F Action Statement Body) (w : World)
    → Comes w (begun itself action w).2
begun_comes itself action w = rule_comes (carry_out itself action) w

pub happening_comes : (o : Occurrence) (w : World) → Comes w (happening o w).2
happening_comes (Occurs (event.Action action)) w = begun_comes None (out-Action action) w
happening_comes (Occurs (event.Advance ticks)) w = by_aside (entry.Advance _) _ w refl
happening_comes (Occurs (event.Drain most)) w = by_aside entry.Drain _ w refl
happening_comes (Occurs (event.Expect name expected)) w = rule_comes (expect name expected) w
happening_comes (Posts posted body) w = by_aside (entry.Post posted.caller posted.index) _ w refl
