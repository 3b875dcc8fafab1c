use Rattle.std.proofs.Common.{◌≡◌, length}
use Rattle.dv_engine.specs.declared.engine.Phase.TheVariants.{Going}
use Rattle.dv_posts.specs.Posts.{SameInbox}
use Rattle.dv_run.specs.Driving.{Agree}
use Rattle.dv_run.proofs.driving.perform_events.Given as goal

-- it goes on with the same script and the same inbox, of which it has all that was taken
abbrev pub invariant-loop-engine : goal.invariant-loop-engine
invariant-loop-engine g l = record {
  script : l.engine.script ≡ l.initial.engine.script;
  going : l.engine.phase ≡ Going;
  same : SameInbox l.initial.inbox l.inbox;
  agree : Agree l.engine l.inbox;
}

abbrev pub decreases-loop-engine : goal.decreases-loop-engine
decreases-loop-engine g l = length l.engine.left
