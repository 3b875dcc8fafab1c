-- A run: what an engine and an inbox have of each other.
use Rattle.std.specs.Prelude.{◌≡◌}
use Rattle.dv_posts.specs.Batches.{AreComplete, AreNext, Batch, Callers, joined}
use Rattle.dv_engine.specs.Engine.{Engine}
use Rattle.dv_engine.specs.declared.engine.Phase.TheVariants.{Going, Ended, Over}
use Rattle.dv_posts.specs.Posts.{Inbox}
use Rattle.dv_posts.specs.Callers.{TookBatches}

-- what was taken of the inbox is in the engine's batches
abbrev pub Agree : Engine → Inbox → Type 0
Agree e box = TookBatches box (joined e.batches)

-- posts were taken of the inbox of which one isn't the next one of its caller
pub record HasStranger (callers : Callers) (box : Inbox) : Type 0 where
  pub posts : Batch
  pub took : TookBatches box posts
  pub strange : AreNext callers posts → ⊥

-- the batch of a drain was taken, and events go on
pub record HasDrained (before after : Engine) (box : Inbox) : Type 0 where
  pub script : after.script ≡ before.script
  pub left : after.left ≡ before.left
  pub going : after.phase ≡ Going
  pub agree : Agree after box

-- all events were performed
pub record HasPerformed (before after : Engine) (box : Inbox) : Type 0 where
  pub script : after.script ≡ before.script
  pub ended : after.phase ≡ Ended
  pub agree : Agree after box

-- the last batch was taken, and with it all posts
pub record HasTakenAll (before after : Engine) : Type 0 where
  pub script : after.script ≡ before.script
  pub over : after.phase ≡ Over
  pub complete : AreComplete after.script after.batches
