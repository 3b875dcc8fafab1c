use Rattle.std.proofs.Common.{◌≡◌, drop, length, take}
use Rattle.dv_engine.specs.declared.engine.Phase.TheVariants.{Going}
use Rattle.dv_posts.specs.Batches.{Fit}
use Rattle.dv_replay.proofs.taking.take_all.Given as goal

-- it goes on with the same script, has taken so many batches, and the others fit what is left
abbrev pub invariant-loop-engine : goal.invariant-loop-engine
invariant-loop-engine g l = record {
  script : l.engine.script ≡ l.initial.engine.script;
  going : l.engine.phase ≡ Going;
  batches : l.engine.batches ≡ take l.taken l.batches;
  fit : Fit l.engine.left (drop l.taken l.batches);
}

abbrev pub decreases-loop-engine : goal.decreases-loop-engine
decreases-loop-engine g l = length l.engine.left
