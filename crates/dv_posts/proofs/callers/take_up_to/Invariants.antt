use Rattle.std.proofs.Common.{◌≡◌, ◌++◌, length}
use Rattle.dv_posts.specs.Batches.{Batch}
use Rattle.dv_posts.specs.Posts.{SameInbox}
use Rattle.dv_posts.specs.Callers.{TookBatches}
use Rattle.dv_posts.proofs.callers.take_up_to.Given as goal

-- so many were taken, whatever was before
abbrev pub invariant-loop : goal.invariant-loop
invariant-loop l = record {
  same : SameInbox l.initial.inbox l.inbox;
  count : length l.batch ≡ l.counter;
  took : (before : Batch) → TookBatches l.initial.inbox before → TookBatches l.inbox (before ++ l.batch);
}
