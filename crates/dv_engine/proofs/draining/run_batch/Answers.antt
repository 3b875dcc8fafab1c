use Rattle.dv_engine.proofs.EngineLemmas.{run_bounded}
use Rattle.dv_engine.specs.Engine.{begun_for}
use Rattle.dv_engine.proofs.draining.run_batch.Goals as goal

pub run_posts-requires-clause-bounded : goal.run_posts-requires-clause-bounded
run_posts-requires-clause-bounded g c =
    run_bounded
    (begun_for c.args.phase) c.args.turn.now.world c.log_drain.new.world c.in_ok-log_drain.ensures.runs
    c.requires.bounded
