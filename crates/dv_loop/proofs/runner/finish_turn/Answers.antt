use Rattle.dv_objects.specs.declared.performed.Performed.TheVariants.{Done}
use Rattle.dv_loop.proofs.JobsKept.{delivers_works}
use Rattle.dv_loop.proofs.runner.finish_turn.Goals as goal
use Rattle.std.proofs.Common.{◌∙◌}

pub returns-in_ok-value-in-Delivers-clause-jobs : goal.returns-in_ok-value-in-Delivers-clause-jobs
returns-in_ok-value-in-Delivers-clause-jobs g c =
    delivers_works c.deliver.result c.in-Delivers.id c.in_ok-value-in-Delivers.value c.outcome.new.self
    (record c.args.turn.now { performed = Done }) c.deliver.new.turn
    (c.outcome.ensures.same ∙ c.requires) c.deliver.ensures
