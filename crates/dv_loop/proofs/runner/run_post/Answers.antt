use Rattle.std.proofs.Common.{rules, ◌∙◌, List, sym, subst}
use Rattle.dv_script.specs.declared.work.Work.{Work}
use Rattle.dv_frames.specs.Bounds.{Bounded}
use Rattle.dv_frames.specs.declared.turn.Turn.{Turn}
use Rattle.dv_loop.proofs.JobsKept.{happening_goes_on}
use Rattle.dv_loop.proofs.Stopped.{happens_stopped}
use Rattle.dv_loop.proofs.Turns.{happening_bounded}
use Rattle.dv_definition.specs.Scripts.{Posts}
use Rattle.dv_threads.specs.Threading.{GoesOn}
use Rattle.dv_loop.proofs.runner.run_post.Goals as goal

pub submit_all-requires : goal.submit_all-requires
submit_all-requires g c =
    subst (λ (works : List Work). GoesOn c.args.jobs.now works) (sym c.works.ensures.works)
    (subst (λ (works : List Work). GoesOn works c.begin_post.new.turn.world.works) (sym c.requires.jobs)
    (subst (λ (turn : Turn). GoesOn turn.world.works c.begin_post.new.turn.world.works) c.clear_turn.ensures
    (happening_goes_on
    (Posts c.args.posted.now c.args.body.now) c.clear_turn.new.turn c.begin_post.new.turn c.in_ok-begin_post.ensures)))

pub run-requires : goal.run-requires
run-requires g c = record {
  bounded =
      happening_bounded
      (Posts c.args.posted.now c.args.body.now) c.clear_turn.new.turn c.begin_post.new.turn c.in_ok-begin_post.ensures
      (subst (λ (turn : Turn). Bounded turn.world) (sym c.clear_turn.ensures) c.requires.bounded);
  jobs = c.in_ok-submit_all.ensures ∙ c.works.ensures.works;
}

pub returns-then-is_stopped-clause-happens : goal.returns-then-is_stopped-clause-happens
returns-then-is_stopped-clause-happens g c =
    happens_stopped (Posts c.args.posted.now c.args.body.now) c.args.turn.now.world (search rules)
