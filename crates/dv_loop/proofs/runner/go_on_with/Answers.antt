use Rattle.std.proofs.Common.{List, sym, subst}
use Rattle.dv_script.specs.declared.work.Work.{Work}
use Rattle.dv_loop.proofs.JobsKept.{turned_goes_on}
use Rattle.dv_threads.specs.Threading.{GoesOn}
use Rattle.dv_loop.proofs.runner.go_on_with.Goals as goal

pub submit_all-requires : goal.submit_all-requires
submit_all-requires g c =
    subst (λ (works : List Work). GoesOn c.args.jobs.now works) (sym c.works.ensures.works)
    (subst (λ (works : List Work). GoesOn works c.perform_frame.new.turn.world.works) (sym c.requires.jobs)
    (turned_goes_on c.args.frame c.args.turn.now c.perform_frame.new.turn c.in_ok-end.end c.in_ok-end.ensures))
