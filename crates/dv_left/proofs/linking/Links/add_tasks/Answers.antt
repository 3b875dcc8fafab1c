use Rattle.dv_left.proofs.RecordsLemmas.{line_kept}
use Rattle.dv_left.specs.declared.left.Hang.TheVariants as hang
use Rattle.dv_left.proofs.linking.Links.add_tasks.Goals as goal

pub loop-number-preserved : goal.loop-number-preserved
loop-number-preserved c =
    line_kept hang.Task
    (λ x. x.waiting) c.loop-number.number c.args.tasks.now c.index-tasks-number.result _ c.loop-number.self _ _
    c.loop-number-test.true c.index-tasks-number.is c.as_slice.ensures c.in_ok-hang_all.ensures c.loop-number.invariant
