use Rattle.dv_survey.proofs.MetLemmas.{labeled_at}
use Rattle.dv_survey.proofs.lines.labels_of.Goals as goal

pub loop-outcome-preserved : goal.loop-outcome-preserved
loop-outcome-preserved c =
    let next =
    labeled_at c.args.format c.loop-outcome.met c.loop-outcome.labels c.args.outcomes.now c.loop-outcome.outcome-index
    c.outcome-item.result c.loop-outcome-test.true c.outcome-item.is c.loop-outcome.invariant in
    rw (
      c.in_ok-place.ensures.counted,
      c.in_ok-push.ensures.ok,
      c.in_ok-label.ensures,
      c.in_ok-place.ensures.place,
      c.shown_name-name.ensures,
    ) next
