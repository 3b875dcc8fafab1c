use Rattle.std.proofs.Common.{◌∙◌, ap, length}
use Rattle.std.proofs.lemmas.List.{length-map}
use Rattle.dv_left.proofs.RecordsLemmas.{pushed, record_kept}
use Rattle.dv_left.specs.Left.{standing_of}
use Rattle.dv_store.specs.Outcome.{outcome_of}
use Rattle.dv_left.proofs.end.standings_of.Goals as goal

pub loop-record-preserved : goal.loop-record-preserved
loop-record-preserved c =
    let rs = c.loop-record.yielded in
    let r = c.in-Some.record in
    let count =
    c.in_ok-id.ensures ∙ ap length (c.as_slice.ensures ∙ c.loop-record.invariant.0) ∙ length-map rs outcome_of in (
      pushed outcome_of rs r _ _ _ c.in_ok-push-2.ensures.ok c.loop-record.invariant.0 c.parted-outcome.ensures.outcome,
      pushed standing_of rs r _ _ _ c.in_ok-push.ensures.ok c.loop-record.invariant.1 c.standing_of.ensures,
      record_kept rs r c.in_ok-id.id c.parted-outcome.result.1 c.args.links.now c.loop-record.links c.add_items.new.self
          count c.parted-outcome.ensures.items c.loop-record.invariant.2 c.in_ok-add_items.ensures,
    )
