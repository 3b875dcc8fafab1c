use Rattle.std.proofs.Common.{◌≡◌, ◌∙◌, [], ap, map, rules}
use Rattle.dv_left.proofs.LeftLemmas.{gathered_of, left_told, told_in_turn}
use Rattle.dv_left.specs.Left.{lock_of, queue_of, standing_of}
use Rattle.dv_store.specs.Outcome.{outcome_of}
use Rattle.dv_left.proofs.end.remains_of.Goals as goal

pub returns : goal.returns
returns c =
    let w = c.args.world in
    let o = w.objects in
    let links = c.link_rest.new.links in
    let is : links ≡ gathered_of w = search rules in
    let standings : c.as_slice-6.result.now ≡ map standing_of w.records = search rules in
    let calls : c.as_slice-7.result.now ≡ o.clock.calls = search rules in
    let loops : c.as_slice-8.result.now ≡ o.loops = search rules in
    let tasks : c.as_slice-9.result.now ≡ o.cooperators.tasks = search rules in
    let locks : c.as_slice-10.result.now ≡ map lock_of o.semaphores = search rules in
    let queues : c.in_ok-queues.queues.items ≡ map queue_of o.queues = search rules in
    let entries : c.entries.result.now ≡ w.journal.entries = search rules in
    let whole =
    told_in_turn w links _ _ _ _ _ _ _ _ _ _ _ c.in_ok-add_unhandled.ensures c.in_ok-add_rest.ensures
    c.in_ok-add_deferreds.ensures c.new-left.ensures standings calls loops tasks locks queues entries in
    record {
      journal = c.into_all-journal.ensures.journal;
      stopped = c.into_all-journal.ensures.stopped;
      outcomes = c.in_ok-outcomes.ensures.outcomes ∙ ap (map outcome_of) c.into_all-journal.ensures.records;
      left = whole ∙ left_told w links is;
    }
