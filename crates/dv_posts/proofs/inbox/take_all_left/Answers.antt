use Rattle.std.proofs.Common.{arith, ◌<◌, ◌∙◌, length}
use Rattle.std.proofs.lemmas.List.{length-set, get_or-set_other}
use Rattle.dv_posts.specs.Receiving.{inbox_of}
use Rattle.dv_posts.proofs.InboxLemmas.{left_taken_more, pair_at}
use Rattle.dv_posts.proofs.inbox.take_all_left.Goals as goal

pub take_left-requires : goal.take_left-requires
take_left-requires c =
    let i = c.loop-caller.invariant in
    let n = c.loop-caller.caller in
    let r = c.index_mut.result.now in
    let p = c.index_mut-in-loop-caller.result.now in
    let low : n < length c.args.receivers.items =
    (let t = c.loop-caller-test.true in let l = c.len-caller-end.ensures in omega (arith, t, l)) in
    record {
      pair = (pair_at (inbox_of c.args.receivers.items) c.args.posters.items n r p c.requires low
          (c.index_mut.ensures.value ∙ i.2 n r (omega arith))
          (c.index_mut-in-loop-caller.ensures.value ∙ i.3 n p (omega arith))).1;
    }

pub loop-caller-preserved : goal.loop-caller-preserved
loop-caller-preserved c =
    let i = c.loop-caller.invariant in
    let n = c.loop-caller.caller in
    let r = c.index_mut.result.now in
    let p = c.index_mut-in-loop-caller.result.now in
    let low : n < length c.args.receivers.items =
    (let t = c.loop-caller-test.true in let l = c.len-caller-end.ensures in omega (arith, t, l)) in (
      length-set _ _ _ ∙ i.0,
      length-set _ _ _ ∙ i.1,
      (λ k d more. get_or-set_other c.loop-caller.receivers.items n k c.take_left.new.self d (omega (arith, more))
          ∙ i.2 k d (omega (arith, more))),
      (λ k d more. get_or-set_other c.loop-caller.posters.items n k c.take_left.new.poster d (omega (arith, more))
          ∙ i.3 k d (omega (arith, more))),
      left_taken_more
          (inbox_of c.args.receivers.items) c.args.posters.items n r p c.loop-caller.rest c.take_left.new.rest
          c.requires low (c.index_mut.ensures.value ∙ i.2 n r (omega arith))
          (c.index_mut-in-loop-caller.ensures.value ∙ i.3 n p (omega arith)) c.in_ok-take_left.ensures i.4,
    )
