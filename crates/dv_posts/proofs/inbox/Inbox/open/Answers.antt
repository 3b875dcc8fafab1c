use Rattle.std.proofs.Common.{[], ◌∷◌, rules, ◌≡◌, ◌+◌, ◌∙◌, ap, subst, sym}
use Rattle.std.proofs.lemmas.List.Elements.{All-append}
use Rattle.dv_posts.specs.Posts.{IsFresh, IsNew, known}
use Rattle.dv_posts.specs.Receiving.{inbox_of}
use Rattle.dv_posts.proofs.InboxLemmas.{one_fresh, new_more, of_more, pair_ring}
use Rattle.dv_posts.proofs.inbox.Inbox.open.Goals as goal

pub loop-caller-preserved : goal.loop-caller-preserved
loop-caller-preserved c =
    let i = c.loop-caller.invariant in
    let n = c.loop-caller.caller in
    let inbox = c.loop-caller.receivers.items in
    let posters = c.loop-caller.posters.items in
    let r = c.new-in-loop-caller.result in
    let p = c.new-in-loop-caller-2.result in
    let is = c.new-in-loop-caller.ensures in
    let are = c.new-in-loop-caller-2.ensures in
    let ring : p.ring ≡ r.ring = ap (λ p. p.ring) are
    ∙ pair_ring c.in_ok-producer.producer.end c.in_ok-producer.consumer.end c.in_ok-producer.ensures.pair
    ∙ sym (ap (λ r. r.ring) is) in
    let inbox_is = c.push_reserved.ensures.items in
    let posters_is = c.push_reserved-in-loop-caller.ensures.items in (
      subst (λ l. IsNew (n + 1) (inbox_of l)) (sym inbox_is)
          (new_more n inbox r i.0 (ap (λ r. r.taken) is) (ap known is)),
      rw (inbox_is, posters_is) (of_more inbox posters r p i.1 (ap (λ p. p.caller) are ∙ sym i.0.count) ring),
      rw posters_is (All-append (IsFresh c.args.capacity) posters (p ∷ []) i.2
          (one_fresh c.args.capacity p (ap (λ p. p.posts) are, search rules))),
      search rules,
      search rules,
      search rules,
      search rules,
    )
