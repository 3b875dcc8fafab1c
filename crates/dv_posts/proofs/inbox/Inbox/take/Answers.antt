use Rattle.std.proofs.Common.{◌+◌, refl, subst}
use Rattle.dv_posts.specs.Posts.{AllTaken, Inbox, SameInbox, Takes}
use Rattle.dv_posts.proofs.InboxLemmas.{all_taken, same_taken, takes_at}
use Rattle.dv_posts.proofs.inbox.Inbox.take.Goals as goal

pub returns-in_err-posted-clause-none : goal.returns-in_err-posted-clause-none
returns-in_err-posted-clause-none c =
    let old : Inbox = record { receivers = c.self.inside.receivers.items; next = c.self.inside.next } in
    rw c.from_residual.ensures (subst AllTaken c.self.view_is (all_taken old c.in_err-posted.ensures.none))

pub returns-clause-same : goal.returns-clause-same
returns-clause-same c =
    let new : Inbox =
    record { receivers = c.take_round.new.receivers.items; next = c.in_ok-posted.posted.caller + 1 } in
    subst (λ i. SameInbox i new) c.self.view_is (same_taken _ _ _ c.in_ok-posted.ensures.some)

pub returns-clause-some : goal.returns-clause-some
returns-clause-some c =
    let posted = c.in_ok-posted.posted in
    let old : Inbox = record { receivers = c.self.inside.receivers.items; next = c.self.inside.next } in
    let new : Inbox = record { receivers = c.take_round.new.receivers.items; next = posted.caller + 1 } in
    subst (λ i. Takes i new posted) c.self.view_is
    (takes_at old new posted c.in_ok-posted.ensures.some c.in_ok-posted.ensures.passed refl)
