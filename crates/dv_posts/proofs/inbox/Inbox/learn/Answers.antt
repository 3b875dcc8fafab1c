use Rattle.std.proofs.Common.{◌≡◌, refl, slice_index_or, slice_set, subst, sym}
use Rattle.dv_posts.specs.Posts.{Inbox, IsOf, Learns, SameInbox}
use Rattle.dv_posts.proofs.InboxLemmas.{learns_at, same_learned, within_of}
use Rattle.dv_posts.proofs.inbox.Inbox.learn.Goals as goal

pub returns-clause-same : goal.returns-clause-same
returns-clause-same c =
    let old : Inbox = record { receivers = c.self.inside.receivers.items; next = c.self.inside.next } in
    let n = c.caller-caller.result in
    let new : Inbox = record { receivers = slice_set old.receivers n c.learn.new.self; next = old.next } in
    let p = c.args.poster.now in
    let low = within_of old p n c.caller-caller.ensures (subst (λ i. IsOf i p) (sym c.self.view_is) c.requires.of) in
    subst (λ i. SameInbox i new) c.self.view_is
    (same_learned old.receivers n _ _ low c.index_mut-receiver.ensures.value c.learn.ensures.ring)

pub returns-clause-known : goal.returns-clause-known
returns-clause-known c =
    let old : Inbox = record { receivers = c.self.inside.receivers.items; next = c.self.inside.next } in
    let p = c.args.poster.now in
    let r = c.index_mut-receiver.result.now in
    let s = c.learn.new.self in
    let at = c.caller-caller.ensures in
    let low = within_of old p p.caller refl (subst (λ i. IsOf i p) (sym c.self.view_is) c.requires.of) in
    let is : r ≡ slice_index_or old.receivers p.caller r =
    subst (λ n. r ≡ slice_index_or old.receivers n r) at c.index_mut-receiver.ensures.value in
    subst (λ n. Learns c.args.self.now p (record { receivers = slice_set old.receivers n s; next = old.next })) (sym at)
    (subst (λ i. Learns i p (record { receivers = slice_set old.receivers p.caller s; next = old.next })) c.self.view_is
    (learns_at old p r s low is c.learn.ensures.taken c.learn.ensures.all))
