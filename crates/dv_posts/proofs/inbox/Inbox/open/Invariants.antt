use Rattle.std.proofs.Common.{◌≡◌, ◌≤◌, All}
use Rattle.std.specs.Prelude.{vec_len, vec_capacity}
use Rattle.dv_posts.specs.Posts.{AreOf, IsFresh, IsNew}
use Rattle.dv_posts.specs.Receiving.{inbox_of}
use Rattle.dv_posts.proofs.inbox.Inbox.open.Given as goal

abbrev pub invariant-loop-caller : goal.invariant-loop-caller
invariant-loop-caller l =
    IsNew l.caller (inbox_of l.receivers.items)
    × AreOf (inbox_of l.receivers.items) l.posters.items
    × All (IsFresh l.capacity) l.posters.items
    × (l.callers ≤ vec_capacity l.receivers)
    × (l.callers ≤ vec_capacity l.posters)
    × (vec_len l.receivers ≡ l.caller)
    × (vec_len l.posters ≡ l.caller)
