use Rattle.std.proofs.Common.{◌≡◌, ◌≤◌, take, length}
use Rattle.std.specs.Prelude.{vec_len, vec_capacity}
use Rattle.dv_posts.specs.Posts.{counts_of}
use Rattle.dv_posts.specs.Receiving.{inbox_of}
use Rattle.dv_posts.proofs.inbox.counts.Given as goal

abbrev pub invariant-loop-receiver : goal.invariant-loop-receiver
invariant-loop-receiver l =
    (l.counts.items ≡ counts_of (inbox_of (take l.receiver-index l.fn.receivers)))
    × (vec_len l.counts ≡ l.receiver-index)
    × (length l.fn.receivers ≤ vec_capacity l.counts)
