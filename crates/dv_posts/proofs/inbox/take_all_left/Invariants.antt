use Rattle.std.proofs.Common.{ℕ, ◌≡◌, ◌≤◌, length, slice_index_or}
use Rattle.dv_posts.specs.Posts.{Receiver, Poster}
use Rattle.dv_posts.specs.Receiving.{inbox_of}
use Rattle.dv_posts.proofs.InboxLemmas.{LeftTaken}
use Rattle.dv_posts.proofs.inbox.take_all_left.Given as goal

abbrev pub invariant-loop-caller : goal.invariant-loop-caller
invariant-loop-caller l =
    (length l.receivers.items ≡ length l.initial.receivers.items)
    × (length l.posters.items ≡ length l.initial.posters.items)
    × ((k : ℕ) (d : Receiver) → l.caller ≤ k
    → slice_index_or l.receivers.items k d ≡ slice_index_or l.initial.receivers.items k d)
    × ((k : ℕ) (d : Poster) → l.caller ≤ k
    → slice_index_or l.posters.items k d ≡ slice_index_or l.initial.posters.items k d)
    × LeftTaken (inbox_of l.initial.receivers.items) l.initial.posters.items l.caller l.rest
