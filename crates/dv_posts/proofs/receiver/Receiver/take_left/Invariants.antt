use Rattle.std.proofs.Common.{◌≡◌, ◌+◌, ◌++◌, length, map}
use Rattle.dv_posts.specs.Posts.{post}
use Rattle.dv_posts.proofs.receiver.Receiver.take_left.Given as goal

abbrev pub invariant-loop : goal.invariant-loop
invariant-loop l =
    (l.rest ++ map (post l.caller) l.self.seen ≡ l.initial.rest ++ map (post l.caller) l.initial.self.seen)
    × (length l.self.seen + l.counter ≡ l.left)
