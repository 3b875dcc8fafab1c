use Rattle.std.proofs.Common.{◌≡◌}
use Rattle.dv_posts.specs.Receiving.{AreRead}
use Rattle.dv_posts.proofs.inbox.take_between.Given as goal

abbrev pub invariant-loop-caller : goal.invariant-loop-caller
invariant-loop-caller l =
    (l.receivers.items ≡ l.initial.receivers.items)
    × AreRead l.fn.from l.caller l.receivers.items
