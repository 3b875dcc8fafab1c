use Rattle.std.proofs.Common.{rules, ◌≡◌, length}
use Rattle.dv_orders.proofs.OrderLemmas.{first_order}
use Rattle.dv_orders.proofs.order.Order.first.Goals as goal

pub returns-clause-first : goal.returns-clause-first
returns-clause-first c =
    let sequence = c.in_ok-sequence.sequence in
    let cut = c.in_ok-cut.cut in
    let left : cut.left ≡ length sequence.posts.items = search rules in
    first_order c.args.script.now c.in_ok-drains.drains.items sequence.counts.items sequence.taken.items
    cut.lengths.items sequence.posts.items cut.left (search rules) (search rules) (search rules) (search rules) left
