use Rattle.std.proofs.Common.{subst}
use Rattle.dv_prims.specs.Tickets.{AreBelow}
use Rattle.dv_prims.proofs.WaitingLemmas.{below_front, kept_less}
use Rattle.dv_prims.proofs.waiting_list.WaitingList.drop_back.Goals as goal

pub invariant_of-self : goal.invariant_of-self
invariant_of-self c =
    let kept = c.self.inside in
    let last = c.in-Some.ensures in
    let below = below_front kept.given c.pop_last.new.self.entries (c.in-Some.ticket, c.in-Some.number)
    (subst (AreBelow kept.given) last.removal c.self.invariant.below) in
    kept_less kept.order c.pop_last.new.self kept.tickets c.remove.new.self kept.given c.in-Some.number c.in-Some.ticket
    c.self.invariant below last.value last.ordered last.updates.0 c.remove.ensures.updates.0
