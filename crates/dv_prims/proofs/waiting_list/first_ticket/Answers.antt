use Rattle.dv_prims.proofs.WaitingLemmas.{no_ticket, is_first_ticket, no_first_ticket}
use Rattle.dv_prims.proofs.waiting_list.first_ticket.Goals as goal

pub returns-in_err-holder : goal.returns-in_err-holder
returns-in_err-holder c =
    rw c.from_residual.ensures (no_ticket c.args.tickets.now c.args.number c.range.result
    (c.range.ensures.in_range tt) c.in_err-holder.ensures.steps.0)

pub returns-then-holder-number : goal.returns-then-holder-number
returns-then-holder-number c =
    is_first_ticket c.args.tickets.now c.args.number c.range.result c.next.new.self c.in_ok-holder.field-0.now
    (c.range.ensures.in_range tt) c.in_ok-holder.ensures.steps c.if-holder-number.true

pub returns-else-holder-number : goal.returns-else-holder-number
returns-else-holder-number c =
    no_first_ticket c.args.tickets.now c.args.number c.range.result c.next.new.self c.in_ok-holder.field-0.now
    (c.range.ensures.in_range tt) c.in_ok-holder.ensures.steps c.if-holder-number.false
