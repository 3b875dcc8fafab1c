use Rattle.dv_prims.proofs.WaitingLemmas.{found_taken_back}
use Rattle.dv_prims.proofs.waiting_list.keep.Goals as goal

pub returns-in_default-insert-clause-same_found : goal.returns-in_default-insert-clause-same_found
returns-in_default-insert-clause-same_found c =
    found_taken_back c.args.tickets.now c.insert.new.self c.remove.new.self
    (c.args.number, c.args.ticket) c.requires.new c.in-Ok.ensures.updates.0 c.remove.ensures.updates.0
