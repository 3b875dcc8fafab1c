use Rattle.dv_clock.proofs.CallsLemmas.{index_taken_back}
use Rattle.dv_clock.proofs.clock.join.Goals as goal

pub returns-in-Err-clause-kept : goal.returns-in-Err-clause-kept
returns-in-Err-clause-kept c =
    index_taken_back c.args.waiting.now c.insert.new.self c.remove.new.self c.args.place c.requires.new
    c.in-Ok.ensures.updates.0 c.remove.ensures.updates.0
