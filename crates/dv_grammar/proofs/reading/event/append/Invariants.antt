use Rattle.std.proofs.Common.{◌≡◌, ◌++◌}
use Rattle.std.specs.Vec.Iter.{into_iter_items}
use Rattle.dv_grammar.proofs.reading.event.append.Given as goal

abbrev pub invariant-loop-event : goal.invariant-loop-event
invariant-loop-event l = l.events ++ into_iter_items l.event-iterator ≡ l.initial.events ++ l.fn.more
