use Rattle.std.proofs.Common.{◌≡◌, take}
use Rattle.dv_orders.specs.Faults.{drains_of}
use Rattle.dv_orders.proofs.checking.drains_of.Given as goal

-- those of the events so far
abbrev pub invariant-loop-event : goal.invariant-loop-event
invariant-loop-event l = l.drains.items ≡ drains_of (take l.event-index l.events)
