use Rattle.std.proofs.Common.{◌≡◌, ◌+◌, ◌-◌, ◌^◌, ◌≤◌, min, drop}
use Rattle.dv_reader.specs.Limits.{ticks_in}
use Rattle.dv_reader.proofs.limits.ticks_in.Given as goal

abbrev pub invariant-loop-event : goal.invariant-loop-event
invariant-loop-event l =
    (l.total ≤ 2 ^ 64 - 1)
    × (min (l.total + ticks_in (drop l.event-index l.events)) (2 ^ 64 - 1) ≡ min (ticks_in l.events) (2 ^ 64 - 1))
