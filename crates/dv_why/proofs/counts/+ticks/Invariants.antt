use Rattle.std.proofs.Common.{◌≡◌, ◌+◌, ◌*◌, ◌-◌, ◌^◌, ◌≤◌, min, drop}
use Rattle.serde_json.specs.View.{items_view}
use Rattle.dv_why.specs.Counts.{all_ticks, listed_ticks, ticks_among}
use Rattle.dv_why.proofs.counts.+ticks.Given as goal

abbrev pub decreases-ticks_among : goal.decreases-ticks_among
decreases-ticks_among l = 3 * l.levels

abbrev pub decreases-listed_ticks : goal.decreases-listed_ticks
decreases-listed_ticks l = 3 * l.levels + 1

abbrev pub decreases-all_ticks : goal.decreases-all_ticks
decreases-all_ticks l = 3 * l.levels + 2

-- what is counted, with what is left, is the whole
abbrev pub invariant-all_ticks-loop-event : goal.invariant-all_ticks-loop-event
invariant-all_ticks-loop-event l =
    (l.total ≤ 2 ^ 64 - 1)
    × (min (l.total + all_ticks (listed_ticks (ticks_among l.levels)) (items_view (drop l.event-index l.events)))
    (2 ^ 64 - 1)
    ≡ min (all_ticks (listed_ticks (ticks_among l.levels)) (items_view l.events)) (2 ^ 64 - 1))
