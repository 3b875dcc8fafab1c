use Rattle.std.proofs.Common.{◌≡◌, map}
use Rattle.dv_left.specs.Hanging.{by_records, hung_by, turn_held_by, task_held_by}
use Rattle.dv_left.specs.Left.{standing_of}
use Rattle.dv_left.specs.Linking.{with_links}
use Rattle.dv_store.specs.Outcome.{outcome_of}
use Rattle.dv_left.proofs.end.standings_of.Given as goal

abbrev pub invariant-loop-record : goal.invariant-loop-record
invariant-loop-record l =
    (l.outcomes ≡ map outcome_of l.yielded)
    × (l.standings ≡ map standing_of l.yielded)
    × (l.links ≡ with_links (by_records hung_by 0 l.yielded) (by_records turn_held_by 0 l.yielded)
    (by_records task_held_by 0 l.yielded) l.initial.links)
