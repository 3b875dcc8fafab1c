use Rattle.std.proofs.Common.{◌≡◌, ◌+◌, length}
use Rattle.std.specs.List.{flat_map}
use Rattle.dv_left.specs.Hanging.{by_item, hung_by, turn_held_by, task_held_by}
use Rattle.dv_left.specs.Linking.{with_links}
use Rattle.dv_left.proofs.linking.Links.add_items.Given as goal

abbrev pub invariant-loop-used : goal.invariant-loop-used
invariant-loop-used l =
    (l.used + length l.unused ≡ length l.initial.unused)
    × (with_links (flat_map (by_item hung_by l.at) l.unused) (flat_map (by_item turn_held_by l.at) l.unused)
    (flat_map (by_item task_held_by l.at) l.unused) l.self
    ≡ with_links (flat_map (by_item hung_by l.at) l.initial.unused) (flat_map (by_item turn_held_by l.at)
    l.initial.unused) (flat_map (by_item task_held_by l.at) l.initial.unused) l.initial.self)
