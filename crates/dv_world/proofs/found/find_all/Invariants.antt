use Rattle.std.proofs.Common.{◌≡◌, drop}
use Rattle.dv_world.specs.Found.{deferreds_at}
use Rattle.dv_world.proofs.FoundLemmas.{with_front}
use Rattle.dv_world.proofs.found.find_all.Given as goal

abbrev pub invariant-loop-name : goal.invariant-loop-name
invariant-loop-name l =
    with_front l.found (deferreds_at l.itself (drop l.name-index l.names) l.world)
    ≡ deferreds_at l.itself l.names l.world
