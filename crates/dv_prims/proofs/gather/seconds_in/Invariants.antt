use Rattle.std.proofs.Common.{◌≡◌, drop}
use Rattle.dv_prims.specs.DeferredList.{seconds_in}
use Rattle.dv_prims.proofs.GatherLemmas.{with_front}
use Rattle.dv_prims.proofs.gather.seconds_in.Given as goal

abbrev pub invariant-loop-place : goal.invariant-loop-place
invariant-loop-place l = with_front l.seconds (seconds_in (drop l.place-index l.places)) ≡ seconds_in l.places
