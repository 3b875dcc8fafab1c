use Rattle.dv_world.proofs.TurnLemmas.{turns_have_their_bodies}
use Rattle.dv_world.proofs.laws.turns_have_their_bodies.Goals as goal

pub returns : goal.returns
returns c = turns_have_their_bodies
