use Rattle.dv_laws.proofs.LoopsLemmas.{loops_turn}
use Rattle.dv_laws.proofs.laws.loops_turn.Goals as goal

pub returns : goal.returns
returns c = record { turns = loops_turn }
