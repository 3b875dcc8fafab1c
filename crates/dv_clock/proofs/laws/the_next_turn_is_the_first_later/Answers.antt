use Rattle.dv_clock.proofs.LoopLemmas.{next_is_first}
use Rattle.dv_clock.proofs.laws.the_next_turn_is_the_first_later.Goals as goal

pub returns : goal.returns
returns c = next_is_first
