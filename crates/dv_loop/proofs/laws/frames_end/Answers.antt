use Rattle.dv_loop.proofs.Stopped.{stopped_worlds_stay, stopped_actions_stay}
use Rattle.dv_loop.proofs.Total.{frames_end, frames_have_one_result}
use Rattle.dv_loop.proofs.laws.frames_end.Goals as goal

pub returns-clause-ends : goal.returns-clause-ends
returns-clause-ends c = frames_end

pub returns-clause-one : goal.returns-clause-one
returns-clause-one c = frames_have_one_result

pub returns-clause-stopped : goal.returns-clause-stopped
returns-clause-stopped c = stopped_worlds_stay

pub returns-clause-actions : goal.returns-clause-actions
returns-clause-actions c = stopped_actions_stay
