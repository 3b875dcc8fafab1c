use Rattle.dv_loop.proofs.Leading.{actions_mean, bodies_mean, cancels_mean, settling_means}
use Rattle.dv_loop.proofs.laws.parts_mean_what_is_defined.Goals as goal

pub returns-clause-actions : goal.returns-clause-actions
returns-clause-actions c = actions_mean

pub returns-clause-bodies : goal.returns-clause-bodies
returns-clause-bodies c = bodies_mean

pub returns-clause-cancels : goal.returns-clause-cancels
returns-clause-cancels c = cancels_mean

pub returns-clause-settling : goal.returns-clause-settling
returns-clause-settling c = settling_means
