use Rattle.std.proofs.Common.{refl}
use Rattle.dv_definition.proofs.ConditionsHold.{calls_come, cancels_reach, ends_leave, failing_throw, failures_thrown}
use Rattle.dv_definition.proofs.ConditionsHold.{lists_fire, tasks_leave}
use Rattle.dv_definition.proofs.laws.steps_go_by_the_page.Goals as goal

pub returns-clause-used : goal.returns-clause-used
returns-clause-used c = λ r. refl

pub returns-clause-waited : goal.returns-clause-waited
returns-clause-waited c = λ d e r. refl

pub returns-clause-cancelled : goal.returns-clause-cancelled
returns-clause-cancelled c = cancels_reach

pub returns-clause-fired : goal.returns-clause-fired
returns-clause-fired c = lists_fire

pub returns-clause-called : goal.returns-clause-called
returns-clause-called c = calls_come

pub returns-clause-turned : goal.returns-clause-turned
returns-clause-turned c = λ x c. refl

pub returns-clause-stepped : goal.returns-clause-stepped
returns-clause-stepped c = λ t. refl

pub returns-clause-tasks : goal.returns-clause-tasks
returns-clause-tasks c = tasks_leave

pub returns-clause-thrown : goal.returns-clause-thrown
returns-clause-thrown c = failures_thrown

pub returns-clause-left : goal.returns-clause-left
returns-clause-left c = ends_leave

pub returns-clause-ended : goal.returns-clause-ended
returns-clause-ended c = failing_throw
