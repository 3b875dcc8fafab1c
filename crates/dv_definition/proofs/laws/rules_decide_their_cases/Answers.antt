use Rattle.std.proofs.Common.{refl}
use Rattle.dv_definition.proofs.CasesHold.{tokens_are_waited_for, full_queues_refuse, fired_lists_stay, turns_follow}
use Rattle.dv_definition.proofs.CasesHold.{ended_tasks_stay, name_errors_are_thrown, errbacks_are_for_failures}
use Rattle.dv_definition.proofs.CasesHold.{many_jobs_are_refused, failures_of_calls_are_told, unmet_runs_end}
use Rattle.dv_definition.proofs.CasesHold.{fair_turns_go_round, joiners_want_ticks, stopped_ones_take_none}
use Rattle.dv_definition.proofs.CasesHold.{turns_take_bodies}
use Rattle.dv_definition.proofs.laws.rules_decide_their_cases.Goals as goal

pub returns-clause-deferreds : goal.returns-clause-deferreds
returns-clause-deferreds c = λ d pair w. refl

pub returns-clause-cancelling : goal.returns-clause-cancelling
returns-clause-cancelling c = λ d e w. refl

pub returns-clause-locks : goal.returns-clause-locks
returns-clause-locks c = tokens_are_waited_for

pub returns-clause-queues : goal.returns-clause-queues
returns-clause-queues c = full_queues_refuse

pub returns-clause-results : goal.returns-clause-results
returns-clause-results c = λ name failure w. refl

pub returns-clause-bodies : goal.returns-clause-bodies
returns-clause-bodies c = λ name l body w. refl

pub returns-clause-lists : goal.returns-clause-lists
returns-clause-lists c = fired_lists_stay

pub returns-clause-timeouts : goal.returns-clause-timeouts
returns-clause-timeouts c = λ d delay body w. refl

pub returns-clause-loops : goal.returns-clause-loops
returns-clause-loops c = turns_follow

pub returns-clause-turns : goal.returns-clause-turns
returns-clause-turns c = turns_take_bodies

pub returns-clause-tasks : goal.returns-clause-tasks
returns-clause-tasks c = ended_tasks_stay

pub returns-clause-cooperators : goal.returns-clause-cooperators
returns-clause-cooperators c = stopped_ones_take_none

pub returns-clause-joining : goal.returns-clause-joining
returns-clause-joining c = joiners_want_ticks

pub returns-clause-fair : goal.returns-clause-fair
returns-clause-fair c = fair_turns_go_round

pub returns-clause-twisted : goal.returns-clause-twisted
returns-clause-twisted c = λ a b c. refl

pub returns-clause-inline : goal.returns-clause-inline
returns-clause-inline c = name_errors_are_thrown

pub returns-clause-jobs : goal.returns-clause-jobs
returns-clause-jobs c = many_jobs_are_refused

pub returns-clause-settling : goal.returns-clause-settling
returns-clause-settling c = λ d e w. refl

pub returns-clause-actions : goal.returns-clause-actions
returns-clause-actions c = errbacks_are_for_failures

pub returns-clause-rest : goal.returns-clause-rest
returns-clause-rest c = λ itself action rest end input w. refl

pub returns-clause-calls : goal.returns-clause-calls
returns-clause-calls c = failures_of_calls_are_told

pub returns-clause-expecting : goal.returns-clause-expecting
returns-clause-expecting c = unmet_runs_end
