use Rattle.dv_loop.proofs.Leading.{scripts_mean_what_is_defined, every_script_leads, each_script_leads_to_one_world}
use Rattle.dv_loop.proofs.laws.scripts_mean_what_is_defined.Goals as goal

pub returns-clause-defined : goal.returns-clause-defined
returns-clause-defined c = scripts_mean_what_is_defined

pub returns-clause-ends : goal.returns-clause-ends
returns-clause-ends c = every_script_leads

pub returns-clause-one : goal.returns-clause-one
returns-clause-one c = each_script_leads_to_one_world
