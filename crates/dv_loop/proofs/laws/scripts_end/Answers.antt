use Rattle.dv_loop.proofs.Total.{every_script_ends, each_script_has_one_meaning}
use Rattle.dv_loop.proofs.laws.scripts_end.Goals as goal

pub returns-clause-ends : goal.returns-clause-ends
returns-clause-ends c = every_script_ends

pub returns-clause-one : goal.returns-clause-one
returns-clause-one c = each_script_has_one_meaning
