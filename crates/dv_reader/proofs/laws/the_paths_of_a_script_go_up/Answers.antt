use Rattle.dv_reader.proofs.TableLemmas.{script_ordered, script_paths}
use Rattle.dv_reader.proofs.laws.the_paths_of_a_script_go_up.Goals as goal

pub returns-clause-ordered : goal.returns-clause-ordered
returns-clause-ordered c = script_ordered

pub returns-clause-paths : goal.returns-clause-paths
returns-clause-paths c = script_paths
