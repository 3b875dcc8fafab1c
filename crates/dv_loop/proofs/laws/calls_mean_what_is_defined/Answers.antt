use Rattle.dv_loop.proofs.Leading.{occurrences_mean, runs_mean}
use Rattle.dv_loop.proofs.laws.calls_mean_what_is_defined.Goals as goal

pub returns-clause-occurrences : goal.returns-clause-occurrences
returns-clause-occurrences c = occurrences_mean

pub returns-clause-runs : goal.returns-clause-runs
returns-clause-runs c = runs_mean
