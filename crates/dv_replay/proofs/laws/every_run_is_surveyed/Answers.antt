use Rattle.dv_replay.proofs.TwoRuns.{every_run_is_surveyed}
use Rattle.dv_replay.proofs.laws.every_run_is_surveyed.Goals as goal

pub returns : goal.returns
returns c = every_run_is_surveyed
