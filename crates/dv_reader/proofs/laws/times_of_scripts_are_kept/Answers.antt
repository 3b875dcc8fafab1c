use Rattle.dv_reader.proofs.TimesKept.{times_are_kept}
use Rattle.dv_reader.proofs.laws.times_of_scripts_are_kept.Goals as goal

pub returns : goal.returns
returns c = times_are_kept
