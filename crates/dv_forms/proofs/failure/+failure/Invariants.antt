use Rattle.std.proofs.Common.{◌+◌, ◌*◌}
use Rattle.dv_document.specs.View.{json_left}
use Rattle.dv_forms.proofs.failure.+failure.Given as goal

abbrev pub decreases-failure : goal.decreases-failure
decreases-failure l = 2 * json_left l.json + 1

abbrev pub decreases-sub : goal.decreases-sub
decreases-sub l = 2 * json_left l.json
