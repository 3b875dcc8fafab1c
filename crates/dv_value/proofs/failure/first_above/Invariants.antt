use Rattle.std.proofs.Common.{◌≡◌, drop}
use Rattle.dv_value.specs.Classes.{check}
use Rattle.dv_value.proofs.failure.first_above.Given as goal

abbrev pub invariant-loop-from : goal.invariant-loop-from
invariant-loop-from l = check l.classes l.class l.listed ≡ check l.classes l.class (drop l.from-index l.listed)
