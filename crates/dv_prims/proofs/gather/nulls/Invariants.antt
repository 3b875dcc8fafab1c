use Rattle.std.proofs.Common.{◌≡◌, replicate}
use Rattle.dv_value.specs.declared.value.Value.TheVariants.{Null}
use Rattle.dv_prims.proofs.gather.nulls.Given as goal

abbrev pub invariant-loop : goal.invariant-loop
invariant-loop l = l.items ≡ replicate l.counter Null
