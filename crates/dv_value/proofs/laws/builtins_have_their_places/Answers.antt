use Rattle.std.proofs.Common.{refl}
use Rattle.dv_value.specs.Builtin.{builtin}
use Rattle.dv_value.proofs.laws.builtins_have_their_places.Goals as goal

pub returns : goal.returns
unfolding builtin
returns c = record {
  type_error = refl;
  name_error = refl;
  assertion_error = refl;
  overflow_error = refl;
  already_called_error = refl;
  cancelled_error = refl;
  first_error = refl;
  queue_overflow = refl;
  queue_underflow = refl;
  timeout_error = refl;
  scheduler_stopped = refl;
}
