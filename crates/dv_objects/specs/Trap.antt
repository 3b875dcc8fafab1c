-- What a trap returns for its input (Twisted: `Failure.trap`).
use Rattle.std.specs.Prelude.{ℕ, List, Option, None, Some, codes}
use Rattle.dv_value.specs.Builtin.{type_error}
use Rattle.dv_value.specs.Classes.{check}
use Rattle.dv_value.specs.Failure.{class_of, fault}
use Rattle.dv_value.specs.declared.classes.Class.{Class}
use Rattle.dv_value.specs.declared.value.Value.{Value}
use Rattle.dv_value.specs.declared.value.Value.TheOpen.{Value-F}

-- the value where a class was found, or the failure itself
abbrev pub trapped_by : Option ℕ → Value → Value → Value
trapped_by (Some class) value input = value
trapped_by None value input = input

-- a failure of one of the classes is trapped; only a failure can be
abbrev pub trap_of : List Class → List ℕ → Value → Value → Value-F Value → Value
trap_of table listed value input (Value-F.Fault f) = trapped_by (check table (class_of f) listed) value input
trap_of table listed value input Value-F.Null = fault type_error (codes "trap")
trap_of table listed value input (Value-F.Bool b) = fault type_error (codes "trap")
trap_of table listed value input (Value-F.Int n) = fault type_error (codes "trap")
trap_of table listed value input (Value-F.Text t) = fault type_error (codes "trap")
trap_of table listed value input (Value-F.List vs) = fault type_error (codes "trap")
