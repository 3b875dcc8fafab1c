-- Whether two values are equal.
use Rattle.std.specs.Prelude.{nat_eq, Bool, true, false, ◌&&◌}
use base.Stored.{Gv, gnil, gnum, gcons}
use Rattle.dv_value.specs.contracts.value.Value as value_contract
use Rattle.dv_value.specs.declared.value.Value.{Value}

-- whether two codes are equal
abbrev pub same_code : Gv → Gv → Bool
same_code gnil gnil = true
same_code gnil (gnum n) = false
same_code gnil (gcons c d) = false
same_code (gnum m) gnil = false
same_code (gnum m) (gnum n) = nat_eq m n
same_code (gnum m) (gcons c d) = false
same_code (gcons a b) gnil = false
same_code (gcons a b) (gnum n) = false
same_code (gcons a b) (gcons c d) = same_code a c && same_code b d

-- two values are equal if their codes are: each value has one of its own
abbrev pub is_same : Value → Value → Bool
is_same v w = same_code (value_contract.the_row.coded.code v) (value_contract.the_row.coded.code w)
