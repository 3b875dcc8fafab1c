-- The classes that are listed are those of the tables that scripts have.
use Rattle.std.proofs.Common.{◌≡◌, ◌++◌, drop, length, map, option_map, refl}
use Rattle.dv_value.specs.Builtin.{builtin, later_builtin}
use Rattle.dv_forms.specs.declared.versions.TheConstants.{COOPERATORS_SINCE}
use Rattle.dv_language.specs.declared.beside.TheConstants.{CLASSES}
use Rattle.dv_language.specs.Beside.{class_row, class_data}

pub listed : map (λ class. class_row class.2 class.0.now (option_map (λ parent. parent.now) class.1)) CLASSES
    ≡ map (class_data 1) builtin ++ map (class_data COOPERATORS_SINCE) (drop (length builtin) later_builtin)
unfolding builtin
listed = refl
