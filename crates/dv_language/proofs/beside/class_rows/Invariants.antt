use Rattle.std.proofs.Common.{◌≡◌, map, take, option_map}
use Rattle.serde_json.specs.View.{view}
use Rattle.dv_language.specs.Beside.{class_row}
use Rattle.dv_language.proofs.beside.class_rows.Given as goal

abbrev pub invariant-loop-class : goal.invariant-loop-class
invariant-loop-class l =
    map view l.rows.items
    ≡ map (λ class. class_row class.2 class.0.now (option_map (λ parent. parent.now) class.1)) (take l.class-index l.classes)
