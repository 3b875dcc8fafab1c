use Rattle.std.proofs.Common.{◌≡◌, map, take}
use Rattle.serde_json.specs.View.{view}
use Rattle.dv_language.specs.Beside.{status_data}
use Rattle.dv_language.proofs.beside.status_rows.Given as goal

abbrev pub invariant-loop-status : goal.invariant-loop-status
invariant-loop-status l =
    map view l.rows.items ≡ map (λ status. status_data status.0 status.1.now) (take l.status-index l.statuses)
