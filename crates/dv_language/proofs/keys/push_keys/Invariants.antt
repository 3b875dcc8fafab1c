use Rattle.std.proofs.Common.{◌≡◌, ◌++◌, map, take}
use Rattle.serde_json.specs.View.{view}
use Rattle.dv_language.specs.Keys.{key_data}
use Rattle.dv_language.proofs.keys.push_keys.Given as goal

abbrev pub invariant-loop-key : goal.invariant-loop-key
invariant-loop-key l =
    map view l.rows.items
    ≡ map view l.fn.rows.items ++ map (key_data l.keyed) (map (λ key. key.now) (take l.key-index l.keys))
