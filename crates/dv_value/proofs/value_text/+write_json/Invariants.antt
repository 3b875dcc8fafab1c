use Rattle.std.proofs.Common.{◌≡◌, ◌++◌, map, drop, string_bytes}
use Rattle.dv_value.specs.ValueText.{json, rest_text, list_text}
use Rattle.dv_value.proofs.value_text.+write_json.Given as goal

abbrev pub invariant-write_list-loop-value : goal.invariant-write_list-loop-value
invariant-write_list-loop-value l =
    string_bytes l.out ++ rest_text l.later (map (json l.classes) (drop l.value-index l.values))
    ≡ string_bytes l.fn.out ++ list_text (map (json l.classes) l.values)
