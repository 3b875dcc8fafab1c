-- Events that repeat: ["repeat",N,[EVENT..]].
use Rattle.std.specs.Prelude.{ℕ, List, Option, Some, None, option_map, if◌then◌else◌, bytes_eq, codes}
use Rattle.serde_json.specs.Data.{Data, string, array, Items, no_items, item}
use Rattle.dv_forms.specs.declared.limits.TheConstants.{MOST_TIMES}
use Rattle.dv_forms.specs.Parts.{number_at}

-- so often, these
abbrev pub with_items : Items → Option ℕ → Option (ℕ × Items)
with_items ds times = option_map (λ n. (n, ds)) times

-- how often the events of an array happen, by the arguments of the word
unfoldable pub times_at : Items → Option (ℕ × Items)
times_at (item times (item (array ds) no_items)) = with_items ds (number_at 0 MOST_TIMES times)
times_at _ = None

-- the same of a value that is a repeat
unfoldable pub repeat_at : Data → Option (ℕ × Items)
repeat_at (array (item (string word) ds)) = if bytes_eq word (codes "repeat") then times_at ds else None
repeat_at _ = None
