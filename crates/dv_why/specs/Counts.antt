-- How much there is in a document.
use Rattle.std.specs.Prelude.{ℕ, zero, suc, ◌+◌, ◌*◌, if◌then◌else◌, List, Option, Some, None, option_and_then, bytes_eq, codes}
use Rattle.serde_json.specs.Data.{Data, Items, no_items, item}
use Rattle.serde_json.specs.Find.{at, get_item, as_array, as_number, as_str, as_u64}
use Rattle.dv_script.specs.declared.limits.TheConstants.{MOST_LEVELS}
use Rattle.dv_forms.specs.Repeat.{repeat_at}
use Rattle.dv_document.specs.View.{count}
use Rattle.dv_why.specs.Documents.{or_no_items, list_in}

-- how many items there are in the array of a key
abbrev pub count_in : List ℕ → Data → ℕ
count_in key d = count (list_in key d)

-- how many items the array of this number has
abbrev pub count_at : ℕ → Items → ℕ
count_at n ds = count (or_no_items (option_and_then as_array (get_item n ds)))

-- how many posts the caller of this number has
abbrev pub posts_of : ℕ → Data → ℕ
posts_of n d = count_at n (list_in (codes "callers") d)

-- by how many ticks a word and its argument advance the clock
abbrev pub ticks_by : Option (List ℕ) → Option ℕ → ℕ
ticks_by None ticks = 0
ticks_by (Some word) None = 0
ticks_by (Some word) (Some ticks) = if bytes_eq word (codes "advance") then ticks else 0

-- by how many an event that is no repeat does
abbrev pub ticks_at : Data → ℕ
ticks_at d = ticks_by (option_and_then as_str (at 0 d)) (option_and_then as_u64 (option_and_then as_number (at 1 d)))

-- by how many a repeat does, whose events do by so many, or else the event
abbrev pub ticks_listed : (Items → ℕ) → Option (ℕ × Items) → ℕ → ℕ
ticks_listed inner None ticks = ticks
ticks_listed inner (Some r) ticks = r.0 * inner r.1

-- by how many an item of an array of events does
abbrev pub listed_ticks : (Items → ℕ) → Data → ℕ
listed_ticks inner d = ticks_listed inner (repeat_at d) (ticks_at d)

-- by how many the items do in all
abbrev pub all_ticks : (Data → ℕ) → Items → ℕ
all_ticks at no_items = 0
all_ticks at (item d ds) = at d + all_ticks at ds

-- by how many the items of an array of events do, in which repeats nest to so many levels
unfoldable pub ticks_among : ℕ → Items → ℕ
ticks_among zero ds = 0
ticks_among (suc levels) ds = all_ticks (listed_ticks (ticks_among levels)) ds

-- by how many the events of a document do
abbrev pub ticks_in : Data → ℕ
ticks_in d = ticks_among MOST_LEVELS (list_in (codes "events") d)
