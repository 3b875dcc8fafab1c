-- How much a script may have: bytes; nodes, of which each array, object and scalar is one and a key is none; classes,
-- pools, bodies, callers, posts; and ticks of the clock.
use Rattle.std.specs.Prelude.{ℕ, zero, suc, ◌+◌, ◌-◌, ◌*◌, ◌/◌, Bool, ◌&&◌, nat_le, if◌then◌else◌, List, length, map, sum}
use Rattle.std.specs.Prelude.{Option, Some, None, option_and_then, codes}
use Rattle.std.specs.List.{list_all}
use Rattle.serde_json.specs.Data.{Data, null, boolean, number, string, array, object, Items, no_items, item, Members}
use Rattle.serde_json.specs.Data.{no_members, member}
use Rattle.serde_json.specs.Find.{as_array, get, as_number, as_u64}
use Rattle.dv_document.specs.Nodes.{nodes}
use Rattle.dv_script.specs.declared.event.Event.{Event}
use Rattle.dv_script.specs.declared.event.Event.TheVariants.{Action, Advance, Drain, Expect}
use Rattle.dv_grammar.specs.declared.draft.Draft.{Draft}
use Rattle.dv_script.specs.declared.body.Body.{Body}
use Rattle.dv_script.specs.declared.limits.TheConstants.{MOST_BODIES, MOST_CALLERS, MOST_CLASSES, MOST_COOPERATORS}
use Rattle.dv_script.specs.declared.limits.TheConstants.{MOST_LEVELS, MOST_POOLS, MOST_POSTS}
use Rattle.dv_clock.specs.declared.limits.TheConstants.{MOST_TICKS}
use Rattle.dv_forms.specs.Limits.{most_bytes, most_nodes}
use Rattle.dv_forms.specs.Repeat.{repeat_at}
use Rattle.dv_forms.specs.declared.versions.TheConstants.{LAST_VERSION}

-- a version of the language that a number is, or else the first
abbrev pub or_first : Option ℕ → ℕ
or_first None = 1
or_first (Some n) = if nat_le n LAST_VERSION then n else 1

-- the most bytes that the text of this value may have: those of its version, and without a version those of the first
abbrev pub most_bytes_of : Data → ℕ
most_bytes_of d =
    most_bytes (or_first (option_and_then as_u64 (option_and_then as_number (get (codes "version") d))))

-- the weight of a JSON value in what is repeated: its nodes, and one more for each 64 bytes of a text
abbrev mutual
  pub weight : Data → ℕ
  weight null = 1
  weight (boolean b) = 1
  weight (number x) = 1
  weight (string text) = 1 + length text / 64
  weight (array ds) = 1 + item_weights ds
  weight (object ms) = 1 + member_weights ms

  pub item_weights : Items → ℕ
  item_weights no_items = 0
  item_weights (item d ds) = weight d + item_weights ds

  pub member_weights : Members → ℕ
  member_weights no_members = 0
  member_weights (member key d ms) = weight d + member_weights ms

-- how many nodes a repeat adds, so many times, of an array of this weight, in which repeats add so many
abbrev pub added_by : ℕ → ℕ → ℕ → ℕ
added_by times weight added = added + (times - 1) * (weight + added)

-- how many nodes an item of an array of events adds, where repeats in it add so many
abbrev pub added_at : (Items → ℕ) → Option (ℕ × Items) → ℕ
added_at inner None = 0
added_at inner (Some r) = added_by r.0 (weight (array r.1)) (inner r.1)

-- how many nodes the items add
abbrev pub added_among : (Items → ℕ) → Items → ℕ
added_among inner no_items = 0
added_among inner (item d ds) = added_at inner (repeat_at d) + added_among inner ds

-- how many nodes the items of an array of events add, in which repeats nest to so many levels
unfoldable pub added_in : ℕ → Items → ℕ
added_in zero ds = 0
added_in (suc levels) ds = added_among (added_in levels) ds

-- the items, where there is an array
abbrev pub or_no_items : Option Items → Items
or_no_items None = no_items
or_no_items (Some ds) = ds

-- the events of a document
abbrev pub events_of : Data → Items
events_of d = or_no_items (option_and_then as_array (get (codes "events") d))

-- how many nodes the repeats of a document add
abbrev pub added_to : Data → ℕ
added_to d = added_in MOST_LEVELS (events_of d)

-- the nodes of a document, with those that its repeats add
abbrev pub all_nodes : Data → ℕ
all_nodes d = nodes d + added_to d

-- by how many ticks an event advances the clock
abbrev pub ticks_of : Event → ℕ
ticks_of (Action a) = 0
ticks_of (Advance n) = n
ticks_of (Drain n) = 0
ticks_of (Expect name expected) = 0

-- by how many the events do in all
abbrev pub ticks_in : List Event → ℕ
ticks_in events = sum (map ticks_of events)

-- whether a caller's posts are few enough
abbrev pub are_few : List Body → Bool
are_few posts = nat_le (length posts) MOST_POSTS

-- whether a script of this JSON value is small enough
abbrev pub is_small : Data → Draft → Bool
is_small d draft =
    nat_le (all_nodes d) (most_nodes draft.version)
    && nat_le (length draft.declared) MOST_CLASSES
    && nat_le (length draft.script.pools) MOST_POOLS
    && nat_le (length draft.script.bodies) MOST_BODIES
    && nat_le (length draft.script.cooperators) MOST_COOPERATORS
    && nat_le (length draft.script.callers) MOST_CALLERS
    && list_all are_few draft.script.callers
    && nat_le (ticks_in draft.script.events) MOST_TICKS
